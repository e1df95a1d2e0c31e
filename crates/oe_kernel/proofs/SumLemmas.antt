-- Totals of rows: a step of each loop, and that only the cells that are added count.
use Rattle.std.proofs.Common.{◌≡◌, ℕ, zero, suc, ◌+◌, ◌<◌, refl, ap, ◌∙◌, sym, arith, add-one}
use Rattle.std.specs.Prelude.{pos}
use Rattle.oe_cell.specs.Operations.{add_of}
use Rattle.oe_cell.specs.Rational.{whole_of}
use Rattle.oe_cell.specs.declared.cell.Cell.{Cell}
use Rattle.oe_cell.specs.declared.cell.Cell.TheVariants.{Number}
use Rattle.oe_kernel.specs.Convolution.{row_added, rows_added}

pub row_added-none : (cells : ℕ → Cell) (total : Cell) → row_added cells 0 total ≡ total
unfolding row_added
row_added-none cells total = refl

pub row_added-more : (cells : ℕ → Cell) (j : ℕ) (total : Cell) → row_added cells (j + 1) total ≡ add_of (row_added cells j total) (cells j)
unfolding row_added
row_added-more cells j total = ap (λ n. row_added cells n total) (add-one j)

pub row_added-same : (f g : ℕ → Cell) (n : ℕ) (total : Cell) → ((j : ℕ) → j < n → f j ≡ g j) → row_added f n total ≡ row_added g n total
unfolding row_added
row_added-same f g zero total h = refl
row_added-same f g (suc n) total h =
    ap (λ t. add_of t (f n)) (row_added-same f g n total (λ j l. h j (omega arith))) ∙ ap (λ c. add_of (row_added g n total) c) (h n (omega arith))

pub rows_added-none : (cells : ℕ → ℕ → Cell) (width : ℕ) → rows_added cells width 0 ≡ Number (whole_of (pos 0))
unfolding rows_added
rows_added-none cells width = refl

pub rows_added-more : (cells : ℕ → ℕ → Cell) (width i : ℕ) → rows_added cells width (i + 1) ≡ row_added (cells i) width (rows_added cells width i)
unfolding rows_added
rows_added-more cells width i = ap (λ n. rows_added cells width n) (add-one i)

pub rows_added-same : (f g : ℕ → ℕ → Cell) (width n : ℕ) → ((i j : ℕ) → i < n → j < width → f i j ≡ g i j) → rows_added f width n ≡ rows_added g width n
unfolding rows_added
rows_added-same f g width zero h = refl
rows_added-same f g width (suc n) h =
    row_added-same (f n) (g n) width (rows_added f width n) (λ j l. h n j (omega arith) l) ∙ ap (λ t. row_added (g n) width t) (rows_added-same f g width n (λ i j k l. h i j (omega arith) l))

-- one more cell of a row
pub row_added-step : (cells : ℕ → Cell) (i : ℕ) (total sum next cell : Cell) → sum ≡ row_added cells i total → cell ≡ cells i → next ≡ add_of sum cell → next ≡ row_added cells (i + 1) total
row_added-step cells i total sum next cell before same after =
    after ∙ ap (λ t. add_of t cell) before ∙ ap (λ c. add_of (row_added cells i total) c) same ∙ sym (row_added-more cells i total)
