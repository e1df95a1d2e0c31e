-- The cells of one slab after the other are those of all dates.
use Rattle.std.proofs.Common.{◌≡◌, ℕ, zero, suc, ◌+◌, ◌-◌, ◌*◌, ◌<◌, ◌≤◌, Bool, List, [], ◌∷◌, ◌++◌, length, map, get_or, refl, sym, ap, ◌∙◌, subst, arith}
use Rattle.std.specs.List.{range_with_len}
use Rattle.std.proofs.lemmas.List.{map-append}
use Rattle.std.proofs.lemmas.Option.{slice_get_within, slice_get-get_or}
use Rattle.oe_cell.specs.declared.cell.Cell.{Cell}
use Rattle.oe_cell.specs.declared.cell.Cell.TheVariants.{Empty}
use Rattle.oe_dims.specs.Cube.{Cube}
use Rattle.oe_dims.specs.Positions.{Position}
use Rattle.oe_fold.specs.Columns.{column}
use Rattle.oe_fold.specs.Progress.{HasSeen}
use Rattle.oe_fold.specs.declared.pass.Pass.{Pass}
use Rattle.oe_fold.specs.declared.reducer.Reducer.{Reducer}
use Rattle.oe_window.specs.Cells.{cell_at, cells_on}
use Rattle.oe_window.specs.Windows.{IsIn, number_in, position_count, positions, span_length}
use Rattle.oe_window.specs.declared.window.Window.{Window}
use Rattle.oe_window.proofs.CellLemmas.{cells_on-get}
use Rattle.oe_window.proofs.RunLemmas.{range-append}
use Rattle.oe_window.proofs.WindowLemmas.{length-positions, position_number}
use Rattle.oe_slab.specs.Folds.{HaveSeen}
use Rattle.oe_slab.specs.Slabs.{HaveFolded, IsPlane, cells_by_date, numbered_position, slab_window}

-- ---- lists over numbers that count up

agree : (f g : ℕ → Cell) (a b n : ℕ) → ((i : ℕ) → i < n → f (a + i) ≡ g (b + i)) → map f (range_with_len a n) ≡ map g (range_with_len b n)
agree f g a b zero h = refl
agree f g a b (suc n) h =
    let here : f (a + 0) ≡ g (b + 0) = h 0 (omega arith) in
    let first : a + 0 ≡ a = omega arith in
    let other : b + 0 ≡ b = omega arith in
    let this : f a ≡ g b = ap f (sym first) ∙ (here ∙ ap g other) in
    let rest : map f (range_with_len (a + 1) n) ≡ map g (range_with_len (b + 1) n) = agree f g (a + 1) (b + 1) n (λ i lt.
    let one : a + 1 + i ≡ a + (i + 1) = omega arith in
    let two : b + (i + 1) ≡ b + 1 + i = omega arith in
    ap f one ∙ (h (i + 1) (omega arith) ∙ ap g two)) in
    ap (λ (x : Cell). x ∷ map f (range_with_len (a + 1) n)) this ∙ ap (λ (xs : List Cell). g b ∷ xs) rest

-- ---- where the cells of a slab stand

place_in_slab : (a p0 t b nb ny nx y x one : ℕ) → a ≡ t → p0 ≡ 0 → one ≡ 1
    → ((a * nb + b) * ny + y) * nx + x ≡ t * (one * nb * ny * nx) + (((p0 * nb + b) * ny + y) * nx + x)
place_in_slab a p0 t b nb ny nx y x one ea e0 e1 = rw (ea, e0, e1) (omega arith)

module _ (plane : Window) (is : IsPlane plane) (from to : ℕ) where
  in_slab : (p : Position) (t : ℕ) → IsIn plane p → from + t < to → IsIn (slab_window plane from to) (record p { t = from + t })
  in_slab p t h lt = record { t = record { begun = omega arith; before = lt }; bands = h.bands; y = h.y; x = h.x }

  number_in_slab : (p : Position) (t : ℕ) → IsIn plane p → number_in (slab_window plane from to) (record p { t = from + t }) ≡ t * position_count plane + number_in plane p
  number_in_slab p t h =
      let date : from + t - from ≡ t = omega arith in
      let begun = h.t.begun in
      let before = h.t.before in
      let only : p.t - plane.t.from ≡ 0 = omega (arith, begun, before, is) in
      place_in_slab (from + t - from) (p.t - plane.t.from) t (p.band - plane.bands.from) (span_length plane.bands) (span_length plane.y) (span_length plane.x) (p.y - plane.y.from) (p.x - plane.x.from) (span_length plane.t) date only is

  -- the position of a number is one of the plane, and has this number
  numbered : (k : ℕ) → k < position_count plane → IsIn plane (numbered_position plane k) × (k ≡ number_in plane (numbered_position plane k))
  numbered k h =
      let all = length-positions plane in
      position_number plane k (numbered_position plane k) (slice_get-get_or (positions plane) k (record { t = 0; band = 0; y = 0; x = 0 }) (omega (arith, all, h)))

  cell_in_slab : (cube : Cube Cell) (k t : ℕ) → k < position_count plane → from + t < to
      → get_or (cells_on Empty cube (slab_window plane from to)) (t * position_count plane + k) Empty ≡ cell_at Empty cube (record (numbered_position plane k) { t = from + t })
  cell_in_slab cube k t h lt =
      let p = numbered_position plane k in
      let at = numbered k h in
      let number : t * position_count plane + k ≡ number_in (slab_window plane from to) (record p { t = from + t }) =
      ap (λ n. t * position_count plane + n) at.1 ∙ sym (number_in_slab p t at.0) in
      ap (λ n. get_or (cells_on Empty cube (slab_window plane from to)) n Empty) number
      ∙ cells_on-get Empty cube (slab_window plane from to) (record p { t = from + t }) Empty (in_slab p t at.0 lt)

  -- the cells of the first dates, and behind them those of a slab, are those of the dates up to its end
  pub slab_behind : (cube : Cube Cell) (k : ℕ) → k < position_count plane → from ≤ to
      → cells_by_date cube plane from k ++ column (cells_on Empty cube (slab_window plane from to)) (position_count plane) (to - from) k
      ≡ cells_by_date cube plane to k
  slab_behind cube k h upto =
      let f : ℕ → Cell = λ t. cell_at Empty cube (record (numbered_position plane k) { t = t }) in
      let slab = cells_on Empty cube (slab_window plane from to) in
      let same : column slab (position_count plane) (to - from) k ≡ map f (range_with_len (0 + from) (to - from)) =
      agree (λ t. get_or slab (t * position_count plane + k) Empty) f 0 (0 + from) (to - from) (λ i lt.
      let date : from + i ≡ 0 + from + i = omega arith in
      let none : 0 + i ≡ i = omega arith in
      ap (λ t. get_or slab (t * position_count plane + k) Empty) none ∙ (cell_in_slab cube k i h (omega arith) ∙ ap f date)) in
      let all : from + (to - from) ≡ to = omega arith in
      ap (λ (xs : List Cell). map f (range_with_len 0 from) ++ xs) same
      ∙ (sym (map-append f (range_with_len 0 from) (range_with_len (0 + from) (to - from)))
      ∙ (ap (map f) (sym (range-append 0 from (to - from))) ∙ ap (λ n. map f (range_with_len 0 n)) all))

  -- folds that saw the dates before a slab, and then its cells, saw the dates up to its end
  pub slab_folded : (cube : Cube Cell) (reducer : Reducer) (ignores_nulls : Bool) (folds : List Pass) (cells : List Cell) (count dates : ℕ)
      → from ≤ to → length folds ≡ position_count plane → count ≡ position_count plane → dates ≡ to - from
      → cells ≡ cells_on Empty cube (slab_window plane from to)
      → HaveSeen folds reducer ignores_nulls (λ k. cells_by_date cube plane from k ++ column cells count dates k)
      → HaveFolded folds reducer ignores_nulls cube plane to
  slab_folded cube reducer ignores_nulls folds cells count dates upto long count_is dates_are are seen k fold at =
      let within = slice_get_within folds k fold at in
      let same : column cells count dates k ≡ column (cells_on Empty cube (slab_window plane from to)) (position_count plane) (to - from) k =
      rw (are, count_is, dates_are) refl in
      subst (λ ys. HasSeen fold reducer ignores_nulls ys)
      (ap (λ (ys : List Cell). cells_by_date cube plane from k ++ ys) same ∙ slab_behind cube k (omega (arith, within, long)) upto) (seen k fold at)

-- before the first date no cell was seen
pub none_folded : (cube : Cube Cell) (plane : Window) (reducer : Reducer) (ignores_nulls : Bool) (folds : List Pass)
    → HaveSeen folds reducer ignores_nulls (λ k. []) → HaveFolded folds reducer ignores_nulls cube plane 0
none_folded cube plane reducer ignores_nulls folds seen k fold at = seen k fold at
