-- The numbers of a row's positions.
use Rattle.std.proofs.Common.{◌≡◌, ℕ, zero, suc, ◌+◌, ◌-◌, ◌*◌, ◌/◌, ◌%◌, ◌<◌, ◌≤◌, length, get_or, sym, ap, arith}
use Rattle.std.proofs.Math.Nat.{le-mul_of_pos_right, div-lt_iff_lt-mul}
use Rattle.std.proofs.lemmas.Option.{slice_get_within}
use Rattle.oe_window.proofs.ChunkLemmas.{digits_number}
use Rattle.oe_window.proofs.WindowLemmas.{position_at, length-positions}
use Rattle.oe_dims.specs.Positions.{Position}
use Rattle.oe_window.specs.Windows.{IsIn, span_length, positions, position_count, number_in}
use Rattle.oe_window.specs.declared.window.Window.{Window}
use Rattle.oe_ops.specs.Slices.{IsCounted, cell_of, at_indices, along_x}
use Rattle.oe_ops.specs.declared.slice.Slice.{Slice}
use Rattle.oe_cell.specs.declared.cell.Cell.TheVariants.{Empty}

-- a position has a number below the count
pub number_below : (w : Window) (p : Position) → IsIn w p → number_in w p < position_count w
number_below w p h =
    let long = length-positions w in
    omega (arith, slice_get_within (positions w) (number_in w p) p (position_at w p h))

-- each step on the way to a number is at most the number
pub record AreOnTheWay (w : Window) (p : Position) : Type 0 where
  pub t : w.t.from ≤ p.t
  pub bands : w.bands.from ≤ p.band
  pub y : w.y.from ≤ p.y
  pub x : w.x.from ≤ p.x
  pub band : (p.t - w.t.from) * span_length w.bands + (p.band - w.bands.from) ≤ number_in w p
  pub row : ((p.t - w.t.from) * span_length w.bands + (p.band - w.bands.from)) * span_length w.y + (p.y - w.y.from) ≤ number_in w p
  pub below : number_in w p < position_count w

pub on_the_way : (w : Window) (p : Position) → IsIn w p → AreOnTheWay w p
on_the_way w p h =
    let t = h.t in
    let bands = h.bands in
    let y = h.y in
    let x = h.x in
    let band = (p.t - w.t.from) * span_length w.bands + (p.band - w.bands.from) in
    let row = band * span_length w.y + (p.y - w.y.from) in
    let ny : 0 < span_length w.y = omega arith in
    let nx : 0 < span_length w.x = omega arith in
    let one : band ≤ band * span_length w.y = le-mul_of_pos_right band ny in
    let two : row ≤ row * span_length w.x = le-mul_of_pos_right row nx in
    record { t = omega arith; bands = omega arith; y = omega arith; x = omega arith; band = omega arith; row = omega arith; below = number_below w p h }

-- the number of a position further along_x x
pub number_along : (w : Window) (p : Position) (i : ℕ) → w.x.from ≤ p.x → number_in w (along_x p i) ≡ number_in w p + i
number_along w p i h = omega arith

-- ---- rows of a window

-- a window whose count is not 0 has a index along_x each dimension
pub record AreSome (w : Window) : Type 0 where
  pub t : 0 < span_length w.t
  pub bands : 0 < span_length w.bands
  pub y : 0 < span_length w.y
  pub x : 0 < span_length w.x

product_some : (a b : ℕ) → 0 < a * b → (0 < a) × (0 < b)
product_some zero b h = absurd (omega arith)
product_some (suc a) zero h = absurd (omega arith)
product_some (suc a) (suc b) h = (omega arith, omega arith)

pub are_some : (w : Window) → 0 < position_count w → AreSome w
are_some w h =
    let x = product_some (span_length w.t * span_length w.bands * span_length w.y) (span_length w.x) h in
    let y = product_some (span_length w.t * span_length w.bands) (span_length w.y) x.0 in
    let t = product_some (span_length w.t) (span_length w.bands) y.0 in
    record { t = t.0; bands = t.1; y = y.1; x = x.1 }

-- the first position of the row of a number
abbrev pub row_start : Window → ℕ → Position
row_start w r = at_indices (w.t.from + r / span_length w.y / span_length w.bands) (w.bands.from + r / span_length w.y % span_length w.bands) (w.y.from + r % span_length w.y) w.x.from

-- each index of a row lies in the window, and its number is that of the row's begin and its index
pub record IsRowOf (w : Window) (r i : ℕ) : Type 0 where
  pub inside : IsIn w (along_x (row_start w r) i)
  pub number : number_in w (along_x (row_start w r) i) ≡ r * span_length w.x + i

back : (a b : ℕ) → a + b - a ≡ b
back a b = omega arith

pub in_row_of : (w : Window) (r i : ℕ) → AreSome w → r < span_length w.t * span_length w.bands * span_length w.y → i < span_length w.x → IsRowOf w r i
in_row_of w r i some hr hi =
    let nb = span_length w.bands in
    let ny = span_length w.y in
    let b_some = some.bands in
    let y_some = some.y in
    let digits = digits_number r nb ny in
    let y : r % ny < ny = omega arith in
    let b : r / ny % nb < nb = omega arith in
    let rows : r / ny < span_length w.t * nb = (div-lt_iff_lt-mul y_some).1 hr in
    let t : r / ny / nb < span_length w.t = (div-lt_iff_lt-mul b_some).1 rows in
    record {
      inside = record {
        t = record { begun = omega arith; before = omega arith };
        bands = record { begun = omega arith; before = omega arith };
        y = record { begun = omega arith; before = omega arith };
        x = record { begun = omega arith; before = omega arith };
      };
      number = rw (back w.t.from (r / ny / nb), back w.bands.from (r / ny % nb), back w.y.from (r % ny), back w.x.from i) (ap (λ q. q * span_length w.x + i) digits);
    }

-- ---- a row of a slice

pub row_ends : (slice : Slice) (p : Position) (count : ℕ) → 0 < count → IsCounted slice → ((k : ℕ) → k < count → IsIn slice.window (along_x p k)) → number_in slice.window p + count ≤ length slice.cells.now
row_ends slice p count some counted inside =
    let last = inside (count - 1) (omega arith) in
    let first = inside 0 some in
    let begun = first.x in
    let below = number_below slice.window (along_x p (count - 1)) last in
    let number = number_along slice.window p (count - 1) (omega arith) in
    omega arith

pub row_reads : (slice : Slice) (p : Position) (count k : ℕ) → 0 < count → ((k : ℕ) → k < count → IsIn slice.window (along_x p k)) → k < count → get_or slice.cells.now (number_in slice.window p + k) Empty ≡ cell_of slice (along_x p k)
row_reads slice p count k some inside lt =
    let begun = (inside 0 some).x in
    ap (λ n. get_or slice.cells.now n Empty) (sym (number_along slice.window p k (omega arith)))
