-- How many cells the first chunks of a range have.
use Rattle.std.proofs.Common.{◌≡◌, ℕ, zero, suc, ◌+◌, ◌-◌, ◌≤◌, ◌^◌, [], map, refl, ap, ◌∙◌, arith}
use Rattle.std.specs.List.{range_with_len, sum_by}
use Rattle.std.proofs.lemmas.List.Sums.{sum_by-cons}
use Rattle.oe_dims.specs.Dimensions.{IsShape}
use Rattle.oe_dims.proofs.ShapeLemmas.{cell_count_within}
use Rattle.oe_window.specs.Chunks.{chunk_window}
use Rattle.oe_window.specs.Windows.{Holds, position_count, whole_window}
use Rattle.oe_window.specs.declared.window.Window.{Window}
use Rattle.oe_window.proofs.ChunkLemmas.{chunk_positions}
use Rattle.oe_window.proofs.WholeLemmas.{count_within}
use Rattle.oe_parts.specs.Head.{AreSides, PartHead, grid_of}
use Rattle.oe_parts.specs.PartFile.{part_cells}
use Rattle.oe_parts.proofs.SizeLemmas.{is_tiling}

-- a chunk lies within the shape
pub chunk_within : (h : PartHead) (k : ℕ) → AreSides h.sides → IsShape h.shape → Holds (whole_window h.shape) (chunk_window (grid_of h) k)
chunk_within h k sides shape p inside =
    let there = ((chunk_positions (grid_of h) k (is_tiling h.shape h.sides sides shape) p).0 inside).0 in
    record {
      t = record { begun = omega arith; before = there.t };
      bands = record { begun = omega arith; before = there.bands };
      y = record { begun = omega arith; before = there.y };
      x = record { begun = omega arith; before = there.x };
    }

pub chunk_few : (h : PartHead) (k : ℕ) → AreSides h.sides → IsShape h.shape → position_count (chunk_window (grid_of h) k) ≤ 2 ^ 40
chunk_few h k sides shape =
    omega (arith, count_within h.shape (chunk_window (grid_of h) k) (chunk_within h k sides shape), cell_count_within h.shape shape)

-- ---- sums over the first chunks

abbrev pub cells_until : PartHead → ℕ → ℕ
cells_until h n = sum_by position_count (map (chunk_window (grid_of h)) (range_with_len h.first n))

pub sum_from : (f : ℕ → Window) (a n : ℕ) → sum_by position_count (map f (range_with_len a (suc n))) ≡ sum_by position_count (map f (range_with_len a n)) + position_count (f (a + n))
sum_from f a zero =
    let same : a + 0 ≡ a = omega arith in
    let last : position_count (f (a + 0)) ≡ position_count (f a) = ap (λ (k : ℕ). position_count (f k)) same in
    let none : sum_by position_count [] ≡ 0 = refl in
    omega (arith, sum_by-cons position_count (f a) [], last, none)
sum_from f a (suc n) =
    let same : a + 1 + n ≡ a + suc n = omega arith in
    let more = sum_by-cons position_count (f a) (map f (range_with_len (a + 1) (suc n))) in
    let few = sum_by-cons position_count (f a) (map f (range_with_len (a + 1) n)) in
    let rest = sum_from f (a + 1) n in
    let last : position_count (f (a + 1 + n)) ≡ position_count (f (a + suc n)) = ap (λ (k : ℕ). position_count (f k)) same in
    omega (arith, more, few, rest, last)

pub until_more : (h : PartHead) (n : ℕ) → cells_until h (n + 1) ≡ cells_until h n + position_count (chunk_window (grid_of h) (h.first + n))
until_more h n = let next : n + 1 ≡ suc n = omega arith in ap (cells_until h) next ∙ sum_from (chunk_window (grid_of h)) h.first n

pub until_less : (h : PartHead) (n m : ℕ) → cells_until h n ≤ cells_until h (n + m)
until_less h n zero = let same : n + 0 ≡ n = omega arith in omega (arith, ap (cells_until h) same)
until_less h n (suc m) =
    let same : n + m + 1 ≡ n + suc m = omega arith in
    omega (arith, until_less h n m, until_more h (n + m), ap (cells_until h) same)

pub until_below : (h : PartHead) (n : ℕ) → n ≤ h.end - h.first → cells_until h n ≤ part_cells h
until_below h n le =
    let rest = h.end - h.first - n in
    let same : n + rest ≡ h.end - h.first = omega (arith, le) in
    omega (arith, until_less h n rest, ap (cells_until h) same)
