-- How many cells a part has at most.
use Rattle.std.proofs.Common.{◌≡◌, ℕ, zero, suc, ◌+◌, ◌-◌, ◌*◌, ◌/◌, ◌%◌, ◌<◌, ◌≤◌, ◌^◌, ◌==◌, min, inl, inr, Bool, true, false, if◌then◌else◌, [], map, refl, ap, arith}
use Rattle.std.specs.List.{range_with_len, sum_by}
use Rattle.std.proofs.Math.Nat.{div-mul-le_self}
use Rattle.std.proofs.lemmas.Bool.{cases_lt}
use Rattle.std.proofs.lemmas.List.Sums.{sum_by-cons}
use Rattle.std.proofs.lemmas.Nat.{mul-le}
use Rattle.oe_dims.specs.Dimensions.{cell_count}
use Rattle.oe_dims.proofs.ShapeLemmas.{cell_count_within}
use Rattle.oe_window.specs.Chunks.{Tiling, chunk_window, part_span, parts_along}
use Rattle.oe_window.specs.Windows.{position_count, span_below, span_length}
use Rattle.oe_window.specs.declared.window.Window.{Window}
use Rattle.oe_parts.specs.Head.{IsPartHead, PartHead, chunk_total, grid_of}
use Rattle.oe_parts.proofs.CellLemmas.{cells_until}

-- ---- along one dimension

part_within : (n s i : ℕ) → span_length (part_span n s i) ≤ min s n
part_within n s i = omega arith

many_parts : (q n s : ℕ) → s ≤ n → q * s ≤ n + s - 1 → q * min s n ≤ 2 * n
many_parts q n s ge back =
    let side : min s n ≡ s = omega (arith, ge) in
    let same : q * min s n ≡ q * s = ap (λ (m : ℕ). q * m) side in
    omega (arith, ge, back, same)

one_part : (q n s : ℕ) → n < s → q * s ≤ n + s - 1 → q * min s n ≤ 2 * n
one_part q n s lt back =
    let side : min s n ≡ n = omega (arith, lt) in
    let same : q * min s n ≡ q * n = ap (λ (m : ℕ). q * m) side in
    let few : q ≤ 1 = elim (cases_lt 1 q) [
      | inr le ↦ le
      | inl two ↦ (let more : 2 * s ≤ q * s = mul-le 2 s q s (omega (arith, two)) (omega arith) in absurd (omega (arith, more, back, lt)))
    ] in
    let once : q * n ≤ 1 * n = mul-le q n 1 n few (omega arith) in
    omega (arith, once, same)

-- parts of a side make at most twice the indices, where no part is longer than the dimension
parts_twice : (n s : ℕ) → parts_along n s * min s n ≤ 2 * n
parts_twice n s =
    let back : parts_along n s * s ≤ n + s - 1 = div-mul-le_self (n + s - 1) s in
    elim (cases_lt n s) [
      | inl lt ↦ one_part (parts_along n s) n s lt back
      | inr ge ↦ many_parts (parts_along n s) n s ge back
    ]

-- ---- products

product_within : (a b c d m n o p : ℕ) → a ≤ m → b ≤ n → c ≤ o → d ≤ p → a * b * c * d ≤ m * n * o * p
product_within a b c d m n o p ha hb hc hd =
    let two : a * b ≤ m * n = mul-le a b m n ha hb in
    let three : a * b * c ≤ m * n * o = mul-le (a * b) c (m * n) o two hc in
    mul-le (a * b * c) d (m * n * o) p three hd

regroup : (p q r a b c d t y x : ℕ) → p * a ≤ 2 * t → q * c ≤ 2 * y → r * d ≤ 2 * x → p * q * r * (a * b * c * d) ≤ 8 * (t * b * y * x)
regroup p q r a b c d t y x ht hy hx =
    let all : p * a * b * (q * c) * (r * d) ≤ 2 * t * b * (2 * y) * (2 * x) = product_within (p * a) b (q * c) (r * d) (2 * t) b (2 * y) (2 * x) ht (omega arith) hy hx in
    let left : p * q * r * (a * b * c * d) ≡ p * a * b * (q * c) * (r * d) = omega arith in
    let right : 2 * t * b * (2 * y) * (2 * x) ≡ 8 * (t * b * y * x) = omega arith in
    omega (arith, all, left, right)

-- ---- chunks

-- the most cells of a chunk
abbrev chunk_room : Tiling → ℕ
chunk_room g = min g.side_t g.t * g.bands * min g.side_y g.y * min g.side_x g.x

chunk_within_room : (g : Tiling) (k : ℕ) → position_count (chunk_window g k) ≤ chunk_room g
chunk_within_room g k =
    let w = chunk_window g k in
    let bands : span_length (span_below g.bands) ≤ g.bands = omega arith in
    product_within (span_length w.t) (span_length w.bands) (span_length w.y) (span_length w.x) (min g.side_t g.t) g.bands (min g.side_y g.y) (min g.side_x g.x)
    (part_within g.t g.side_t (k / parts_along g.x g.side_x / parts_along g.y g.side_y)) bands (part_within g.y g.side_y (k / parts_along g.x g.side_x % parts_along g.y g.side_y)) (part_within g.x g.side_x (k % parts_along g.x g.side_x))

sum_within : (f : ℕ → Window) (most a n : ℕ) → ((k : ℕ) → position_count (f k) ≤ most) → sum_by position_count (map f (range_with_len a n)) ≤ n * most
sum_within f most a zero each =
    let none : sum_by position_count [] ≡ 0 = refl in
    omega (arith, none)
sum_within f most a (suc n) each =
    let more : suc n * most ≡ most + n * most = omega arith in
    let all = sum_by-cons position_count (f a) (map f (range_with_len (a + 1) n)) in
    omega (arith, more, all, each a, sum_within f most (a + 1) n each)

at_most_all : (b : Bool) (n : ℕ) → (if b then 0 else n) ≤ n
at_most_all true n = omega arith
at_most_all false n = omega arith

-- the first chunks of a part have no more cells than eight results, so that each offset among their records fits 64 bits
pub part_few : (h : PartHead) (n : ℕ) → IsPartHead h → n ≤ h.end - h.first → cells_until h n ≤ 2 ^ 43
part_few h n valid le =
    let g = grid_of h in
    let p = parts_along g.t g.side_t in
    let q = parts_along g.y g.side_y in
    let r = parts_along g.x g.side_x in
    let all : chunk_total h ≤ p * q * r = at_most_all (g.bands == 0) (p * q * r) in
    let count : n ≤ p * q * r = below_all h.first h.end (chunk_total h) (p * q * r) n le valid.within all in
    let each : cells_until h n ≤ n * chunk_room g = sum_within (chunk_window g) (chunk_room g) h.first n (chunk_within_room g) in
    let rows : n * chunk_room g ≤ p * q * r * chunk_room g = mul-le n (chunk_room g) (p * q * r) (chunk_room g) count (omega arith) in
    let room : p * q * r * chunk_room g ≤ 8 * cell_count h.shape =
    regroup p q r (min g.side_t g.t) g.bands (min g.side_y g.y) (min g.side_x g.x) g.t g.y g.x (parts_twice g.t g.side_t) (parts_twice g.y g.side_y) (parts_twice g.x g.side_x) in
    few_of (cells_until h n) (n * chunk_room g) (p * q * r * chunk_room g) (cell_count h.shape) each rows room (cell_count_within h.shape valid.shape)
  where
    below_all : (first end total all n : ℕ) → n ≤ end - first → end ≤ total → total ≤ all → n ≤ all
    below_all first end total all n le within few = omega arith

    few_of : (a b c d : ℕ) → a ≤ b → b ≤ c → c ≤ 8 * d → d ≤ 2 ^ 40 → a ≤ 2 ^ 43
    few_of a b c d ab bc cd most = omega arith
