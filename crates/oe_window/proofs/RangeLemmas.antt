-- Lists of numbers that count up.
use Rattle.std.proofs.Common.{◌≡◌, ℕ, zero, suc, ◌+◌, ◌<◌, ap, ◌∙◌, arith, Some}
use Rattle.std.specs.List.{slice_get, range_with_len}
use Rattle.std.proofs.lemmas.Option.{same_Some}

pub slice_get-range : (a n i : ℕ) → i < n → slice_get (range_with_len a n) i ≡ Some (a + i)
slice_get-range a zero i h = absurd (omega arith)
slice_get-range a (suc n) zero h = let same : a ≡ a + 0 = omega arith in ap Some same
slice_get-range a (suc n) (suc i) h =
    let next : a + 1 + i ≡ a + suc i = omega arith in slice_get-range (a + 1) n i (omega arith) ∙ ap Some next

pub range-slice_get : (a n i v : ℕ) → slice_get (range_with_len a n) i ≡ Some v → (i < n) × (v ≡ a + i)
range-slice_get a zero i v e = cc
range-slice_get a (suc n) zero v e = let same : a ≡ v = same_Some a v e in (omega arith, omega arith)
range-slice_get a (suc n) (suc i) v e =
    let rest = range-slice_get (a + 1) n i v e in
    let within = rest.0 in
    let at_index = rest.1 in
    (omega arith, omega arith)
