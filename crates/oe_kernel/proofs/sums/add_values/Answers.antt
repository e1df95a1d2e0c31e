use Rattle.std.proofs.Common.{◌≡◌, ◌<◌, ◌≤◌, ◌∙◌, ◌+◌, ◌*◌, ◌^◌, ℕ, ap, sym, subst, arith, length, rules, w64, to_z, of_z, FitsSigned, ℤ, pos, ◌+ℤ◌, ◌*ℤ◌}
use Rattle.std.specs.Prelude.{unsigned_abs}
use Rattle.std.specs.List.{slice_range}
use Rattle.std.proofs.lemmas.Int.{to_z-of_z}
use Rattle.std.proofs.lemmas.List.{get_or_read}
use Rattle.oe_cell.specs.Fraction.{Fraction}
use Rattle.oe_cell.specs.Rational.{whole_of}
use Rattle.oe_cell.specs.Exact.{cell_of_lowest}
use Rattle.oe_kernel.specs.Strips.{at, num_at, weight_of}
use Rattle.oe_kernel.proofs.SumLemmas.{row_added-none}
use Rattle.oe_kernel.proofs.StripLemmas.{weight_of-none, weight_of-next, weight_of-grows, room, product_added, size_added}
use Rattle.oe_kernel.proofs.WindowLemmas.{get_or-slice_range}
use Rattle.oe_kernel.proofs.sums.add_values.Goals as goal

pub loop-j-init : goal.loop-j-init
loop-j-init c = record {
  same = λ k h. sym (row_added-none _ _);
  size = λ k h. let none : weight_of c.args.values.now 0 0 ≡ 0 = weight_of-none c.args.values.now 0 in omega arith;
}

pub add_weighted-requires-clause-fits : goal.add_weighted-requires-clause-fits
add_weighted-requires-clause-fits c = λ k h.
    let j : ℕ = c.loop-j.j in
    let values = c.args.values.now in
    let pixels = c.args.pixels.now in
    let n : ℕ = length c.loop-j.sums in
    let inside : j < length values = omega arith in
    let place : j + k < length pixels = omega arith in
    let read = get_or_read values j c.index-values-j.result inside c.index-values-j.is (whole_of (pos 0)) in
    let num_fits : FitsSigned w64 c.num.result = search rules in
    let num : to_z w64 (of_z w64 c.num.result) ≡ num_at values j = to_z-of_z w64 c.num.result num_fits ∙ c.num.ensures.value ∙ ap (λ (q : Fraction). q.num) read in
    let pixel : at (slice_range pixels j (j + n)) k ≡ at pixels (j + k) = get_or-slice_range pixels j (j + n) k (pos 0) (omega arith) in
    let more : weight_of values 0 (j + 1) ≡ weight_of values 0 j + unsigned_abs (num_at values j) = weight_of-next values j in
    let grows : weight_of values 0 (j + 1) ≤ weight_of values 0 (length values) = weight_of-grows values 0 (j + 1) (length values) (omega arith) in
    let fits : unsigned_abs (at c.loop-j.sums k) + unsigned_abs (num_at values j) * unsigned_abs (at pixels (j + k)) < 2 ^ 63 = room (unsigned_abs (at c.loop-j.sums k)) (unsigned_abs (at c.args.sums.now k)) (weight_of values 0 j) (unsigned_abs (num_at values j)) (weight_of values 0 (length values)) c.args.bound (unsigned_abs (at pixels (j + k))) (c.loop-j.invariant.size k h) (omega arith) (c.requires.fits k (omega arith)) (c.requires.within (j + k) place) in
    subst (λ (z : ℤ). unsigned_abs (at c.loop-j.sums k) + unsigned_abs z * unsigned_abs (at (slice_range pixels j (j + n)) k) < 2 ^ 63) (sym num) (subst (λ (z : ℤ). unsigned_abs (at c.loop-j.sums k) + unsigned_abs (num_at values j) * unsigned_abs z < 2 ^ 63) (sym pixel) fits)

pub loop-j-preserved : goal.loop-j-preserved
loop-j-preserved c =
    let j : ℕ = c.loop-j.j in
    let values = c.args.values.now in
    let pixels = c.args.pixels.now in
    let n : ℕ = length c.loop-j.sums in
    let inside : j < length values = omega arith in
    let read = get_or_read values j c.index-values-j.result inside c.index-values-j.is (whole_of (pos 0)) in
    let num_fits : FitsSigned w64 c.num.result = search rules in
    let num : to_z w64 (of_z w64 c.num.result) ≡ num_at values j = to_z-of_z w64 c.num.result num_fits ∙ c.num.ensures.value ∙ ap (λ (q : Fraction). q.num) read in
    let more : weight_of values 0 (j + 1) ≡ weight_of values 0 j + unsigned_abs (num_at values j) = weight_of-next values j in
    let grows : weight_of values 0 (j + 1) ≤ weight_of values 0 (length values) = weight_of-grows values 0 (j + 1) (length values) (omega arith) in
    let added : (k : ℕ) → k < n → at c.add_weighted.new.sums k ≡ at c.loop-j.sums k +ℤ num_at values j *ℤ at pixels (j + k) = λ k h.
    c.add_weighted.ensures k h ∙ ap (λ (z : ℤ). at c.loop-j.sums k +ℤ z *ℤ at (slice_range pixels j (j + n)) k) num ∙ ap (λ (z : ℤ). at c.loop-j.sums k +ℤ num_at values j *ℤ z) (get_or-slice_range pixels j (j + n) k (pos 0) (omega arith)) in
    let turn : (k : ℕ) → at pixels (j + k) ≡ at pixels (k + j) = λ k. ap (λ (m : ℕ). at pixels m) (omega arith) in
    let fits : (k : ℕ) → k < n → unsigned_abs (at c.loop-j.sums k) + unsigned_abs (num_at values j) * unsigned_abs (at pixels (k + j)) < 2 ^ 63 = λ k h.
    room (unsigned_abs (at c.loop-j.sums k)) (unsigned_abs (at c.args.sums.now k)) (weight_of values 0 j) (unsigned_abs (num_at values j)) (weight_of values 0 (length values)) c.args.bound (unsigned_abs (at pixels (k + j))) (c.loop-j.invariant.size k h) (omega arith) (c.requires.fits k (omega arith)) (c.requires.within (k + j) (omega arith)) in
    record {
      same = λ k h. product_added values pixels k j (cell_of_lowest (at c.args.sums.now k) 1) (at c.loop-j.sums k) (at c.add_weighted.new.sums k) (c.requires.whole j inside) (fits k (omega arith)) (c.loop-j.invariant.same k (omega arith)) (added k (omega arith) ∙ ap (λ (z : ℤ). at c.loop-j.sums k +ℤ num_at values j *ℤ z) (turn k));
      size = λ k h. size_added (at c.loop-j.sums k) (num_at values j) (at pixels (j + k)) (at c.add_weighted.new.sums k) (unsigned_abs (at c.args.sums.now k)) (weight_of values 0 j) (weight_of values 0 (j + 1)) c.args.bound (added k (omega arith)) (c.loop-j.invariant.size k (omega arith)) (c.requires.within (j + k) (omega arith)) (omega arith);
    }
