use Rattle.std.proofs.Common.{◌≡◌, ◌<◌, ◌∙◌, ◌+◌, ℕ, ap, sym, arith, below_more, length, rules, w64, to_z, of_z, FitsSigned, pos}
use Rattle.std.specs.Prelude.{unsigned_abs}
use Rattle.std.proofs.lemmas.Int.{to_z-of_z}
use Rattle.std.proofs.lemmas.List.{get_or_read}
use Rattle.oe_cell.specs.Fraction.{Fraction}
use Rattle.oe_cell.specs.Rational.{whole_of}
use Rattle.oe_kernel.specs.Strips.{num_at, weight_of}
use Rattle.oe_kernel.proofs.StripLemmas.{weight_of-none, weight_of-next}
use Rattle.oe_kernel.proofs.sums.bound_of.Goals as goal

pub loop-j-init : goal.loop-j-init
loop-j-init c = record { whole = λ i h. absurd (omega arith); weight = sym (weight_of-none _ _) }

pub loop-j-preserved : goal.loop-j-preserved
loop-j-preserved c =
    let j : ℕ = c.loop-j.j in
    let values = c.values-values.result.now in
    let inside : j < length values = omega arith in
    let read = get_or_read values j c.index-values-j.result inside c.index-values-j.is (whole_of (pos 0)) in
    let read_again = get_or_read values j c.index-values-j-in-loop-j.result inside c.index-values-j-in-loop-j.is (whole_of (pos 0)) in
    let fits : FitsSigned w64 c.num.result = search rules in
    let num : to_z w64 (of_z w64 c.num.result) ≡ num_at values j = to_z-of_z w64 c.num.result fits ∙ c.num.ensures.value ∙ ap (λ (q : Fraction). q.num) read_again in
    let size = c.unsigned_abs.ensures.value in
    let sum = c.in_ok-weight.ensures in
    let before : c.loop-j.weight ≡ weight_of values 0 j = c.loop-j.invariant.weight in
    let next : weight_of values 0 (j + 1) ≡ weight_of values 0 j + unsigned_abs (num_at values j) = weight_of-next values j in
    let sized : c.unsigned_abs.result ≡ unsigned_abs (num_at values j) = size ∙ ap unsigned_abs num in
    record {
      whole = below_more _ _ c.loop-j.invariant.whole (sym (ap (λ (q : Fraction). q.den) read) ∙ sym c.den.ensures.value ∙ c.if-den-ne1.false);
      weight = sum.1 ∙ omega arith;
    }
