use Rattle.std.proofs.Common.{◌≡◌, ◌<◌, ◌≢◌, ◌∙◌, ◌+◌, ◌^◌, ℕ, ap, subst, sym, arith, length, rules, get_or-set_other, get_or-set_same, below_more, w64, FitsSigned, ℤ, ◌+ℤ◌}
use Rattle.std.specs.Prelude.{unsigned_abs}
use Rattle.oe_kernel.specs.Strips.{at}
use Rattle.oe_kernel.proofs.StripLemmas.{machine_plain_sum}
use Rattle.oe_kernel.proofs.sums.add_pixels.Goals as goal

pub loop-k-preserved : goal.loop-k-preserved
loop-k-preserved c =
    let k : ℕ = c.loop-k.k in
    let here : k < length c.loop-k.sums = omega arith in
    let sum_fits : FitsSigned w64 (at c.loop-k.sums k) = search rules in
    let pixel_fits : FitsSigned w64 (at c.args.pixels.now k) = search rules in
    let kept : at c.loop-k.sums k ≡ at c.args.sums.now k = c.loop-k.invariant.rest k (omega arith) in
    let asked : unsigned_abs (at c.args.sums.now k) + unsigned_abs (at c.args.pixels.now k) < 2 ^ 63 = c.requires.fits k (omega arith) in
    let fits : unsigned_abs (at c.loop-k.sums k) + unsigned_abs (at c.args.pixels.now k) < 2 ^ 63 = subst (λ (z : ℤ). unsigned_abs z + unsigned_abs (at c.args.pixels.now k) < 2 ^ 63) (sym kept) asked in
    let value = machine_plain_sum (at c.loop-k.sums k) (at c.args.pixels.now k) sum_fits pixel_fits fits in
    record {
      done = below_more _ _
          (λ j h. let ne : j ≢ k = omega arith in rw get_or-set_other (c.loop-k.invariant.done j h))
          (rw get_or-set_same (value ∙ ap (λ (z : ℤ). z +ℤ at c.args.pixels.now k) kept));
      rest = λ j h. let ne : j ≢ k = omega arith in rw get_or-set_other (c.loop-k.invariant.rest j (omega arith));
    }
