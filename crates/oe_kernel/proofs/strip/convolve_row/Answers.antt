use Rattle.std.proofs.Common.{◌≡◌, ◌∙◌, ◌+◌, ℕ, ap, sym, arith, get_or}
use Rattle.oe_cell.specs.declared.cell.Cell.TheVariants.{Empty}
use Rattle.oe_kernel.proofs.KindLemmas.{IsAmount-by_value}
use Rattle.oe_kernel.proofs.strip.convolve_row.Goals as goal

pub returns-clause-amounts : goal.returns-clause-amounts
returns-clause-amounts c = λ k h.
    let index : 0 + k ≡ k = omega arith in
    let out = c.convolve_strips.new.out in
    IsAmount-by_value c.args.kernel.now c.args.factor c.args.border c.args.replace c.args.plane.now c.args.y (c.args.from + k) (get_or out k Empty) (λ whole part. sym (ap (λ (n : ℕ). get_or out n Empty) index) ∙ c.convolve_strips.ensures.value whole part k h)
