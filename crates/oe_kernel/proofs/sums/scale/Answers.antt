use Rattle.std.proofs.Common.{◌∙◌, ap, sym, rules, w64, to_z, FitsSigned, ℤ}
use Rattle.std.proofs.lemmas.Int.{to_z-of_z}
use Rattle.oe_cell.specs.Operations.{multiply_of}
use Rattle.oe_cell.specs.Rational.{whole_of}
use Rattle.oe_cell.specs.declared.cell.Cell.{Cell}
use Rattle.oe_cell.specs.declared.cell.Cell.TheVariants.{Number}
use Rattle.oe_kernel.proofs.TotalLemmas.{lowest_whole}
use Rattle.oe_kernel.proofs.StripLemmas.{times_one}
use Rattle.oe_kernel.proofs.sums.scale.Goals as goal

pub returns-then-num-eq1 : goal.returns-then-num-eq1
returns-then-num-eq1 c =
    let fits : FitsSigned w64 c.num.result = search rules in
    let one = sym c.num.ensures.value ∙ sym (to_z-of_z w64 c.num.result fits) ∙ ap (to_z w64) c.if-num-eq1.true in
    c.whole_cell-cell.ensures ∙ ap (λ (z : ℤ). Number (whole_of z)) (to_z-of_z w64 c.args.sum c.ranges.sum) ∙ times_one c.args.sum c.args.factor c.requires (sym c.den.ensures.value ∙ c.if-den-eq1.true) one

pub returns : goal.returns
returns c =
    c.multiply.ensures.value ∙ ap (λ (x : Cell). multiply_of x (Number c.args.factor)) (c.whole_cell-cell.ensures ∙ ap (λ (z : ℤ). Number (whole_of z)) (to_z-of_z w64 c.args.sum c.ranges.sum) ∙ sym (lowest_whole c.args.sum c.requires))
