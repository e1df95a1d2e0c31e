use Rattle.std.proofs.Common.{◌<◌, ◌≤◌, ◌^◌, arith, sym, ap, ◌∙◌, w64, ℤ}
use Rattle.std.specs.Prelude.{unsigned_abs}
use Rattle.std.proofs.lemmas.Int.{ints, to_z-of_z}
use Rattle.oe_cell.specs.Rational.{whole_of}
use Rattle.oe_cell.specs.declared.cell.Cell.TheVariants.{Number}
use Rattle.oe_kernel.proofs.TotalLemmas.{lowest_whole, lowest_over}
use Rattle.oe_kernel.proofs.total.whole_or_over.Goals as goal

pub returns-then-number-eqminus9223372036854775808 : goal.returns-then-number-eqminus9223372036854775808
returns-then-number-eqminus9223372036854775808 c =
    let size : 2 ^ 63 ≤ unsigned_abs c.args.number = omega (arith, ints) in
    sym (lowest_over c.args.number size)

pub returns : goal.returns
returns c =
    let size : unsigned_abs c.args.number < 2 ^ 63 = omega (arith, ints) in
    c.whole.ensures ∙ ap (λ (z : ℤ). Number (whole_of z)) (to_z-of_z w64 c.args.number c.ranges.number) ∙ sym (lowest_whole c.args.number size)
