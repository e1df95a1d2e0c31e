use Rattle.std.proofs.Common.{◌≡◌, ◌<◌, ◌^◌, w64, ℤ, unsigned_abs, Some, to_z, of_z, ap, sym, ◌∙◌, subst, arith}
use Rattle.std.proofs.lemmas.Int.{to_z-of_z}
use Rattle.oe_cell.specs.Kinds.{IsNumeric}
use Rattle.oe_cell.specs.declared.cell.Cell.{Cell}
use Rattle.oe_cell.specs.declared.cell.Cell.TheVariants.{Number}
use Rattle.oe_wide.proofs.NineLemmas.{IsWholeCell, whole_from_nine, number_is, least_is_far}
use Rattle.oe_wide.proofs.narrow.whole.Goals as goal

pub returns-then-num-eqminus9223372036854775808-clause-complete :
    goal.returns-then-num-eqminus9223372036854775808-clause-complete
returns-then-num-eqminus9223372036854775808-clause-complete c cell h =
    let w : IsWholeCell c.args.num cell = whole_from_nine c.args.num cell c.ranges.num h in
    absurd (least_is_far c.args.num c.ranges.num c.if-num-eqminus9223372036854775808.true (subst (λ (z : ℤ). unsigned_abs z < 2 ^ 63) w.num_is w.number.num_fits))

pub returns-else-num-eqminus9223372036854775808-clause-complete :
    goal.returns-else-num-eqminus9223372036854775808-clause-complete
returns-else-num-eqminus9223372036854775808-clause-complete c cell h =
    let w : IsWholeCell c.args.num cell = whole_from_nine c.args.num cell c.ranges.num h in
    ap Some (c.whole_cell.ensures
    ∙ sym (w.cell_is ∙ number_is w.value (to_z w64 (of_z w64 c.args.num)) 1 (w.num_is ∙ sym (to_z-of_z w64 c.args.num c.ranges.num)) w.den_is))

pub returns-else-num-eqminus9223372036854775808-clause-numeric :
    goal.returns-else-num-eqminus9223372036854775808-clause-numeric
returns-else-num-eqminus9223372036854775808-clause-numeric c = subst IsNumeric (sym c.whole_cell.ensures) tt
