use Rattle.std.proofs.Common.{◌<◌, ◌∙◌, ap, sym, arith, length}
use Rattle.std.specs.Prelude.{pos}
use Rattle.std.proofs.lemmas.List.{get_or_read}
use Rattle.oe_cell.specs.Fraction.{Fraction}
use Rattle.oe_cell.specs.Operations.{multiply_of}
use Rattle.oe_cell.specs.Rational.{whole_of}
use Rattle.oe_cell.specs.declared.cell.Cell.{Cell}
use Rattle.oe_cell.specs.declared.cell.Cell.TheVariants.{Number}
use Rattle.oe_kernel.specs.Rows.{bordered, value_at}
use Rattle.oe_kernel.specs.Totals.{total_of}
use Rattle.oe_kernel.proofs.SumLemmas.{row_added-none, row_added-step}
use Rattle.oe_kernel.proofs.rows.with_border.Goals as goal

pub loop-i-init : goal.loop-i-init
loop-i-init c = sym (row_added-none _ _)

pub loop-i-preserved : goal.loop-i-preserved
loop-i-preserved c =
    let in_values : c.loop-i.i < length c.args.values.now = omega arith in
    let value = get_or_read c.args.values.now c.loop-i.i c.index-values-i.result in_values c.index-values-i.is (whole_of (pos 0)) in
    row_added-step (bordered c.args.values.now c.args.border.now) c.loop-i.i (total_of c.args.total) (total_of c.loop-i.sum) (total_of c.with_product-sum.result) (multiply_of (Number c.index-values-i.result) c.border_cell.result) c.loop-i.invariant
    (ap (λ (v : Fraction). multiply_of (Number v) c.border_cell.result) value ∙ ap (λ (p : Cell). multiply_of (value_at c.args.values.now c.loop-i.i) p) c.border_cell.ensures)
    c.with_product-sum.ensures
