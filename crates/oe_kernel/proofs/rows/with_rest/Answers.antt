use Rattle.std.proofs.Common.{◌<◌, ◌∙◌, ap, arith, length}
use Rattle.std.specs.Prelude.{pos}
use Rattle.std.proofs.lemmas.List.{get_or_read}
use Rattle.oe_cell.specs.Fraction.{Fraction}
use Rattle.oe_cell.specs.Operations.{multiply_of}
use Rattle.oe_cell.specs.Rational.{whole_of}
use Rattle.oe_cell.specs.declared.cell.Cell.{Cell}
use Rattle.oe_cell.specs.declared.cell.Cell.TheVariants.{Number, Empty}
use Rattle.oe_kernel.specs.Convolution.{pixel_number}
use Rattle.oe_kernel.specs.Rows.{beside, value_at}
use Rattle.oe_kernel.specs.Totals.{total_of}
use Rattle.oe_kernel.proofs.SumLemmas.{row_added-step}
use Rattle.oe_kernel.proofs.rows.with_rest.Goals as goal

pub loop-i-preserved : goal.loop-i-preserved
loop-i-preserved c start before =
    let in_values : c.loop-i.i < length c.args.values.now = omega arith in
    let in_pixels : c.loop-i.i < length c.args.pixels.now = omega arith in
    let value = get_or_read c.args.values.now c.loop-i.i c.index-values-i.result in_values c.index-values-i.is (whole_of (pos 0)) in
    let pixel = get_or_read c.args.pixels.now c.loop-i.i c.index-pixels-i.result in_pixels c.index-pixels-i.is Empty in
    row_added-step (beside c.args.values.now c.args.pixels.now c.args.replace) c.loop-i.i start (total_of c.loop-i.sum) (total_of c.with_product-sum.result) (multiply_of (Number c.index-values-i.result) c.as_number.result) (c.loop-i.invariant start before)
    (ap (λ (v : Fraction). multiply_of (Number v) c.as_number.result) value ∙ ap (λ (p : Cell). multiply_of (value_at c.args.values.now c.loop-i.i) p) (c.as_number.ensures ∙ ap (λ (p : Cell). pixel_number c.args.replace p) pixel))
    c.with_product-sum.ensures
