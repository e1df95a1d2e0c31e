use Rattle.std.proofs.Common.{◌≡◌, ◌<◌, ◌∙◌, ap, sym, rules, arith, length, ℕ, w64, to_z, of_z, FitsSigned}
use Rattle.std.specs.Prelude.{ℤ, pos, Option}
use Rattle.std.proofs.lemmas.Int.{to_z-of_z}
use Rattle.std.proofs.lemmas.List.{get_or_read}
use Rattle.oe_cell.specs.Fraction.{Fraction}
use Rattle.oe_cell.specs.Operations.{multiply_of}
use Rattle.oe_cell.specs.Rational.{whole_of}
use Rattle.oe_cell.specs.declared.cell.Cell.{Cell}
use Rattle.oe_cell.specs.declared.cell.Cell.TheVariants.{Number}
use Rattle.oe_kernel.specs.Borders.{border_position}
use Rattle.oe_kernel.specs.Convolution.{reach}
use Rattle.oe_kernel.specs.Rows.{in_row, pixel_in, value_at}
use Rattle.oe_kernel.specs.Totals.{total_of}
use Rattle.oe_kernel.proofs.SumLemmas.{row_added-none, row_added-step}
use Rattle.oe_kernel.proofs.rows.with_positions.Goals as goal

pub loop-i-init : goal.loop-i-init
loop-i-init c = sym (row_added-none _ _)

pub loop-i-preserved : goal.loop-i-preserved
loop-i-preserved c =
    let values = c.args.values.now in
    let i : ℕ = c.loop-i.i in
    let in_values : i < length values = omega arith in
    let value = get_or_read values i c.index-values-i.result in_values c.index-values-i.is (whole_of (pos 0)) in
    let fits : FitsSigned w64 c.reach-at.result = search rules in
    let at : to_z w64 (of_z w64 c.reach-at.result) ≡ reach c.args.x i (length values) = to_z-of_z w64 c.reach-at.result fits ∙ c.reach-at.ensures in
    let position : c.index_of.result ≡ border_position c.args.border.now (reach c.args.x i (length values)) c.args.side = c.index_of.ensures.value ∙ ap (λ (z : ℤ). border_position c.args.border.now z c.args.side) at in
    let pixel = c.pixel_at-pixel.ensures ∙ ap (λ (o : Option ℕ). pixel_in c.args.border.now c.args.replace c.args.pixels.now c.args.from o) position in
    row_added-step (in_row values c.args.border.now c.args.replace c.args.pixels.now c.args.from c.args.side c.args.x) i (total_of c.args.total) (total_of c.loop-i.sum) (total_of c.with_product-sum.result) (multiply_of (Number c.index-values-i.result) c.pixel_at-pixel.result) c.loop-i.invariant
    (ap (λ (v : Fraction). multiply_of (Number v) c.pixel_at-pixel.result) value ∙ ap (λ (p : Cell). multiply_of (value_at values i) p) pixel)
    c.with_product-sum.ensures
