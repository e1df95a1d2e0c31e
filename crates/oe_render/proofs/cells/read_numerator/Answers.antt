use Rattle.std.proofs.Common.{◌≡◌, FitsSigned, w64, to_z, of_z, rules, sym, ap, ◌∙◌}
use Rattle.std.specs.Fmt.{signed_decimal}
use Rattle.std.proofs.lemmas.Int.{to_z-of_z}
use Rattle.oe_render.proofs.Fractions.{none_signed, one_signed}
use Rattle.oe_render.proofs.cells.read_numerator.Goals as goal

pub returns-then-is_signed_decimal : goal.returns-then-is_signed_decimal
returns-then-is_signed_decimal c =
    let fits : FitsSigned w64 c.in-Ok.number = search rules in
    let kept : to_z w64 (of_z w64 c.in-Ok.number) ≡ c.in-Ok.number = to_z-of_z w64 _ fits in (
      c.is_signed_decimal.ensures.0 c.if-is_signed_decimal.true,
      λ y below same. kept ∙ one_signed y c.in-Ok.number c.args.text.now below c.in-Ok.ensures.value.0 same,
    )

pub returns-else-is_signed_decimal : goal.returns-else-is_signed_decimal
returns-else-is_signed_decimal c = λ z below same.
    let fits : FitsSigned w64 c.in-Ok.number = search rules in
    let kept : to_z w64 (of_z w64 c.in-Ok.number) ≡ c.in-Ok.number = to_z-of_z w64 _ fits in
    let one = one_signed z c.in-Ok.number c.args.text.now below c.in-Ok.ensures.value.0 same in
    let is = c.is_signed_decimal.ensures.1 (same ∙ ap signed_decimal (sym (kept ∙ one))) in
    let isnt = c.if-is_signed_decimal.false in
    cc

pub returns-in-Err : goal.returns-in-Err
returns-in-Err c = λ z below same. none_signed _ z c.args.text.now c.in-Err.field-0 below c.in-Err.ensures.value.0 same
