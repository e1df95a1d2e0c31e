use Rattle.std.proofs.Common.{decimal, sym, ap, ◌∙◌}
use Rattle.oe_render.proofs.Fractions.{none_decimal, one_decimal}
use Rattle.oe_render.proofs.cells.read_denominator.Goals as goal

pub returns-then-is_decimal : goal.returns-then-is_decimal
returns-then-is_decimal c = (
  c.is_decimal.ensures.0 c.if-is_decimal.true,
  λ m below same. one_decimal m c.in-Ok.number c.args.text.now below c.in-Ok.ensures.value.0 same,
)

pub returns-else-is_decimal : goal.returns-else-is_decimal
returns-else-is_decimal c = λ n below same.
    let one = one_decimal n c.in-Ok.number c.args.text.now below c.in-Ok.ensures.value.0 same in
    let is = c.is_decimal.ensures.1 (same ∙ ap decimal (sym one)) in
    let isnt = c.if-is_decimal.false in
    cc

pub returns-in-Err : goal.returns-in-Err
returns-in-Err c = λ n below same. none_decimal _ n c.args.text.now c.in-Err.field-0 below c.in-Err.ensures.value.0 same
