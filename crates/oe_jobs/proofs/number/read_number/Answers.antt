use Rattle.std.proofs.Common.{decimal, sym, ap, ◌∙◌, arith}
use Rattle.oe_jobs.proofs.NumberLemmas.{none_decimal, one_decimal}
use Rattle.oe_jobs.proofs.number.read_number.Goals as goal

pub returns-then-is_decimal : goal.returns-then-is_decimal
returns-then-is_decimal c = record { spelled = c.is_decimal.ensures.0 c.if-is_decimal.true; in_range = omega arith }

pub returns-else-is_decimal : goal.returns-else-is_decimal
returns-else-is_decimal c = λ n spells.
    let one = one_decimal n c.in-Ok.number c.args.text.now spells.in_range c.in-Ok.ensures.value.0 spells.spelled in
    let is = c.is_decimal.ensures.1 (spells.spelled ∙ ap decimal (sym one)) in
    let isnt = c.if-is_decimal.false in
    cc

pub returns-in-Err : goal.returns-in-Err
returns-in-Err c = λ n spells. none_decimal _ n c.args.text.now c.in-Err.field-0 spells.in_range c.in-Err.ensures.value.0 spells.spelled
