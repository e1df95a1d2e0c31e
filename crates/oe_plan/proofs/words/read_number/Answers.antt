use Rattle.std.proofs.Common.{◌^◌, ◌<◌, arith}
use Rattle.oe_plan.proofs.NumberWords.{same_number, spells_it, spells_none}
use Rattle.oe_plan.proofs.words.read_number.Goals as goal

pub returns-else-is_number-clause-none : goal.returns-else-is_number-clause-none
returns-else-is_number-clause-none c = λ number word.
    let small : c.args.high < 2 ^ 32 = omega arith in
    let fits : c.args.high < 2 ^ 64 = omega arith in
    let same = spells_it 32 c.args.word.now c.as_str.result.now c.in-Ok.number small fits c.as_str.ensures c.in-Ok.ensures.value.0 word in
    let is = c.is_number.ensures.1 (same_number same word) in
    let isnt = c.if-is_number.false in
    cc

pub returns-in-Err-clause-none : goal.returns-in-Err-clause-none
returns-in-Err-clause-none c = λ number word.
    let small : c.args.high < 2 ^ 32 = omega arith in
    let fits : c.args.high < 2 ^ 64 = omega arith in
    spells_none _ 32 c.args.word.now c.as_str.result.now c.in-Err.field-0 small fits c.as_str.ensures c.in-Err.ensures.value.0 word
