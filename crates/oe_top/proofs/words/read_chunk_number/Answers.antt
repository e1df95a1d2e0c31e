use Rattle.std.proofs.Common.{◌^◌, ◌<◌, arith}
use Rattle.oe_plan.proofs.NumberWords.{same_number, spells_it, spells_none}
use Rattle.oe_top.specs.Words.{most_chunks}
use Rattle.oe_top.proofs.words.read_chunk_number.Goals as goal

pub returns-else-is_chunk_number-clause-none : goal.returns-else-is_chunk_number-clause-none
returns-else-is_chunk_number-clause-none c = λ number word.
    let small : most_chunks < 2 ^ 64 = omega arith in
    let same = spells_it 64 c.args.word.now c.as_str.result.now c.in-Ok.number small small c.as_str.ensures c.in-Ok.ensures.value.0 word in
    let is = c.is_chunk_number.ensures.1 (same_number same word) in
    let isnt = c.if-is_chunk_number.false in
    cc

pub returns-in-Err-clause-none : goal.returns-in-Err-clause-none
returns-in-Err-clause-none c = λ number word.
    let small : most_chunks < 2 ^ 64 = omega arith in
    spells_none _ 64 c.args.word.now c.as_str.result.now c.in-Err.field-0 small small c.as_str.ensures c.in-Err.ensures.value.0 word
