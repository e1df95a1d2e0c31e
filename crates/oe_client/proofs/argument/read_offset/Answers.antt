use Rattle.oe_client.proofs.Offsets.{spells_none, spells_it, same_number}
use Rattle.oe_client.proofs.argument.read_offset.Goals as goal

pub returns-else-spells_offset-clause-none : goal.returns-else-spells_offset-clause-none
returns-else-spells_offset-clause-none c = λ number text.
    let same = spells_it c.args.text.now c.in-Ok.number c.in-Ok.ensures.value.0 text in
    let is = c.spells_offset.ensures.1 (same_number same text) in
    let isnt = c.if-spells_offset.false in
    cc

pub returns-in-Err-clause-none : goal.returns-in-Err-clause-none
returns-in-Err-clause-none c = λ number text. spells_none _ c.args.text.now c.in-Err.field-0 c.in-Err.ensures.value.0 text
