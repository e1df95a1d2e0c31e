use Rattle.oe_dial.proofs.Ports.{no_port, one_port, same_port}
use Rattle.oe_dial.proofs.words.read_port.Goals as goal

pub returns-else-spells_port-clause-none : goal.returns-else-spells_port-clause-none
returns-else-spells_port-clause-none c = λ port spelled.
    let same = one_port c.args.word.now c.in-Ok.port c.in-Ok.ensures.value.0 spelled in
    let is = c.spells_port.ensures.1 (same_port same spelled) in
    let isnt = c.if-spells_port.false in
    cc

pub returns-in-Err-clause-none : goal.returns-in-Err-clause-none
returns-in-Err-clause-none c = λ port spelled. no_port _ c.args.word.now c.in-Err.field-0 c.in-Err.ensures.value.0 spelled
