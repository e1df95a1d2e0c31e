use Rattle.oe_dial.proofs.Inputs.{taken_whole}
use Rattle.oe_dial.proofs.input.read_input.Goals as goal

pub returns-in-Ok-clause-taken : goal.returns-in-Ok-clause-taken
returns-in-Ok-clause-taken g c =
    taken_whole (λ bytes. bytes.items) c.within_limit.result c.in-Ok.bytes (g.I.Source.left c.args.input.now)
    (g.I.Source.faults c.args.input.now) (g.I.Source.left c.read_up_to.new.source)
    (g.I.Source.faults c.read_up_to.new.source) c.args.sends_input c.if-not-sends_input.false c.in-Ok.ensures.read
    c.within_limit.ensures.whole
