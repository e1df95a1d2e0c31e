use Rattle.oe_dial.proofs.Sayings.{second_err}
use Rattle.oe_dial.proofs.refusal.write_two.Goals as goal

pub returns-in-Ok-clause-prefix : goal.returns-in-Ok-clause-prefix
returns-in-Ok-clause-prefix g c =
    let written = g.E.Sink.written in
    second_err c.write-in-Ok.result (written c.args.err.now) (written c.write.new.self) (written c.write-in-Ok.new.self)
    c.args.first.now c.args.second.now c.in-Ok.ensures.appended c.write-in-Ok.ensures.prefix
