use Rattle.std.proofs.Common.{◌++◌, codes}
use Rattle.oe_outside.proofs.Runs.{first_stopped}
use Rattle.oe_dial.proofs.Sayings.{second_err}
use Rattle.oe_dial.proofs.refusal.say_body.Goals as goal

pub returns-in-Ok-clause-prefix : goal.returns-in-Ok-clause-prefix
returns-in-Ok-clause-prefix g c =
    let written = g.E.Sink.written in
    second_err c.write.result (written c.args.err.now) (written c.write_two.new.err) (written c.write.new.self)
    (codes "\n" ++ c.args.body.now) (codes "\n") c.in-Ok.ensures.appended c.write.ensures.prefix

pub returns-in-Err-clause-prefix : goal.returns-in-Err-clause-prefix
returns-in-Err-clause-prefix g c =
    first_stopped (g.E.Sink.written c.args.err.now) (g.E.Sink.written c.write_two.new.err)
    (codes "\n" ++ c.args.body.now) (codes "\n") c.in-Err.ensures.prefix
