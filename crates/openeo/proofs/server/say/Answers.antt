use Rattle.std.proofs.Common.{◌∙◌}
use Rattle.oe_outside.specs.Stream.{error_output}
use Rattle.oe_top.proofs.Said.{says}
use Rattle.openeo.proofs.server.say.Goals as goal

pub returns-clause-line : goal.returns-clause-line
returns-clause-line g c =
    let err = error_output g.E.Sink.written g.E.Sink.faults c.args.err.now c.write.new.self in
    rw (c.as_bytes.ensures.value ∙ c.line.ensures)
    at (says err c.write.result c.write.ensures.appended c.write.ensures.prefix c.write.ensures.cause)
