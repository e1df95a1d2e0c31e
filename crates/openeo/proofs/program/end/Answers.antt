use Rattle.oe_top.proofs.Said.{says}
use Rattle.oe_outside.specs.Stream.{error_output}
use Rattle.openeo.proofs.program.end.Goals as goal

pub returns : goal.returns
returns g c =
    let err = error_output g.E.Sink.written g.E.Sink.faults c.args.err.now c.write.new.self in
    record {
      status_is = c.status.ensures;
      line = rw c.line.ensures at (says err c.write.result c.write.ensures.appended c.write.ensures.prefix c.write.ensures.cause);
    }
