use Rattle.oe_top.proofs.Writings.{says_written}
use Rattle.oe_outside.specs.Stream.{error_output}
use Rattle.oe_top.specs.Lines.{line_of}
use Rattle.oe_top.proofs.say.say.Goals as goal

pub returns : goal.returns
returns g c =
    says_written (line_of c.args.refusal.now) (error_output g.E.Sink.written g.E.Sink.faults c.args.err.now c.write_line.new.err)
    c.write_line.result c.write_line.ensures
