use Rattle.std.proofs.Common.{Err}
use Rattle.oe_top.proofs.command.openeo.Goals as goal

pub returns-in-Err : goal.returns-in-Err
returns-in-Err g c = record {
  ending = Err c.in-Err.refusal;
  status_is = c.status.ensures;
  line = c.say.ensures;
  ends = c.in-Err.ensures;
}
