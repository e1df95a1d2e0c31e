use Rattle.oe_outside.proofs.Streams.{has_sent_then, has_stopped}
use Rattle.oe_render.proofs.text.send_end.Goals as goal

pub returns-in_err-send-clause-sent : goal.returns-in_err-send-clause-sent
returns-in_err-send-clause-sent g c = has_stopped c.from_residual.ensures.0 c.in_err-send.ensures

pub returns-clause-sent : goal.returns-clause-sent
returns-clause-sent g c = has_sent_then c.in_ok-send.ensures c.flush.ensures.sent
