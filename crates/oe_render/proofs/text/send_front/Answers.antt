use Rattle.std.proofs.lemmas.List.{append-nil}
use Rattle.oe_outside.proofs.Streams.{has_sent_then, has_stopped}
use Rattle.oe_render.proofs.text.send_front.Goals as goal

pub returns-in_err-send_head-clause-sent : goal.returns-in_err-send_head-clause-sent
returns-in_err-send_head-clause-sent g c = has_stopped c.from_residual.ensures.0 c.in_err-send_head.ensures

pub returns-clause-sent : goal.returns-clause-sent
returns-clause-sent g c = rw append-nil at (has_sent_then c.in_ok-send_head.ensures c.flush.ensures.sent)
