use Rattle.oe_outside.proofs.Streams.{has_sent_then, has_stopped, has_stopped_more}
use Rattle.oe_http.proofs.write.send.Goals as goal

pub returns-in_err-flush-clause-sent : goal.returns-in_err-flush-clause-sent
returns-in_err-flush-clause-sent g c =
    let is = c.from_residual.ensures.0 in
    has_stopped_more c.args.piece.now is (has_stopped is c.in_err-flush.ensures.sent)

pub returns-clause-sent : goal.returns-clause-sent
returns-clause-sent g c = has_sent_then (rw c.in_ok-flush.ensures.empty at c.in_ok-flush.ensures.sent) c.send_alone.ensures.sent
