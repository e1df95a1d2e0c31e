use Rattle.oe_outside.proofs.Streams.{has_sent_then, has_stopped, has_stopped_more}
use Rattle.oe_outside.proofs.stream.send.Goals as goal

pub returns-in_err-flush : goal.returns-in_err-flush
returns-in_err-flush g c =
    let is = c.from_residual.ensures.0 in
    has_stopped_more c.args.piece.now is (has_stopped is c.in_err-flush.ensures.sent)

pub returns : goal.returns
returns g c = has_sent_then (rw c.in_ok-flush.ensures.empty at c.in_ok-flush.ensures.sent) c.send_alone.ensures
