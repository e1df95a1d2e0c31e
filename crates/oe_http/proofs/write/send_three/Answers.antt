use Rattle.std.proofs.Common.{◌++◌}
use Rattle.oe_outside.proofs.Streams.{has_sent_then, has_stopped, has_stopped_more}
use Rattle.oe_http.proofs.write.send_three.Goals as goal

pub returns-in_err-send-clause-sent : goal.returns-in_err-send-clause-sent
returns-in_err-send-clause-sent g c =
    let is = c.from_residual.ensures.0 in
    has_stopped_more (c.args.second.now ++ c.args.third.now) is (has_stopped is c.in_err-send.ensures.sent)

pub returns-clause-sent : goal.returns-clause-sent
returns-clause-sent g c = has_sent_then c.in_ok-send.ensures.sent c.send_two.ensures.sent
