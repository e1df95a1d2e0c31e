use Rattle.oe_http.specs.Written.{query_part}
use Rattle.oe_outside.proofs.Streams.{has_sent_then, has_stopped, has_stopped_more}
use Rattle.oe_http.proofs.written.send_target.Goals as goal

pub returns-in_err-send_three-clause-sent : goal.returns-in_err-send_three-clause-sent
returns-in_err-send_three-clause-sent g c =
    let is = c.from_residual.ensures.0 in
    has_stopped_more (query_part c.args.query.now) is (has_stopped is c.in_err-send_three.ensures.sent)

pub returns-clause-sent : goal.returns-clause-sent
returns-clause-sent g c = has_sent_then c.in_ok-send_three.ensures.sent c.send_query.ensures.sent
