use Rattle.oe_http.specs.Plain.{plain_request}
use Rattle.oe_http.specs.Written.{lines_behind}
use Rattle.oe_outside.proofs.Streams.{has_sent_then, has_stopped, has_stopped_more}
use Rattle.oe_http.proofs.written.send_fields.Goals as goal

pub returns-in_err-send_host-clause-sent : goal.returns-in_err-send_host-clause-sent
returns-in_err-send_host-clause-sent g c =
    let is = c.from_residual.ensures.0 in
    has_stopped_more (lines_behind (plain_request c.args.request.now)) is (has_stopped is c.in_err-send_host.ensures.sent)

pub returns-clause-sent : goal.returns-clause-sent
returns-clause-sent g c = has_sent_then c.in_ok-send_host.ensures.sent c.send_behind.ensures.sent
