use Rattle.std.proofs.Common.{◌++◌}
use Rattle.oe_http.specs.Plain.{plain_request}
use Rattle.oe_http.specs.Written.{host_line, lines_behind}
use Rattle.oe_outside.proofs.Streams.{has_sent_then, has_stopped, has_stopped_more}
use Rattle.oe_http.proofs.written.send_head.Goals as goal

pub returns-in_err-send_line-clause-sent : goal.returns-in_err-send_line-clause-sent
returns-in_err-send_line-clause-sent g c =
    let is = c.from_residual.ensures.0 in
    has_stopped_more (host_line c.args.host.now ++ lines_behind (plain_request c.args.request.now)) is (has_stopped is c.in_err-send_line.ensures.sent)

pub returns-clause-sent : goal.returns-clause-sent
returns-clause-sent g c = has_sent_then c.in_ok-send_line.ensures.sent c.send_fields.ensures.sent
