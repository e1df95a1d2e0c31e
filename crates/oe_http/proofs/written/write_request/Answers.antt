use Rattle.oe_http.proofs.Wrote.{stopped_early, wrote_all, wrote_part}
use Rattle.oe_http.proofs.written.write_request.Goals as goal

pub returns-in_err-send_request-clause-prefix : goal.returns-in_err-send_request-clause-prefix
returns-in_err-send_request-clause-prefix g c = stopped_early c.from_residual.result c.new-held.ensures c.from_residual.ensures.0 c.in_err-send_request.ensures.sent

pub returns-clause-appended : goal.returns-clause-appended
returns-clause-appended g c = wrote_all c.new-held.ensures c.in_ok-send_request.ensures.sent c.flush.ensures.sent c.flush.ensures.empty

pub returns-clause-prefix : goal.returns-clause-prefix
returns-clause-prefix g c = wrote_part c.new-held.ensures c.in_ok-send_request.ensures.sent c.flush.ensures.sent
