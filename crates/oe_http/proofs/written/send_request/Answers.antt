use Rattle.std.proofs.Common.{◌++◌, List, ℕ, subst}
use Rattle.oe_http.specs.Sent.{HasSent}
use Rattle.oe_http.specs.Plain.{plain_request}
use Rattle.oe_http.specs.Written.{request_head}
use Rattle.oe_outside.proofs.Streams.{has_sent_then, has_stopped, has_stopped_more}
use Rattle.oe_http.proofs.written.send_request.Goals as goal

pub returns-in_err-send_head-clause-sent : goal.returns-in_err-send_head-clause-sent
returns-in_err-send_head-clause-sent g c =
    let is = c.from_residual.ensures.0 in
    has_stopped_more (c.args.request.now.body.items) is (has_stopped is c.in_err-send_head.ensures.sent)

pub returns-clause-sent : goal.returns-clause-sent
returns-clause-sent g c =
    let P : List ℕ → Type 0 = λ body. HasSent g.L.Link.written g.L.Link.faults c.args.link.now c.args.held.now
    (request_head (plain_request c.args.request.now) c.args.host.now ++ body)
    c.send.new.link c.send.new.held c.send.result in
    subst P c.deref.ensures.value (has_sent_then c.in_ok-send_head.ensures.sent c.send.ensures.sent)
