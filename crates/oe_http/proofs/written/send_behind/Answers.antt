use Rattle.std.proofs.Common.{◌≡◌, ◌++◌, ℕ, arith, codes, length, subst}
use Rattle.oe_http.specs.Sent.{HasSent}
use Rattle.oe_http.specs.Replies.{field_line}
use Rattle.oe_http.specs.Written.{last_lines}
use Rattle.oe_outside.proofs.Streams.{has_sent_then, has_stopped, has_stopped_more}
use Rattle.oe_http.proofs.written.send_behind.Goals as goal

pub returns-in_err-send_authorization-clause-sent : goal.returns-in_err-send_authorization-clause-sent
returns-in_err-send_authorization-clause-sent g c =
    let is = c.from_residual.ensures.0 in
    has_stopped_more (last_lines (length c.args.request.now.body.items)) is (has_stopped is c.in_err-send_authorization.ensures.sent)

pub returns-clause-sent : goal.returns-clause-sent
returns-clause-sent g c =
    let count : c.len.result ≡ length c.args.request.now.body.items = omega (arith, c.len.ensures) in
    let P : ℕ → Type 0 = λ n. HasSent g.L.Link.written g.L.Link.faults c.args.link.now c.args.held.now
    (field_line (codes "Authorization: ") c.args.request.now.authorization ++ last_lines n)
    c.send_last.new.link c.send_last.new.held c.send_last.result in
    subst P count (has_sent_then c.in_ok-send_authorization.ensures.sent c.send_last.ensures.sent)
