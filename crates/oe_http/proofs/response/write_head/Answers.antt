use Rattle.std.proofs.Common.{List, ℕ, None, OnErr, OnOk, append-nil, subst, true}
use Rattle.oe_outside.specs.Visible.{Appends, AppendsPrefix}
use Rattle.oe_http.specs.Replies.{reply_head}
use Rattle.oe_http.proofs.response.write_head.Goals as goal

pub returns-clause-appended : goal.returns-clause-appended
returns-clause-appended g c =
    let P : List ℕ → Type 0 = λ bytes. OnOk c.write_parts.result
    (Appends (g.L.Link.written c.args.link.now) bytes (g.L.Link.written c.write_parts.new.link)) in
    subst P (append-nil (reply_head c.args.status None None true c.args.length)) c.write_parts.ensures.appended

pub returns-clause-prefix : goal.returns-clause-prefix
returns-clause-prefix g c =
    let P : List ℕ → Type 0 = λ bytes. OnErr c.write_parts.result
    (AppendsPrefix (g.L.Link.written c.args.link.now) bytes (g.L.Link.written c.write_parts.new.link)) in
    subst P (append-nil (reply_head c.args.status None None true c.args.length)) c.write_parts.ensures.prefix
