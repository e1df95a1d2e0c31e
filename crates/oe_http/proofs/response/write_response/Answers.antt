use Rattle.std.proofs.Common.{List, ℕ, OnErr, OnOk, length, refl, subst}
use Rattle.oe_outside.specs.Visible.{Appends, AppendsPrefix}
use Rattle.oe_http.specs.Replies.{plain_response}
use Rattle.oe_http.proofs.Wrote.{same_reply}
use Rattle.oe_http.proofs.response.write_response.Goals as goal

pub returns-clause-appended : goal.returns-clause-appended
returns-clause-appended g c =
    let is = same_reply (plain_response c.args.response.now) _ _ (length c.sent_body-body.result.now) c.sent_body-body.result.now
    c.value_of.ensures c.value_of-2.ensures refl c.sent_body-body.ensures in
    let P : List ℕ → Type 0 = λ bytes. OnOk c.write_parts.result
    (Appends (g.L.Link.written c.args.link.now) bytes (g.L.Link.written c.write_parts.new.link)) in
    subst P is c.write_parts.ensures.appended

pub returns-clause-prefix : goal.returns-clause-prefix
returns-clause-prefix g c =
    let is = same_reply (plain_response c.args.response.now) _ _ (length c.sent_body-body.result.now) c.sent_body-body.result.now
    c.value_of.ensures c.value_of-2.ensures refl c.sent_body-body.ensures in
    let P : List ℕ → Type 0 = λ bytes. OnErr c.write_parts.result
    (AppendsPrefix (g.L.Link.written c.args.link.now) bytes (g.L.Link.written c.write_parts.new.link)) in
    subst P is c.write_parts.ensures.prefix
