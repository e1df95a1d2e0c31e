use Rattle.std.proofs.Common.{◌≡◌, ℕ, Option, length, arith, subst}
use Rattle.std.proofs.lemmas.Result.{IfErr-weaker}
use Rattle.oe_http.specs.Reading.{ReadsFront}
use Rattle.oe_http.specs.ReplyParts.{RefusesReplyHeadless}
use Rattle.oe_http.proofs.ReplyMessages.{refused_headless_reply}
use Rattle.oe_http.proofs.ReplyStepLemmas.{reply_of_head}
use Rattle.oe_http.proofs.reply.read_head.Goals as goal

pub returns-in-Ok-Some-clause-refused : goal.returns-in-Ok-Some-clause-refused
returns-in-Ok-Some-clause-refused g c =
    let P : Option ℕ → Type 0 = λ end. ReadsFront (g.L.Link.left c.args.link.now) c.read_front.new.bytes.items end (g.L.Link.left c.read_front.new.link) in
    let front = subst P c.in-Ok-Some.field-0-is c.in-Ok-Some.ensures.read in
    IfErr-weaker c.with_parts.result _ _ (λ refusal why. reply_of_head front refusal why) c.with_parts.ensures.refused

pub returns-in-Ok-None-clause-refused : goal.returns-in-Ok-None-clause-refused
returns-in-Ok-None-clause-refused g c _ =
    let P : Option ℕ → Type 0 = λ end. ReadsFront (g.L.Link.left c.args.link.now) c.read_front.new.bytes.items end (g.L.Link.left c.read_front.new.link) in
    let front = subst P c.in-Ok-None.field-0-is c.in-Ok-None.ensures.read in
    let Q : ℕ → Type 0 = λ count. RefusesReplyHeadless count c.headless.result in
    let count : c.len.result ≡ length c.read_front.new.bytes.items = omega (arith, c.len.ensures) in
    refused_headless_reply _ _ _ _ front (subst Q count c.headless.ensures)
