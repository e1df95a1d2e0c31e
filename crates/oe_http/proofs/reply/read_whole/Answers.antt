use Rattle.std.proofs.Common.{ℕ, List, take, drop, subst}
use Rattle.std.proofs.lemmas.Result.{IfErr-weaker, IfOk-weaker}
use Rattle.oe_http.specs.Reading.{ReadsBody}
use Rattle.oe_http.proofs.StepLemmas.{take_of_rest}
use Rattle.oe_http.proofs.ReplyStepLemmas.{reply_made, reply_cut}
use Rattle.oe_http.specs.Responses.{most_response_body}
use Rattle.oe_http.proofs.Taken.{takes_fewer}
use Rattle.oe_http.proofs.reply.read_whole.Goals as goal

pub returns-in-Ok-clause-response : goal.returns-in-Ok-clause-response
returns-in-Ok-clause-response g c =
    let P : List ℕ → Type 0 = λ bytes. ReadsBody c.args.head.now.parts.length (g.L.Link.left c.args.link.now)
    (take c.args.head.now.parts.length (drop c.args.head.now.end bytes)) c.in-Ok.body.items (g.L.Link.left c.read_body.new.link) in
    let Q : List ℕ → Type 0 = λ first. ReadsBody c.args.head.now.parts.length (g.L.Link.left c.args.link.now)
    first c.in-Ok.body.items (g.L.Link.left c.read_body.new.link) in
    let held : P c.deref.result.now =
    subst Q (take_of_rest c.args.head.now.parts.length c.args.head.now.end c.deref.result.now) c.in-Ok.ensures.read in
    let got : P c.args.head.now.bytes.items = subst P c.deref.ensures.value held in
    IfOk-weaker c.with_body.result _ _ (λ response is. reply_made c.args.head.now response got is) c.with_body.ensures.whole

pub returns-in-Ok-clause-refused : goal.returns-in-Ok-clause-refused
returns-in-Ok-clause-refused g c =
    let P : List ℕ → Type 0 = λ bytes. ReadsBody c.args.head.now.parts.length (g.L.Link.left c.args.link.now)
    (take c.args.head.now.parts.length (drop c.args.head.now.end bytes)) c.in-Ok.body.items (g.L.Link.left c.read_body.new.link) in
    let Q : List ℕ → Type 0 = λ first. ReadsBody c.args.head.now.parts.length (g.L.Link.left c.args.link.now)
    first c.in-Ok.body.items (g.L.Link.left c.read_body.new.link) in
    let held : P c.deref.result.now =
    subst Q (take_of_rest c.args.head.now.parts.length c.args.head.now.end c.deref.result.now) c.in-Ok.ensures.read in
    let got : P c.args.head.now.bytes.items = subst P c.deref.ensures.value held in
    IfErr-weaker c.with_body.result _ _ (λ refusal is. reply_cut c.args.head.now refusal got is) c.with_body.ensures.refused

pub returns-in-Ok-clause-taken : goal.returns-in-Ok-clause-taken
returns-in-Ok-clause-taken g c = takes_fewer _ _ c.args.head.now.parts.length most_response_body c.requires.parts.most c.in-Ok.ensures.taken

pub returns-in-Err-clause-taken : goal.returns-in-Err-clause-taken
returns-in-Err-clause-taken g c = takes_fewer _ _ c.args.head.now.parts.length most_response_body c.requires.parts.most c.in-Err.ensures.taken
