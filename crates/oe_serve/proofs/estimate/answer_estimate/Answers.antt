use Rattle.std.proofs.Common.{List, ℕ, ◌∙◌, inl, inr, subst}
use Rattle.oe_http.specs.Laws.{json_reply}
use Rattle.oe_http.specs.Replies.{reply_bytes}
use Rattle.oe_serve.specs.Links.{SendsReply, link_of}
use Rattle.oe_serve.proofs.estimate.answer_estimate.Goals as goal

pub returns-in-Ok : goal.returns-in-Ok
returns-in-Ok g c =
    let of = link_of g.L.Link.left g.L.Link.written g.L.Link.faults in
    inl (subst (λ (text : List ℕ). SendsReply 200 (reply_bytes (json_reply 200 text)) (of c.args.link.now)
    (of c.answer_text.new.link) c.answer_text.result) (c.deref.ensures.value ∙ c.in-Ok.ensures) c.answer_text.ensures)

pub returns-in-Err : goal.returns-in-Err
returns-in-Err g c = inr c.answer_out_of_memory.ensures
