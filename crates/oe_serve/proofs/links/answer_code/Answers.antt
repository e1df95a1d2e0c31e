use Rattle.std.proofs.Common.{ℕ, inl, inr, ap, subst, sym}
use Rattle.std.specs.Prelude.{IsSome}
use Rattle.http.specs.StatusCode.{reason_phrase}
use Rattle.oe_http.specs.Replies.{PlainResponse, reply_bytes}
use Rattle.oe_serve.specs.Links.{SendsReply, link_of}
use Rattle.oe_serve.proofs.Phrases.{code_has_phrase}
use Rattle.oe_serve.proofs.links.answer_code.Goals as goal

pub answer-requires : goal.answer-requires
answer-requires g c =
    subst (λ (s : ℕ). IsSome (reason_phrase s)) (sym (ap (λ (r : PlainResponse). r.status) c.in-Ok.ensures))
    (code_has_phrase c.args.code)

pub returns-in-Ok : goal.returns-in-Ok
returns-in-Ok g c =
    inl (subst (λ (r : PlainResponse). SendsReply r.status (reply_bytes r)
    (link_of g.L.Link.left g.L.Link.written g.L.Link.faults c.args.link.now)
    (link_of g.L.Link.left g.L.Link.written g.L.Link.faults c.answer.new.link) c.answer.result) c.in-Ok.ensures c.answer.ensures)

pub returns-in-Err : goal.returns-in-Err
returns-in-Err g c = inr c.answer_out_of_memory.ensures
