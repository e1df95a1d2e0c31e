use Rattle.std.proofs.Common.{ℕ, List, subst}
use Rattle.oe_serve.specs.Links.{SendsReply, link_of}
use Rattle.oe_serve.proofs.Replies.{memory_reply}
use Rattle.oe_serve.proofs.links.answer_out_of_memory.Goals as goal

pub returns : goal.returns
returns g c =
    subst (λ (bytes : List ℕ). SendsReply 503 bytes (link_of g.L.Link.left g.L.Link.written g.L.Link.faults c.args.link.now)
    (link_of g.L.Link.left g.L.Link.written g.L.Link.faults c.answer_text.new.link) c.answer_text.result)
    (memory_reply c.errors_are_plain.ensures) c.answer_text.ensures
