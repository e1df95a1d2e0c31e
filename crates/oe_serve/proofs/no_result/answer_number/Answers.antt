use Rattle.std.proofs.Common.{List, ℕ, subst}
use Rattle.oe_serve.specs.Links.{SendsCode, link_of}
use Rattle.oe_serve.proofs.no_result.answer_number.Goals as goal

pub returns : goal.returns
returns g c =
    subst (λ (detail : List ℕ). SendsCode c.args.code detail
    (link_of g.L.Link.left g.L.Link.written g.L.Link.faults c.args.link.now)
    (link_of g.L.Link.left g.L.Link.written g.L.Link.faults c.answer_code.new.link) c.answer_code.result) c.format.ensures.text
    c.answer_code.ensures
