use Rattle.std.proofs.Common.{List, ℕ, ◌∙◌, subst}
use Rattle.oe_replies.specs.declared.code.ReplyCode.TheVariants.{SourceDamaged}
use Rattle.oe_serve.specs.Links.{SendsCode, link_of}
use Rattle.oe_serve.proofs.no_result.answer_damage.Goals as goal

pub returns-in-Ok : goal.returns-in-Ok
returns-in-Ok g c =
    subst (λ (detail : List ℕ). SendsCode SourceDamaged detail
    (link_of g.L.Link.left g.L.Link.written g.L.Link.faults c.args.link.now)
    (link_of g.L.Link.left g.L.Link.written g.L.Link.faults c.answer_code.new.link) c.answer_code.result)
    (c.as_str.ensures.value ∙ c.in-Ok.ensures) c.answer_code.ensures
