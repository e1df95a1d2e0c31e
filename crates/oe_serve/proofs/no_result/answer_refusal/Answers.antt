use Rattle.std.proofs.Common.{List, ℕ, ◌++◌, codes, decimal, subst, sym}
use Rattle.oe_replies.specs.declared.code.ReplyCode.TheVariants as code
use Rattle.oe_serve.specs.Links.{SendsCode, link_of}
use Rattle.oe_serve.specs.Results.{code_of, detail_of}
use Rattle.oe_serve.specs.declared.refusal.ResultRefusal.{ResultRefusal}
use Rattle.oe_serve.proofs.no_result.answer_refusal.Goals as goal

pub returns-in-PlanTooLarge : goal.returns-in-PlanTooLarge
returns-in-PlanTooLarge g c =
    subst (λ (r : ResultRefusal). SendsCode (code_of r) (detail_of c.args.checked.now r)
    (link_of g.L.Link.left g.L.Link.written g.L.Link.faults c.args.link.now)
    (link_of g.L.Link.left g.L.Link.written g.L.Link.faults c.answer_number.new.link) c.answer_number.result) (sym c.in-PlanTooLarge.is)
    c.answer_number.ensures

pub returns-in-ReadFault : goal.returns-in-ReadFault
returns-in-ReadFault g c =
    subst (λ (r : ResultRefusal). SendsCode (code_of r) (detail_of c.args.checked.now r)
    (link_of g.L.Link.left g.L.Link.written g.L.Link.faults c.args.link.now)
    (link_of g.L.Link.left g.L.Link.written g.L.Link.faults c.answer_code.new.link) c.answer_code.result) (sym c.in-ReadFault.is)
    c.answer_code.ensures

pub returns-in-SourceDamaged : goal.returns-in-SourceDamaged
returns-in-SourceDamaged g c =
    subst (λ (r : ResultRefusal). SendsCode (code_of r) (detail_of c.args.checked.now r)
    (link_of g.L.Link.left g.L.Link.written g.L.Link.faults c.args.link.now)
    (link_of g.L.Link.left g.L.Link.written g.L.Link.faults c.answer_damage.new.link) c.answer_damage.result) (sym c.in-SourceDamaged.is)
    (subst (λ (id : List ℕ). SendsCode code.SourceDamaged (id ++ codes " " ++ decimal c.in-SourceDamaged.number)
    (link_of g.L.Link.left g.L.Link.written g.L.Link.faults c.args.link.now)
    (link_of g.L.Link.left g.L.Link.written g.L.Link.faults c.answer_damage.new.link) c.answer_damage.result) c.id_of.ensures
    c.answer_damage.ensures)

pub returns-in-SpoolFault : goal.returns-in-SpoolFault
returns-in-SpoolFault g c =
    subst (λ (r : ResultRefusal). SendsCode (code_of r) (detail_of c.args.checked.now r)
    (link_of g.L.Link.left g.L.Link.written g.L.Link.faults c.args.link.now)
    (link_of g.L.Link.left g.L.Link.written g.L.Link.faults c.answer_code-in-SpoolFault.new.link) c.answer_code-in-SpoolFault.result) (sym c.in-SpoolFault.is)
    c.answer_code-in-SpoolFault.ensures

pub returns-in-NumberOverflow : goal.returns-in-NumberOverflow
returns-in-NumberOverflow g c =
    subst (λ (r : ResultRefusal). SendsCode (code_of r) (detail_of c.args.checked.now r)
    (link_of g.L.Link.left g.L.Link.written g.L.Link.faults c.args.link.now)
    (link_of g.L.Link.left g.L.Link.written g.L.Link.faults c.answer_number-in-NumberOverflow.new.link) c.answer_number-in-NumberOverflow.result) (sym c.in-NumberOverflow.is)
    c.answer_number-in-NumberOverflow.ensures

pub returns-in-SpoolDamaged : goal.returns-in-SpoolDamaged
returns-in-SpoolDamaged g c =
    subst (λ (r : ResultRefusal). SendsCode (code_of r) (detail_of c.args.checked.now r)
    (link_of g.L.Link.left g.L.Link.written g.L.Link.faults c.args.link.now)
    (link_of g.L.Link.left g.L.Link.written g.L.Link.faults c.answer_number-in-SpoolDamaged.new.link) c.answer_number-in-SpoolDamaged.result) (sym c.in-SpoolDamaged.is)
    c.answer_number-in-SpoolDamaged.ensures
