use Rattle.std.proofs.Common.{ℕ, Option, IfSome, is_some, sym, ap, subst, ◌∙◌}
use Rattle.oe_plan.specs.Schedules.{node_at}
use Rattle.oe_sources.proofs.SourceLemmas.{fault_counted}
use Rattle.oe_sources.specs.Catalogue.{IsFaultAt}
use Rattle.oe_sources.specs.CatalogueRows.{rows_of}
use Rattle.oe_sources.specs.declared.source.ReadFault.{ReadFault}
use Rattle.oe_steps.proofs.PlaneLemmas.{met_at, settled}
use Rattle.oe_steps.proofs.StepLoadLemmas.{mounted_for}
use Rattle.oe_steps.proofs.ReadLemmas.{AreRead-refl}
use Rattle.oe_steps.specs.Loads.{HasRead, refusal_for}
use Rattle.oe_steps.proofs.loading.settle.Goals as goal

pub count_fault-requires-clause-mounted : goal.count_fault-requires-clause-mounted
count_fault-requires-clause-mounted g c = c.place_of-place.ensures.2.within

pub count_fault-requires-clause-met : goal.count_fault-requires-clause-met
count_fault-requires-clause-met g c =
    let rows = rows_of (λ z. (goal.SharedSource-dyn g z).CubeSource.seen z.1) c.args.catalogue.now in
    let at = c.place_of-place.ensures in
    subst (λ (fault : Option ReadFault). IfSome fault (IsFaultAt rows c.place_of-place.result)) (sym c.split_fault-answer.ensures.fault)
    (met_at c.args.checked.now rows (node_at c.args.schedule.now c.args.step) c.args.looked c.requires.refused at.0 c.place_of-place.result at.1 at.2)

pub returns-clause-answer : goal.returns-clause-answer
returns-clause-answer g c =
    c.run_answer.ensures ∙ (ap (λ (n : ℕ). refusal_for n c.split_fault-answer.result.0) c.node.ensures ∙ ap (refusal_for (node_at c.args.schedule.now c.args.step)) c.split_fault-answer.ensures.answer)

pub returns-clause-read : goal.returns-clause-read
returns-clause-read g c =
    let graph = c.args.checked.now in
    let schedule = c.args.schedule.now in
    let rows = rows_of (λ z. (goal.SharedSource-dyn g z).CubeSource.seen z.1) c.args.catalogue.now in
    let after = rows_of (λ z. (goal.SharedSource-dyn g z).CubeSource.seen z.1) c.count_fault.new.self in
    let at = c.place_of-place.ensures in
    let place = c.place_of-place.result in
    let same = c.run_answer.ensures ∙ (ap (λ (n : ℕ). refusal_for n c.split_fault-answer.result.0) c.node.ensures ∙ ap (refusal_for (node_at schedule c.args.step)) c.split_fault-answer.ensures.answer) in
    subst (HasRead graph 0 rows after) (sym same)
    (settled graph schedule c.requires.schedule rows c.args.step c.requires.step c.requires.load place
    (mounted_for graph schedule rows rows c.args.step place at.0 at.1 at.2 (AreRead-refl rows))
    0 after _ c.args.looked (ap is_some c.split_fault-answer.ensures.fault ∙ fault_counted c.args.looked) c.requires.refused c.count_fault.ensures.counted)
