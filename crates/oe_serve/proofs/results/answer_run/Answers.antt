use Rattle.std.proofs.Common.{◌∙◌, sym, ap, subst}
use Rattle.oe_engine.specs.Runs.{chunk_total}
use Rattle.oe_plan.specs.Plans.{IsPlan, PlanOf}
use Rattle.oe_outside.proofs.Causes.{NeverFalls-trans}
use Rattle.oe_check.specs.Checked.{CheckedGraph}
use Rattle.oe_serve.specs.Evaluations.{CanBeNamed}
use Rattle.oe_serve.proofs.Answered.{can_be_named, with_code, with_text}
use Rattle.oe_serve.proofs.results.answer_run.Goals as goal

pub send-requires-clause-planned : goal.send-requires-clause-planned
send-requires-clause-planned g c = subst IsPlan (sym c.in-Ok.ensures.goes.plan) c.requires.going.planned

pub send-requires-clause-complete : goal.send-requires-clause-complete
send-requires-clause-complete g c = c.in-Ok.ensures.complete.done ∙ ap chunk_total (sym c.in-Ok.ensures.goes.plan)

pub answer_refusal-requires : goal.answer_refusal-requires
answer_refusal-requires g c =
    subst (λ (graph : CheckedGraph). CanBeNamed graph c.in-Err.refusal)
    (sym (c.checked.ensures ∙ ap (λ (p : PlanOf). p.graph) c.in-Err.ensures.goes.plan))
    (can_be_named c.args.run.now.plan.graph _ _ _ _ _ c.in-Err.refusal c.in-Err.ensures.refused)

pub returns-in-Ok-clause-answers : goal.returns-in-Ok-clause-answers
returns-in-Ok-clause-answers g c = λ kept faults.
    with_text c.args.run.now c.complete.new.run _ _ _ _ (g.P.Store.bytes c.send.new.spool) _ _
    (g.P.Store.faults c.send.new.spool) c.requires.going kept faults _ _ c.in-Ok.count c.in-Ok.ensures c.send.result
    c.send.ensures.sends

pub returns-in-Ok-clause-changes : goal.returns-in-Ok-clause-changes
returns-in-Ok-clause-changes g c = rw c.send.ensures.same c.in-Ok.ensures.goes.changes

pub returns-in-Ok-clause-read : goal.returns-in-Ok-clause-read
returns-in-Ok-clause-read g c = c.in-Ok.ensures.goes.read

pub returns-in-Ok-clause-count : goal.returns-in-Ok-clause-count
returns-in-Ok-clause-count g c = NeverFalls-trans c.in-Ok.ensures.spool_count c.send.ensures.count

pub returns-in-Err-clause-answers : goal.returns-in-Err-clause-answers
returns-in-Err-clause-answers g c = λ kept faults.
    with_code c.args.run.now c.complete.new.run _ _ _ (g.P.Store.bytes c.complete.new.spool)
    (g.P.Store.bytes c.complete.new.spool) _ (g.P.Store.faults c.complete.new.spool)
    (g.P.Store.faults c.complete.new.spool) c.requires.going kept faults _ _ c.in-Err.refusal c.in-Err.ensures
    c.checked.result.now c.checked.ensures c.answer_refusal.result c.answer_refusal.ensures

pub returns-in-Err-clause-changes : goal.returns-in-Err-clause-changes
returns-in-Err-clause-changes g c = c.in-Err.ensures.goes.changes

pub returns-in-Err-clause-read : goal.returns-in-Err-clause-read
returns-in-Err-clause-read g c = c.in-Err.ensures.goes.read

pub returns-in-Err-clause-count : goal.returns-in-Err-clause-count
returns-in-Err-clause-count g c = c.in-Err.ensures.spool_count
