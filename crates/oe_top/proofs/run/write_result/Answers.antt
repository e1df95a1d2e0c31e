use Rattle.std.proofs.Common.{Result, Err, sym, ap, ◌∙◌, subst}
use Rattle.oe_steps.specs.declared.fail.RunFail.{RunFail}
use Rattle.oe_plan.specs.Plans.{PlanOf}
use Rattle.oe_check.specs.Checked.{CheckedGraph}
use Rattle.oe_top.proofs.Evaluations.{refused, stopped, written}
use Rattle.oe_top.proofs.Namings.{can_be_named}
use Rattle.oe_top.specs.Evaluated.{CanBeNamed, IsFailOfRun}
use Rattle.oe_top.proofs.run.write_result.Goals as goal

pub complete-requires-clause-mounted : goal.complete-requires-clause-mounted
complete-requires-clause-mounted g c κs within =
    c.collections_are_mounted.ensures c.args.run.plan _ c.requires.begun.planned c.requires.collections.found

pub fail_of_run-requires : goal.fail_of_run-requires
fail_of_run-requires g c =
    let err : RunFail → Result (Unit {0}) RunFail = λ f. Err f in
    let same = c.checked.ensures ∙ ap (λ (p : PlanOf). p.graph) c.in-Err.ensures.through.goes.plan in
    subst (λ (graph : CheckedGraph). CanBeNamed graph c.in-Err.fail) (sym same)
    (can_be_named c.args.run.plan.graph _ c.ids_are_valid.ensures c.in-Err.fail
    (λ node number is. c.in-Err.ensures.through.says node number (ap err is)))

pub returns : goal.returns
returns g c = λ input input_after input_faults input_faults_after.
    let same = c.checked.ensures ∙ ap (λ (p : PlanOf). p.graph) c.in-Err.ensures.through.goes.plan in
    refused _ _ _ _ _ _ _ _ c.requires.collections.given c.requires.collections.rows_are c.requires.begun.planned
    input input_after input_faults input_faults_after _ _ c.in-Err.fail _ c.in-Err.ensures
    (subst (λ (graph : CheckedGraph). IsFailOfRun graph c.in-Err.fail c.fail_of_run.result) same c.fail_of_run.ensures)

pub returns-in-Ok-render : goal.returns-in-Ok-render
returns-in-Ok-render g c = λ input input_after input_faults input_faults_after.
    rw c.render.ensures.same
    (written _ _ _ _ _ _ _ _ c.requires.collections.given c.requires.collections.rows_are c.requires.begun.planned
    c.in-Ok.ensures input input_after input_faults input_faults_after _ _ _ _ _ c.in-Ok-render.ensures.text c.in-Ok-render.ensures.cells
    c.in-Ok-render.ensures.spool_cause.count c.in-Ok-render.ensures.sink_cause.count)

pub returns-in-Ok : goal.returns-in-Ok
returns-in-Ok g c = λ input input_after input_faults input_faults_after.
    rw c.render.ensures.same
    (stopped _ _ _ _ _ _ _ _ c.requires.collections.given c.requires.collections.rows_are c.requires.begun.planned
    c.in-Ok.ensures input input_after input_faults input_faults_after _ _ _ _ _ c.in-Err-render.fail _ c.fail_of_text.ensures c.in-Err-render.ensures.prefix
    c.in-Err-render.ensures.cells_prefix c.in-Err-render.ensures.spool_cause c.in-Err-render.ensures.sink_cause c.in-Err-render.ensures.damage)
