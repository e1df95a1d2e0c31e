use Rattle.std.proofs.Common.{Result, Err, sym, ap, ◌∙◌, subst}
use Rattle.oe_cell.specs.declared.cell.Cell.{Cell}
use Rattle.oe_dims.specs.Cube.{Cube}
use Rattle.oe_outside.specs.Visible.{Appends, AppendsPrefix}
use Rattle.oe_parts.specs.Head.{IsPartHead, PartHead}
use Rattle.oe_parts.specs.PartFile.{chunks_of, part_bytes}
use Rattle.oe_parts.specs.Sent.{AppendsRecords}
use Rattle.oe_parts.specs.Spooled.{ShowsPart, TellsNoRecord}
use Rattle.oe_plan.specs.Plans.{PlanOf}
use Rattle.oe_check.specs.Checked.{CheckedGraph}
use Rattle.oe_spool.specs.Spooled.{IsInSome}
use Rattle.oe_steps.specs.declared.fail.RunFail.{RunFail}
use Rattle.oe_top.proofs.Namings.{can_be_named}
use Rattle.oe_top.proofs.PartEvaluations.{chunks_refused, part_stopped, part_written}
use Rattle.oe_top.specs.Evaluated.{CanBeNamed, IsFailOfRun}
use Rattle.oe_top.proofs.part.write_chunks.Goals as goal

pub complete_part-requires-clause-mounted : goal.complete_part-requires-clause-mounted
complete_part-requires-clause-mounted g c κs within =
    c.collections_are_mounted.ensures c.args.run.plan _ c.requires.begun.planned c.requires.collections.found

pub fail_of_run-requires : goal.fail_of_run-requires
fail_of_run-requires g c =
    let err : RunFail → Result (Unit {0}) RunFail = λ f. Err f in
    let same = c.checked.ensures.value ∙ ap (λ (p : PlanOf). p.graph) (c.plan.ensures ∙ c.in-Err.ensures.through.goes.plan) in
    subst (λ (graph : CheckedGraph). CanBeNamed graph c.in-Err.fail) (sym same)
    (can_be_named c.args.run.plan.graph _ c.ids_are_valid.ensures c.in-Err.fail
    (λ node number is. c.in-Err.ensures.through.says node number (ap err is)))

pub returns : goal.returns
returns g c = λ input input_after input_faults input_faults_after.
    let err : RunFail → Result (Unit {0}) RunFail = λ f. Err f in
    let same = c.checked.ensures.value ∙ ap (λ (p : PlanOf). p.graph) (c.plan.ensures ∙ c.in-Err.ensures.through.goes.plan) in
    chunks_refused c.args.head.now.graph _ _ _ _ _ _ _ _ c.requires.collections.given c.requires.collections.rows_are c.requires.begun.planned
    input input_after input_faults input_faults_after _ _ c.in-Err.fail _
    (λ number is. c.in-Err.ensures.no_overflow number (ap err is)) c.in-Err.ensures.through
    (subst (λ (graph : CheckedGraph). IsFailOfRun graph c.in-Err.fail c.fail_of_run.result) same c.fail_of_run.ensures)

pub returns-in-Ok-write_part : goal.returns-in-Ok-write_part
returns-in-Ok-write_part g c = λ input input_after input_faults input_faults_after.
    let front = c.in-Ok.ensures.through.goes.base ∙ c.requires.base in
    rw c.write_part.ensures.left.same
    (part_written c.args.head.now.graph _ _ _ _ _ _ _ _ c.requires.collections.given c.requires.collections.rows_are c.requires.begun.planned
    c.in-Ok.ensures.through front input input_after input_faults input_faults_after _ _ _ _ _
    (subst IsPartHead c.requires.head c.requires.valid)
    (subst (λ (head : PartHead). AppendsRecords (g.O.Sink.written c.args.out.now) head (g.O.Sink.written c.write_part.new.out)) c.requires.head
    c.in-Ok-write_part.ensures.records)
    (subst (λ (head : PartHead). (cube : Cube Cell) → ShowsPart (g.P.Store.bytes c.complete_part.new.spool) 0 head cube
    → Appends (g.O.Sink.written c.args.out.now) (part_bytes head cube) (g.O.Sink.written c.write_part.new.out)) c.requires.head
    c.in-Ok-write_part.ensures.file) c.in-Ok-write_part.ensures.left.spool_cause.count c.in-Ok-write_part.ensures.left.sink_cause.count)

pub returns-in-Ok : goal.returns-in-Ok
returns-in-Ok g c = λ input input_after input_faults input_faults_after.
    let front = c.in-Ok.ensures.through.goes.base ∙ c.requires.base in
    rw c.write_part.ensures.left.same
    (part_stopped c.args.head.now.graph _ _ _ _ _ _ _ _ c.requires.collections.given c.requires.collections.rows_are c.requires.begun.planned
    c.in-Ok.ensures.through front input input_after input_faults input_faults_after _ _ _ _ _ c.in-Err-write_part.fail _
    c.fail_of_text.ensures
    (subst (λ (head : PartHead). (cube : Cube Cell) → ShowsPart (g.P.Store.bytes c.complete_part.new.spool) 0 head cube
    → AppendsPrefix (g.O.Sink.written c.args.out.now) (part_bytes head cube) (g.O.Sink.written c.write_part.new.out)) c.requires.head
    c.in-Err-write_part.ensures.prefix) c.in-Err-write_part.ensures.left.spool_cause c.in-Err-write_part.ensures.left.sink_cause
    (subst (λ (head : PartHead). TellsNoRecord (g.P.Store.bytes c.complete_part.new.spool) 0 head.shape (IsInSome (chunks_of head))
    c.in-Err-write_part.fail) c.requires.head c.in-Err-write_part.ensures.damage))
