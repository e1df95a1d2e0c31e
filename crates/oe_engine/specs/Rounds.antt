-- How a round of a run ends.
use Rattle.std.specs.Prelude.{◌≡◌, ◌≤◌, ◌↔◌, ℕ, ◌+◌, ◌*◌, List, Option, Result, IsErrOf, OnOk, OnErr, IfOk, IfErr}
use Rattle.oe_outside.specs.Faults.{HasCauseOf}
use Rattle.oe_plan.specs.Figures.{largest_window, shape_of_node}
use Rattle.oe_meanings.specs.Graphs.{Collections}
use Rattle.oe_check.specs.Laws.{AreCollectionsOf}
use Rattle.oe_sources.specs.Catalogue.{Row, cells_asked}
use Rattle.oe_spool.specs.Spooled.{ChangesOnly, IsInSome}
use Rattle.oe_steps.specs.Collections.{AreRead, LoadRose, Shows}
use Rattle.oe_steps.specs.Refusals.{IsOfSource, RefusalSays}
use Rattle.oe_engine.specs.Runs.{HasDone, HasRunRecords, RunOf, chunk_total, chunks_from, chunks_in_round, evaluated_after, load_count, result_cube}
use Rattle.oe_engine.specs.declared.run.Progress.{Progress}
use Rattle.oe_engine.specs.declared.run.Progress.TheVariants.{Complete}
use Rattle.oe_steps.specs.declared.fail.RunFail.{RunFail}
use Rattle.oe_steps.specs.declared.fail.RunFail.TheVariants.{SourceFailed, SpoolFailed}

-- what a round changes of a run
pub record Advances (before after : RunOf) (result : Result Progress RunFail) : Type 0 where
  pub plan : after.plan ≡ before.plan
  pub base : after.base ≡ before.base
  -- the next chunks are done, each evaluated once; it is complete exactly where no chunk is left
  pub done : OnOk result (after.done ≡ before.done + chunks_in_round before)
  pub evaluated : OnOk result (after.evaluations ≡ evaluated_after before.evaluations (chunks_in_round before))
  pub complete : IfOk result (λ progress. (progress ≡ Complete) ↔ (after.done ≡ chunk_total before.plan))
  -- after a refusal it stands at the same chunks
  pub stands : OnErr result ((after.done ≡ before.done) × (after.over ≡ before.over))
  pub unevaluated : IfErr result (λ refusal. IsOfSource refusal → after.evaluations ≡ before.evaluations)
  pub most : OnErr result (after.evaluations ≤ evaluated_after before.evaluations (chunks_in_round before))
  pub least : before.evaluations ≤ after.evaluations

-- what it writes: whatever it answers, all records that stood stay, and no byte outside those of its chunks is changed
pub record WritesChunks (before : RunOf) (rows : List Row) (store : Option (List ℕ)) (after : RunOf)
    (store_after : Option (List ℕ)) : Type 0 where
  pub records : HasRunRecords before store → HasRunRecords after store_after
  pub values : (collections : Collections) → AreCollectionsOf before.plan.graph collections
      → Shows before.plan.graph rows collections → HasDone before store (result_cube collections before.plan)
      → HasDone after store_after (result_cube collections before.plan)
  pub changes : ChangesOnly before.base (shape_of_node before.plan.graph before.plan.graph.result)
      (IsInSome (chunks_from before.plan before.done (chunks_in_round before))) store store_after

-- what it reads: of each chunk each node that loads a collection asks for one window at most
pub record ReadsChunks (before : RunOf) (rows after : List Row) : Type 0 where
  pub read : AreRead rows after
  pub asked : cells_asked after
      ≤ cells_asked rows + chunks_in_round before * (load_count before.plan * largest_window before.plan.graph
      before.plan.size)

-- why it is refused
pub record HasCauses (before : RunOf) (rows after : List Row) (faults faults_after : ℕ)
    (result : Result Progress RunFail) : Type 0 where
  pub read_cause : IsErrOf result SourceFailed → LoadRose before.plan.graph rows after
  pub says : IfErr result (RefusalSays before.plan.graph rows)
  pub spool_cause : HasCauseOf SpoolFailed faults faults_after result
