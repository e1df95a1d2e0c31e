-- All rounds of a run.
use Rattle.std.specs.Prelude.{◌≡◌, ℕ, ◌+◌, ◌*◌, ◌≤◌, List, count_by, Option, Some, None, Result, IsErrOf, OnOk}
use Rattle.oe_order.specs.Graph.{is_load}
use Rattle.oe_outside.specs.Faults.{HasCauseOf}
use Rattle.oe_plan.specs.Figures.{chunks_of, largest_window, steps_of}
use Rattle.oe_plan.specs.Plans.{IsPlan, PlanOf}
use Rattle.oe_check.specs.Checked.{CheckedGraph}
use Rattle.oe_check.specs.Laws.{AreCollectionsOf}
use Rattle.oe_check.specs.Links.{links_of}
use Rattle.oe_meanings.specs.Graphs.{Collections}
use Rattle.oe_sources.specs.Catalogue.{Row, cells_asked}
use Rattle.oe_steps.specs.Collections.{AreRead, LoadRose, Shows}
use Rattle.oe_steps.specs.Refusals.{KeepsDamage}
use Rattle.oe_steps.specs.declared.fail.RunFail.{RunFail}
use Rattle.oe_steps.specs.declared.fail.RunFail.TheVariants as run
use Rattle.oe_window.specs.declared.grid.ChunkSize.{ChunkSize}
use Rattle.oe_engine.specs.Going.{ChangesOwnRecords}
use Rattle.oe_engine.specs.Results.{IsVisible}
use Rattle.oe_engine.specs.Runs.{HasDone, HasRunRecords, RunOf, chunk_total, load_count, result_cube}

-- ---- before the first round

-- this is the plan of a graph, in chunks of a size and with so many workers; a plan holds no more
-- cells than are allowed
pub record IsPlanOf (c : CheckedGraph) (size : ChunkSize) (workers : ℕ) (p : PlanOf) : Type 0 where
  pub graph_is : p.graph ≡ c
  pub planned : IsPlan p
  pub size_is : p.size ≡ size
  pub workers_are : p.workers ≡ workers

-- a run stands before its first round
pub record IsFirst (r : RunOf) : Type 0 where
  pub none_done : r.done ≡ 0
  pub none_over : r.over ≡ None

-- ---- what is read

-- how many of the nodes that the result needs load a collection
abbrev pub loads_of : CheckedGraph → ℕ
loads_of c = count_by (is_load (links_of c.nodes)) (steps_of c)

-- Reading changed nothing of the collections but their counters, and for each chunk it asked for one largest window at
-- most for each of these nodes.
pub record ReadsForRun (c : CheckedGraph) (size : ChunkSize) (before after : List Row) : Type 0 where
  pub read : AreRead before after
  pub asked : cells_asked after ≤ cells_asked before + chunks_of c size * (loads_of c * largest_window c size)

-- the most cells that a planned run asks for a chunk: one largest window for each node that loads a collection
abbrev pub most_asked : PlanOf → ℕ
most_asked p = load_count p * largest_window p.graph p.size

-- Reading changed nothing of the collections but their counters, and asked for no more than that for each chunk.
pub record ReadsForPlan (p : PlanOf) (before after : List Row) : Type 0 where
  pub read : AreRead before after
  pub asked : cells_asked after ≤ cells_asked before + chunk_total p * most_asked p

-- ---- rounds

-- what rounds leave of a run, whatever the last of them answered
pub record LeavesRun (before after : RunOf) (rows rows_after : List Row) (store store_after : Option (List ℕ)) : Type 0 where
  pub plan : after.plan ≡ before.plan
  pub base : after.base ≡ before.base
  pub within : after.done ≤ chunk_total before.plan
  pub records : HasRunRecords after store_after
  pub values : (collections : Collections) → AreCollectionsOf before.plan.graph collections
      → Shows before.plan.graph rows collections → HasDone after store_after (result_cube collections before.plan)
  pub read : AreRead rows rows_after
  -- no byte is changed but of its records
  pub changes : ChangesOwnRecords before store store_after
  pub visible : IsVisible store → IsVisible store_after

-- all rounds of a run: all chunks are done, or the cause why not
pub record GoesThrough (before after : RunOf) (rows rows_after : List Row) (store store_after : Option (List ℕ))
    (faults faults_after : ℕ) (result : Result (Unit {0}) RunFail) : Type 0 where
  pub goes : LeavesRun before after rows rows_after store store_after
  pub reads : ReadsForPlan before.plan rows rows_after
  pub done : OnOk result (after.done ≡ chunk_total before.plan)
  pub read_cause : IsErrOf result run.SourceFailed → LoadRose before.plan.graph rows rows_after
  pub says : (load number : ℕ) → IsErrOf result (run.SourceDamaged load number)
      → KeepsDamage before.plan.graph rows load number
  pub spool_cause : HasCauseOf run.SpoolFailed faults faults_after result

-- and then the look for a cell that is Over
pub record Evaluates (before after : RunOf) (rows rows_after : List Row) (store store_after : Option (List ℕ))
    (faults faults_after : ℕ) (result : Result (Unit {0}) RunFail) : Type 0 where
  pub through : GoesThrough before after rows rows_after store store_after faults faults_after result
  pub numbers : OnOk result (after.over ≡ None)
  pub overflow : (number : ℕ) → IsErrOf result (run.Overflow number)
      → (after.done ≡ chunk_total before.plan) × (after.over ≡ Some number)
