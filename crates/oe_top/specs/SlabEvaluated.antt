-- What the rounds of a run leave that is folded slab by slab.
use Rattle.std.specs.Prelude.{◌≡◌, ◌≤◌, ℕ, ◌+◌, ◌*◌, List, Option, None, Some, Result, IsErrOf, OnOk}
use Rattle.oe_engine.specs.Results.{IsVisible}
use Rattle.oe_engine.specs.Evaluations.{loads_of}
use Rattle.oe_outside.specs.Faults.{HasCauseOf}
use Rattle.oe_plan.specs.Figures.{chunks_of}
use Rattle.oe_check.specs.Checked.{CheckedGraph}
use Rattle.oe_meanings.specs.Graphs.{Collections}
use Rattle.oe_check.specs.Laws.{AreCollectionsOf}
use Rattle.oe_slab.specs.Figures.{largest_slab, taken_by}
use Rattle.oe_slab.specs.Plans.{IsSlabPlan, SlabPlanOf, most_asked}
use Rattle.oe_slab.specs.Runs.{HasDone, HasRunRecords, SlabRunOf, chunk_total, result_cube}
use Rattle.oe_slab.specs.Slabs.{dates_of_fold}
use Rattle.oe_sources.specs.Catalogue.{Row, cells_asked}
use Rattle.oe_steps.specs.Collections.{AreRead, LoadRose, Shows}
use Rattle.oe_steps.specs.Refusals.{KeepsDamage}
use Rattle.oe_steps.specs.declared.fail.RunFail.{RunFail}
use Rattle.oe_steps.specs.declared.fail.RunFail.TheVariants as run
use Rattle.oe_window.specs.Chunks.{parts_along}
use Rattle.oe_window.specs.declared.grid.ChunkSize.{ChunkSize}

-- ---- what a run reads

-- in how many slabs all dates of a chunk are folded
abbrev pub slabs_of : CheckedGraph → ChunkSize → ℕ → ℕ
slabs_of c size fold = parts_along (dates_of_fold c fold) size.t

-- how many of the nodes before the cut load a collection
abbrev pub loads_before : CheckedGraph → ℕ → ℕ
loads_before c fold = loads_of (record c { result = taken_by c fold })

-- Reading changed nothing of the collections but their counters, and for each slab of each chunk it asked for one
-- window of a slab at most for each of these nodes.
pub record ReadsForSlabs (c : CheckedGraph) (size : ChunkSize) (fold : ℕ) (before after : List Row) : Type 0 where
  pub read : AreRead before after
  pub asked : cells_asked after
      ≤ cells_asked before + chunks_of c size * (slabs_of c size fold * (loads_before c fold * largest_slab c size))

-- ---- plans and rounds

-- this is the plan of a graph, for chunks and slabs of a size; that it is a plan has that the run has a time cut and
-- holds no more cells than are allowed
pub record IsSlabPlanOf (c : CheckedGraph) (size : ChunkSize) (p : SlabPlanOf) : Type 0 where
  pub graph_is : p.graph ≡ c
  pub planned : IsSlabPlan p
  pub size_is : p.size ≡ size

-- a run that stands before its first round
pub record IsSlabBegun (r : SlabRunOf) : Type 0 where
  pub planned : IsSlabPlan r.plan
  pub none_done : r.done ≡ 0
  pub none_over : r.over ≡ None

-- the same of a plan
pub record ReadsForSlabPlan (p : SlabPlanOf) (before after : List Row) : Type 0 where
  pub read : AreRead before after
  pub asked : cells_asked after ≤ cells_asked before + chunk_total p * most_asked p

-- what rounds leave of a run, whatever the last of them answered
pub record GoesBySlabs (before after : SlabRunOf) (rows rows_after : List Row) (store store_after : Option (List ℕ)) : Type 0 where
  pub plan : after.plan ≡ before.plan
  pub within : after.done ≤ chunk_total before.plan
  pub records : HasRunRecords after store_after
  pub values : (collections : Collections) → AreCollectionsOf before.plan.graph collections
      → Shows before.plan.graph rows collections → HasDone after store_after (result_cube collections before.plan)
  pub read : AreRead rows rows_after
  pub visible : IsVisible store → IsVisible store_after

-- all rounds of a run: all chunks are done, or the cause why not
pub record FoldsThrough (before after : SlabRunOf) (rows rows_after : List Row) (store store_after : Option (List ℕ))
    (faults faults_after : ℕ) (result : Result (Unit {0}) RunFail) : Type 0 where
  pub goes : GoesBySlabs before after rows rows_after store store_after
  pub reads : ReadsForSlabPlan before.plan rows rows_after
  pub done : OnOk result (after.done ≡ chunk_total before.plan)
  pub read_cause : IsErrOf result run.SourceFailed → LoadRose before.plan.graph rows rows_after
  pub says : (load number : ℕ) → IsErrOf result (run.SourceDamaged load number)
      → KeepsDamage before.plan.graph rows load number
  pub spool_cause : HasCauseOf run.SpoolFailed faults faults_after result

-- and then the look for a cell that is Over
pub record CompletesSlabs (before after : SlabRunOf) (rows rows_after : List Row) (store store_after : Option (List ℕ))
    (faults faults_after : ℕ) (result : Result (Unit {0}) RunFail) : Type 0 where
  pub through : FoldsThrough before after rows rows_after store store_after faults faults_after result
  pub numbers : OnOk result (after.over ≡ None)
  pub overflow : (number : ℕ) → IsErrOf result (run.Overflow number)
      → (after.done ≡ chunk_total before.plan) × (after.over ≡ Some number)
