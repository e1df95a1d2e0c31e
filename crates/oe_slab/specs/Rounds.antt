-- How a round of a run ends that is folded slab by slab.
use Rattle.std.specs.Prelude.{◌≡◌, ◌≤◌, ◌↔◌, ℕ, ◌+◌, ◌*◌, List, Option, Result, IsErrOf, OnErr, OnOk, IfErr, IfOk}
use Rattle.oe_outside.specs.Faults.{HasCauseOf}
use Rattle.oe_meanings.specs.Graphs.{Collections}
use Rattle.oe_check.specs.Laws.{AreCollectionsOf}
use Rattle.oe_sources.specs.Catalogue.{Row, cells_asked}
use Rattle.oe_spool.specs.Spooled.{ChangesOnly, IsInSome}
use Rattle.oe_steps.specs.Collections.{AreRead, LoadRose, Shows}
use Rattle.oe_steps.specs.Refusals.{RefusalSays}
use Rattle.oe_steps.specs.declared.fail.RunFail.{RunFail}
use Rattle.oe_steps.specs.declared.fail.RunFail.TheVariants.{SourceFailed, SpoolFailed}
use Rattle.oe_slab.specs.Plans.{most_asked}
use Rattle.oe_slab.specs.Runs.{HasDone, HasRunRecords, SlabRunOf, chunk_total, chunks_from, chunks_in_round, result_cube, result_shape}
use Rattle.oe_slab.specs.declared.slab_run.SlabProgress.{SlabProgress}
use Rattle.oe_slab.specs.declared.slab_run.SlabProgress.TheVariants.{Complete}

-- what a round changes of a run: the next chunk is done, if one is left, and it is complete exactly where none is left
-- then; after a refusal it stands at the same chunk
pub record Advances (before after : SlabRunOf) (result : Result SlabProgress RunFail) : Type 0 where
  pub plan : after.plan ≡ before.plan
  pub base : after.base ≡ before.base
  pub done : OnOk result (after.done ≡ before.done + chunks_in_round before)
  pub complete : IfOk result (λ progress. (progress ≡ Complete) ↔ (after.done ≡ chunk_total before.plan))
  pub stands : OnErr result ((after.done ≡ before.done) × (after.over ≡ before.over))

-- what it writes: whatever it answers, all records that stood stay, and no byte outside those of its chunk is changed
pub record WritesChunk (before : SlabRunOf) (rows : List Row) (store : Option (List ℕ)) (after : SlabRunOf)
    (store_after : Option (List ℕ)) : Type 0 where
  pub records : HasRunRecords before store → HasRunRecords after store_after
  pub values : (collections : Collections) → AreCollectionsOf before.plan.graph collections
      → Shows before.plan.graph rows collections → HasDone before store (result_cube collections before.plan)
      → HasDone after store_after (result_cube collections before.plan)
  pub changes : ChangesOnly before.base (result_shape before.plan)
      (IsInSome (chunks_from before.plan before.done (chunks_in_round before))) store store_after

-- what it reads: of each slab of its chunk each node before the cut that loads a collection asks for one window at most
pub record ReadsChunk (before : SlabRunOf) (rows after : List Row) : Type 0 where
  pub read : AreRead rows after
  pub asked : cells_asked after ≤ cells_asked rows + chunks_in_round before * most_asked before.plan

-- why it is refused
pub record HasCauses (before : SlabRunOf) (rows after : List Row) (faults faults_after : ℕ)
    (result : Result SlabProgress RunFail) : Type 0 where
  pub read_cause : IsErrOf result SourceFailed → LoadRose before.plan.graph rows after
  pub says : IfErr result (RefusalSays before.plan.graph rows)
  pub spool_cause : HasCauseOf SpoolFailed faults faults_after result
