-- Parts of runs: some chunks of the result, one round after another.
use Rattle.std.specs.Prelude.{◌≡◌, ◌≤◌, ◌↔◌, ℕ, ◌+◌, ◌-◌, ◌*◌, min, List, Option, Result, IsErrOf, OnOk, OnErr, IfOk, IfErr}
use Rattle.oe_cell.specs.Cells.{IsCell}
use Rattle.oe_cell.specs.declared.cell.Cell.{Cell}
use Rattle.oe_cell.specs.declared.cell.Cell.TheVariants.{Empty}
use Rattle.oe_dims.specs.Cube.{Cube}
use Rattle.oe_dims.specs.Positions.{Position}
use Rattle.oe_outside.specs.Faults.{HasCauseOf}
use Rattle.oe_plan.specs.Figures.{largest_window}
use Rattle.oe_meanings.specs.Graphs.{Collections}
use Rattle.oe_check.specs.Laws.{AreCollectionsOf}
use Rattle.oe_sources.specs.Catalogue.{Row, cells_asked}
use Rattle.oe_spool.specs.Least.{IsLeastOver}
use Rattle.oe_spool.specs.Spooled.{ChangesOnly, HoldsRecords, IsInSome}
use Rattle.oe_steps.specs.Collections.{AreRead, LoadRose, Shows}
use Rattle.oe_steps.specs.Refusals.{IsOfSource, RefusalSays}
use Rattle.oe_steps.specs.declared.fail.RunFail.{RunFail}
use Rattle.oe_steps.specs.declared.fail.RunFail.TheVariants.{SourceFailed, SpoolFailed}
use Rattle.oe_window.specs.Cells.{cell_at}
use Rattle.oe_window.specs.declared.window.Window.{Window}
use Rattle.oe_engine.specs.Runs.{HasSome, PartRunOf, RunOf, chunk_total, chunks_from, evaluated_after, load_count, result_cube, result_shape}
use Rattle.oe_engine.specs.declared.run.Progress.{Progress}
use Rattle.oe_engine.specs.declared.run.Progress.TheVariants.{Complete}

-- ---- what is done of a part

-- the chunks of it that are done
abbrev pub chunks_done : PartRunOf → List Window
chunks_done r = chunks_from r.plan r.first r.done

-- its records are those of a cube, all cells of which are valid there, and the number that it found is the least at which
-- that cube is Over there
pub record HasPartDone (r : PartRunOf) (store : Option (List ℕ)) (cube : Cube Cell) : Type 0 where
  pub records : HoldsRecords store r.base cube (IsInSome (chunks_done r))
  pub valid : (p : Position) → IsInSome (chunks_done r) p → IsCell (cell_at Empty cube p)
  pub least : IsLeastOver cube (IsInSome (chunks_done r)) r.over

-- a run with the same records and the same number; of how many chunks does not matter to it
abbrev pub run_of : PartRunOf → RunOf
run_of r = record { plan = r.plan; base = r.base; done = r.done; evaluations = r.evaluations; over = r.over }

-- a record of some cell stands at each position that is done, of none that is Over where none was found
abbrev pub HasPartRecords : PartRunOf → Option (List ℕ) → Type 0
HasPartRecords r store = (p : Position) → IsInSome (chunks_done r) p → HasSome (run_of r) store p

-- the part that has all chunks is a run
pub record IsWhole (r : PartRunOf) : Type 0 where
  pub first : r.first ≡ 0
  pub count : r.count ≡ chunk_total r.plan

-- ---- a round

-- so many chunks a round takes: two a worker, or those that are left
abbrev pub in_round : PartRunOf → ℕ
in_round r = min (2 * r.plan.workers) (r.count - r.done)

-- the chunks that it takes
abbrev pub chunks_next : PartRunOf → List Window
chunks_next r = chunks_from r.plan (r.first + r.done) (in_round r)

-- what a round changes of a part
pub record AdvancesPart (before after : PartRunOf) (result : Result Progress RunFail) : Type 0 where
  pub plan : after.plan ≡ before.plan
  pub base : after.base ≡ before.base
  pub first : after.first ≡ before.first
  pub count : after.count ≡ before.count
  -- the next chunks are done, each evaluated once; it is complete exactly where none is left
  pub done : OnOk result (after.done ≡ before.done + in_round before)
  pub evaluated : OnOk result (after.evaluations ≡ evaluated_after before.evaluations (in_round before))
  pub complete : IfOk result (λ progress. (progress ≡ Complete) ↔ (after.done ≡ before.count))
  -- after a refusal it stands at the same chunks
  pub stands : OnErr result ((after.done ≡ before.done) × (after.over ≡ before.over))
  pub unevaluated : IfErr result (λ refusal. IsOfSource refusal → after.evaluations ≡ before.evaluations)
  pub most : OnErr result (after.evaluations ≤ evaluated_after before.evaluations (in_round before))
  pub least : before.evaluations ≤ after.evaluations

-- what it writes: whatever it answers, all records that stood stay, and no byte outside those of its chunks is changed
pub record WritesPart (before : PartRunOf) (rows : List Row) (store : Option (List ℕ)) (after : PartRunOf)
    (store_after : Option (List ℕ)) : Type 0 where
  pub records : HasPartRecords before store → HasPartRecords after store_after
  pub values : (collections : Collections) → AreCollectionsOf before.plan.graph collections
      → Shows before.plan.graph rows collections → HasPartDone before store (result_cube collections before.plan)
      → HasPartDone after store_after (result_cube collections before.plan)
  pub changes : ChangesOnly before.base (result_shape before.plan) (IsInSome (chunks_next before)) store store_after

-- what it reads: of each chunk each node that loads a collection asks for one window at most
pub record ReadsPart (before : PartRunOf) (rows after : List Row) : Type 0 where
  pub read : AreRead rows after
  pub asked : cells_asked after
      ≤ cells_asked rows + in_round before * (load_count before.plan * largest_window before.plan.graph before.plan.size)

-- why it is refused
pub record HasPartCauses (before : PartRunOf) (rows after : List Row) (faults faults_after : ℕ)
    (result : Result Progress RunFail) : Type 0 where
  pub read_cause : IsErrOf result SourceFailed → LoadRose before.plan.graph rows after
  pub says : IfErr result (RefusalSays before.plan.graph rows)
  pub spool_cause : HasCauseOf SpoolFailed faults faults_after result
