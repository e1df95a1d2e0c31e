-- A run: chunks of the result, one round after another, into the records of a spool.
use Rattle.std.specs.Prelude.{◌≡◌, ◌≢◌, ℕ, ◌+◌, ◌-◌, ◌*◌, min, List, length, map, count_by, Option, Some, None, ⊤}
use Rattle.std.specs.List.{range_with_len}
use Rattle.oe_cell.specs.declared.cell.Cell.{Cell}
use Rattle.oe_cell.specs.declared.cell.Cell.TheVariants.{Empty, Over}
use Rattle.oe_cell.specs.Cells.{IsCell}
use Rattle.oe_dims.specs.Cube.{Cube}
use Rattle.oe_dims.specs.Dimensions.{Dimensions}
use Rattle.oe_dims.specs.Positions.{Position, number_of}
use Rattle.oe_outside.specs.Faults.{last_count}
use Rattle.oe_meanings.specs.Graphs.{Collections}
use Rattle.oe_check.specs.Laws.{AreCollectionsOf, meaning_of_node}
use Rattle.oe_spool.specs.Least.{IsLeastOver}
use Rattle.oe_spool.specs.Spooled.{HoldsRecord, HoldsRecords, IsInSome}
use Rattle.oe_window.specs.Cells.{cell_at}
use Rattle.oe_window.specs.declared.window.Window.{Window}
use Rattle.oe_plan.specs.Figures.{chunks_of, shape_of_node}
use Rattle.oe_plan.specs.Plans.{PlanOf}
use Rattle.oe_engine.specs.Benches.{chunk_of, is_load_at}
use Rattle.oe_render.specs.declared.rendering.RenderFail.{RenderFail}
use Rattle.oe_render.specs.declared.rendering.RenderFail.TheVariants.{SpoolFailed, SpoolDamaged, SinkFailed}

-- what contracts see of a run: the plan, where its records begin, how many chunks are done, how many were evaluated,
-- and the least number of a cell that is Over among those that are done
pub record RunOf : Type 0 where
  pub plan : PlanOf
  pub base : ℕ
  pub done : ℕ
  pub evaluations : ℕ
  pub over : Option ℕ

-- what contracts see of a part of a run: so many of its chunks, from a first one on, of which so many are done
pub record PartRunOf : Type 0 where
  pub plan : PlanOf
  pub base : ℕ
  pub first : ℕ
  pub count : ℕ
  pub done : ℕ
  pub evaluations : ℕ
  pub over : Option ℕ

-- how many chunks a plan has
abbrev pub chunk_total : PlanOf → ℕ
chunk_total p = chunks_of p.graph p.size

-- how many chunks a round takes: two a worker, or those that are left
abbrev pub chunks_in_round : RunOf → ℕ
chunks_in_round r = min (2 * r.plan.workers) (chunk_total r.plan - r.done)

-- so many chunks from one on
abbrev pub chunks_from : PlanOf → ℕ → ℕ → List Window
chunks_from p first count = map (chunk_of p) (range_with_len first count)

-- the shape of the result
abbrev pub result_shape : PlanOf → Dimensions
result_shape p = shape_of_node p.graph p.graph.result

-- the cube of the result over collections
abbrev pub result_cube : Collections → PlanOf → Cube Cell
result_cube collections p = (meaning_of_node collections p.graph p.graph.result).cube

-- what is done of a run are the records of a cube, all cells of which are valid there, and the least number at which it
-- is Over there
pub record HasDone (r : RunOf) (store : Option (List ℕ)) (cube : Cube Cell) : Type 0 where
  pub records : HoldsRecords store r.base cube (IsInSome (chunks_from r.plan 0 r.done))
  pub valid : (p : Position) → IsInSome (chunks_from r.plan 0 r.done) p → IsCell (cell_at Empty cube p)
  pub least : IsLeastOver cube (IsInSome (chunks_from r.plan 0 r.done)) r.over

-- the same where the bytes of the store are visible
abbrev pub ShowsDone : RunOf → Option (List ℕ) → Cube Cell → Type 0
ShowsDone r None cube = ⊥
ShowsDone r (Some bytes) cube = HasDone r (Some bytes) cube

-- something holds of the cube of a run's result, over any collections over which the records in a visible store are those
-- of that cube
abbrev pub OfRun : RunOf → Option (List ℕ) → (Cube Cell → Type 0) → Type 0
OfRun r store Holds = (collections : Collections) → AreCollectionsOf r.plan.graph collections
    → ShowsDone r store (result_cube collections r.plan) → Holds (result_cube collections r.plan)

-- a record of some cell stands at each position that is done, of none that is Over where none was found
pub record HasSome (r : RunOf) (store : Option (List ℕ)) (p : Position) : Type 0 where
  pub cell : Cell
  pub valid : IsCell cell
  pub held : HoldsRecord store r.base (number_of (result_shape r.plan) p) cell
  pub numbered : r.over ≡ None → cell ≢ Over

abbrev pub HasRunRecords : RunOf → Option (List ℕ) → Type 0
HasRunRecords r store = (p : Position) → IsInSome (chunks_from r.plan 0 r.done) p → HasSome r store p

-- how many nodes of the run load a collection
abbrev pub load_count : PlanOf → ℕ
load_count p = count_by (is_load_at p) (range_with_len 0 (length p.order.steps))

-- a counter of evaluations after so many more, which stays at its last value
abbrev pub evaluated_after : ℕ → ℕ → ℕ
evaluated_after count more = min (count + more) last_count

-- a record that is read back is none, or that of Over, only in a store whose bytes are hidden
abbrev pub IsHiddenDamage : Option (List ℕ) → RenderFail → Type 0
IsHiddenDamage store SpoolFailed = ⊤
IsHiddenDamage store SinkFailed = ⊤
IsHiddenDamage store (SpoolDamaged number) = store ≡ None
