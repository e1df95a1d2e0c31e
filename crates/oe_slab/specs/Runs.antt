-- A run that is folded slab by slab: chunks of the result, one a round, into the records of a spool.
use Rattle.std.specs.Prelude.{◌≡◌, ◌≢◌, ℕ, ◌-◌, min, List, map, Option, Some, None}
use Rattle.std.specs.List.{range_with_len}
use Rattle.oe_cell.specs.Cells.{IsCell}
use Rattle.oe_cell.specs.declared.cell.Cell.{Cell}
use Rattle.oe_cell.specs.declared.cell.Cell.TheVariants.{Empty, Over}
use Rattle.oe_dims.specs.Cube.{Cube}
use Rattle.oe_dims.specs.Dimensions.{Dimensions}
use Rattle.oe_dims.specs.Positions.{Position, number_of}
use Rattle.oe_plan.specs.Figures.{chunks_of, shape_of_node}
use Rattle.oe_meanings.specs.Graphs.{Collections}
use Rattle.oe_check.specs.Laws.{AreCollectionsOf, meaning_of_node}
use Rattle.oe_spool.specs.Least.{IsLeastOver}
use Rattle.oe_spool.specs.Spooled.{HoldsRecord, HoldsRecords, IsInSome}
use Rattle.oe_window.specs.Cells.{cell_at}
use Rattle.oe_window.specs.Chunks.{chunk_window, tiling_of}
use Rattle.oe_window.specs.declared.window.Window.{Window}
use Rattle.oe_slab.specs.Plans.{SlabPlanOf}

-- what contracts see of a run: the plan, where its records begin, how many chunks are done, and the least number of a
-- cell that is Over among those that are done
pub record SlabRunOf : Type 0 where
  pub plan : SlabPlanOf
  pub base : ℕ
  pub done : ℕ
  pub over : Option ℕ

-- how many chunks a plan has
abbrev pub chunk_total : SlabPlanOf → ℕ
chunk_total p = chunks_of p.graph p.size

-- how many chunks a round takes: one, or none where none is left
abbrev pub chunks_in_round : SlabRunOf → ℕ
chunks_in_round r = min 1 (chunk_total r.plan - r.done)

-- the window of a chunk of the result
abbrev pub chunk_of : SlabPlanOf → ℕ → Window
chunk_of p k = chunk_window (tiling_of (shape_of_node p.graph p.graph.result) p.size) k

-- so many chunks from one on
abbrev pub chunks_from : SlabPlanOf → ℕ → ℕ → List Window
chunks_from p first count = map (chunk_of p) (range_with_len first count)

-- the shape of the result, and its cube over collections
abbrev pub result_shape : SlabPlanOf → Dimensions
result_shape p = shape_of_node p.graph p.graph.result

abbrev pub result_cube : Collections → SlabPlanOf → Cube Cell
result_cube collections p = (meaning_of_node collections p.graph p.graph.result).cube

-- what is done of a run are the records of a cube, all cells of which are valid there, and the least number at which it
-- is Over there
pub record HasDone (r : SlabRunOf) (store : Option (List ℕ)) (cube : Cube Cell) : Type 0 where
  pub records : HoldsRecords store r.base cube (IsInSome (chunks_from r.plan 0 r.done))
  pub valid : (p : Position) → IsInSome (chunks_from r.plan 0 r.done) p → IsCell (cell_at Empty cube p)
  pub least : IsLeastOver cube (IsInSome (chunks_from r.plan 0 r.done)) r.over

-- the same where the bytes of the store are visible
abbrev pub ShowsDone : SlabRunOf → Option (List ℕ) → Cube Cell → Type 0
ShowsDone r None cube = ⊥
ShowsDone r (Some bytes) cube = HasDone r (Some bytes) cube

-- something holds of the cube of a run's result, over any collections over which the records in a visible store are those
-- of that cube
abbrev pub OfRun : SlabRunOf → Option (List ℕ) → (Cube Cell → Type 0) → Type 0
OfRun r store Holds = (collections : Collections) → AreCollectionsOf r.plan.graph collections
    → ShowsDone r store (result_cube collections r.plan) → Holds (result_cube collections r.plan)

-- a record of some cell stands at each position that is done, of none that is Over where none was found
pub record HasSome (r : SlabRunOf) (store : Option (List ℕ)) (p : Position) : Type 0 where
  pub cell : Cell
  pub valid : IsCell cell
  pub held : HoldsRecord store r.base (number_of (result_shape r.plan) p) cell
  pub numbered : r.over ≡ None → cell ≢ Over

abbrev pub HasRunRecords : SlabRunOf → Option (List ℕ) → Type 0
HasRunRecords r store = (p : Position) → IsInSome (chunks_from r.plan 0 r.done) p → HasSome r store p
