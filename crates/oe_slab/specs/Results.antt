-- The cells of the result on a chunk, in a workspace, and what is written of them.
use Rattle.std.specs.Prelude.{◌≡◌, ℕ, List, Option, Result, Ok, Err}
use Rattle.std.specs.List.{All}
use Rattle.oe_cell.specs.Cells.{IsCell}
use Rattle.oe_cell.specs.declared.cell.Cell.{Cell}
use Rattle.oe_cell.specs.declared.cell.Cell.TheVariants.{Empty}
use Rattle.oe_dims.specs.Cube.{Cube}
use Rattle.oe_dims.specs.Dimensions.{Dimensions}
use Rattle.oe_dims.specs.Positions.{Position}
use Rattle.oe_meanings.specs.Graphs.{Collections}
use Rattle.oe_plan.specs.Figures.{shape_of_node}
use Rattle.oe_plan.specs.Schedules.{AreWindowsFor}
use Rattle.oe_plan.specs.Windows.{window_at}
use Rattle.oe_spool.specs.Least.{IsLeastOver}
use Rattle.oe_spool.specs.Spooled.{HoldsWindow}
use Rattle.oe_steps.specs.Steps.{AreOfKind, OfLast, buffer_cells_at}
use Rattle.oe_steps.specs.declared.fail.RunFail.{RunFail}
use Rattle.oe_window.specs.Cells.{cells_on}
use Rattle.oe_window.specs.Chunks.{FitsSides, tiling_of}
use Rattle.oe_window.specs.Windows.{Holds, IsIn, whole_window}
use Rattle.oe_window.specs.declared.window.Window.{Window}
use Rattle.oe_slab.specs.Plans.{SlabPlanOf}
use Rattle.oe_slab.specs.Runs.{result_cube}
use Rattle.oe_slab.specs.Workspaces.{SlabWorkspaceOf}

-- ---- evaluated

-- a window of the result with positions, that keeps to the sides of chunks
pub record IsChunkOf (p : SlabPlanOf) (chunk : Window) : Type 0 where
  pub sides : FitsSides (tiling_of (shape_of_node p.graph p.graph.result) p.size) chunk
  pub inside : Holds (whole_window (shape_of_node p.graph p.graph.result)) chunk
  pub filled : (q : Position) × IsIn chunk q

-- it was evaluated on a chunk: it has windows for the part behind the cut, that of the result being the chunk, and cells
-- of the result's kind
pub record HasResultOn (p : SlabPlanOf) (chunk : Window) (w : SlabWorkspaceOf) : Type 0 where
  pub windows : AreWindowsFor p.graph p.behind w.windows_behind
  pub chunk_is : OfLast p.behind (λ step. window_at w.windows_behind step ≡ chunk)
  pub kinds : OfLast p.behind (AreOfKind p.graph p.behind w.windows_behind w.behind)

-- these are its cells of the result
abbrev pub AreResultOf : SlabPlanOf → SlabWorkspaceOf → List Cell → Type 0
AreResultOf p w cells = OfLast p.behind (λ step. cells ≡ buffer_cells_at p.behind w.windows_behind w.behind step)

-- they are those of the result over collections on a chunk
abbrev pub HasCellsOn : SlabPlanOf → SlabWorkspaceOf → Window → Collections → Type 0
HasCellsOn p w chunk collections = AreResultOf p w (cells_on Empty (result_cube collections p) chunk)

-- an answer without its value
abbrev pub answer_of : {T : Type 0} → Result T RunFail → Result (Unit {0}) RunFail
answer_of (Ok x) = Ok tt
answer_of (Err fail) = Err fail

-- ---- written

-- the cells of a chunk are valid, the records of each cube that has them there stand in a store, and this is the least
-- number at which such a cube is Over there
pub record AreWritten (shape : Dimensions) (store : Option (List ℕ)) (base : ℕ) (chunk : Window) (cells : List Cell)
    (least : Option ℕ) : Type 0 where
  pub valid : All IsCell cells
  pub records : (cube : Cube Cell) → cube.shape ≡ shape → cells_on Empty cube chunk ≡ cells
      → HoldsWindow store base cube chunk
  pub least_is : (cube : Cube Cell) → cube.shape ≡ shape → cells_on Empty cube chunk ≡ cells
      → IsLeastOver cube (IsIn chunk) least
