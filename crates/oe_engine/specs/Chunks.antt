-- The chunks of one round, each in a bench of its own.
use Rattle.std.specs.Prelude.{◌≡◌, ◌≢◌, ℕ, ◌+◌, List, length, slice_get, take, Option, Some, None}
use Rattle.std.specs.List.{All}
use Rattle.oe_cell.specs.Cells.{IsCell}
use Rattle.oe_cell.specs.declared.cell.Cell.{Cell}
use Rattle.oe_cell.specs.declared.cell.Cell.TheVariants.{Empty, Over}
use Rattle.oe_check.specs.Laws.{AreCollectionsOf}
use Rattle.oe_dims.specs.Cube.{Cube}
use Rattle.oe_meanings.specs.Graphs.{Collections}
use Rattle.oe_plan.specs.Figures.{shape_of_node}
use Rattle.oe_plan.specs.Plans.{PlanOf}
use Rattle.oe_spool.specs.Least.{IsLeastOver}
use Rattle.oe_spool.specs.Spooled.{HoldsWindow, IsInSome}
use Rattle.oe_window.specs.Cells.{cells_on}
use Rattle.oe_engine.specs.Benches.{BenchOf, IsBenchFor, IsDone, IsLoaded, OfResult, buffer_cells_at, chunk_of}
use Rattle.oe_engine.specs.Runs.{chunks_from}
use Rattle.oe_engine.specs.declared.bench.State.TheVariants.{Loaded, Done}

-- each of the benches with its chunk, counted from a first one on
abbrev pub EachBench : ℕ → (ℕ → BenchOf → Type 0) → List BenchOf → Type 0
EachBench first Holds benches = (i : ℕ) (b : BenchOf) → slice_get benches i ≡ Some b → Holds (first + i) b

-- a bench for a plan that is loaded for a chunk, and one that is done for it
pub record IsAtLoaded (p : PlanOf) (k : ℕ) (b : BenchOf) : Type 0 where
  pub bench : IsBenchFor p b
  pub state : b.state ≡ Loaded k

pub record IsAtDone (p : PlanOf) (k : ℕ) (b : BenchOf) : Type 0 where
  pub bench : IsBenchFor p b
  pub state : b.state ≡ Done k

-- over whatever collections the first so many of the old benches are loaded, each for its chunk, over the same ones the
-- first so many of the new are done
abbrev pub EvaluatesFirst : PlanOf → ℕ → ℕ → List BenchOf → List BenchOf → Type 0
EvaluatesFirst p first count old new = (collections : Collections) → AreCollectionsOf p.graph collections
    → EachBench first (IsLoaded p collections) (take count old)
    → EachBench first (IsDone p collections) (take count new)

-- the cells of the result that a bench holds once it is done
abbrev pub AreResultOf : PlanOf → BenchOf → List Cell → Type 0
AreResultOf p b cells = OfResult p (λ step. cells ≡ buffer_cells_at p b.windows b.buffers step)

-- a cube of the shape of the result has these cells on the chunk
pub record HasOnChunk (p : PlanOf) (cube : Cube Cell) (k : ℕ) (b : BenchOf) : Type 0 where
  pub shape : cube.shape ≡ shape_of_node p.graph p.graph.result
  pub cells : AreResultOf p b (cells_on Empty cube (chunk_of p k))

-- the records of its chunk stand in a store, of each cube that has its cells there
abbrev pub HasRecordsOf : PlanOf → Option (List ℕ) → ℕ → ℕ → BenchOf → Type 0
HasRecordsOf p store base k b = (cube : Cube Cell) → HasOnChunk p cube k b → HoldsWindow store base cube (chunk_of p k)

-- each of its cells is valid: a number in it is in lowest terms and in range
abbrev pub HasValidCells : PlanOf → ℕ → BenchOf → Type 0
HasValidCells p k b = (cells : List Cell) → AreResultOf p b cells → All IsCell cells

-- none of its cells is Over
abbrev pub HasNoOver : PlanOf → ℕ → BenchOf → Type 0
HasNoOver p k b = (cells : List Cell) → AreResultOf p b cells → All (λ cell. cell ≢ Over) cells

-- the least number at which a cell of the chunks is Over, in each cube that has the cells of the benches on them; none
-- where no cell of the benches is
pub record IsLeastOf (p : PlanOf) (first : ℕ) (benches : List BenchOf) (least : Option ℕ) : Type 0 where
  pub of_cubes : (cube : Cube Cell) → EachBench first (HasOnChunk p cube) benches
      → IsLeastOver cube (IsInSome (chunks_from p first (length benches))) least
  pub none : least ≡ None → EachBench first (HasNoOver p) benches
