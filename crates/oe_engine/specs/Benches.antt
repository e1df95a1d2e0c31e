-- A bench: what one chunk of a run is evaluated in. Its cells, and when they are those of the nodes of a plan.
use Rattle.std.specs.Prelude.{◌≡◌, ⊤, ◌<◌, ℕ, ◌+◌, Bool, List, length, sum_by}
use Rattle.oe_cell.specs.declared.cell.Cell.{Cell}
use Rattle.oe_meanings.specs.Graphs.{Collections}
use Rattle.oe_check.specs.Laws.{AreCollectionsOf}
use Rattle.oe_window.specs.Chunks.{chunk_window, tiling_of}
use Rattle.oe_window.specs.declared.window.Window.{Window}
use Rattle.oe_plan.specs.Figures.{chunks_of, largest_window, scratch_of, shape_of_node}
use Rattle.oe_plan.specs.Plans.{PlanOf, schedule_of}
use Rattle.oe_plan.specs.Schedules as schedules
use Rattle.oe_plan.specs.Windows.{AreWindows}
use Rattle.oe_steps.specs.Steps as steps
use Rattle.oe_steps.specs.Steps.{node_cells}
use Rattle.oe_engine.specs.declared.bench.State.{State}
use Rattle.oe_engine.specs.declared.bench.State.TheVariants.{Idle, Loaded, Done}

-- ---- benches

-- whether it has a chunk and how far that is, the window of each step, the buffer of each slot, and the cells that an
-- evaluation works with besides
pub record BenchOf : Type 0 where
  pub state : State
  pub windows : List Window
  pub buffers : List (List Cell)
  pub scratch : List Cell

-- how many cells it holds
abbrev pub held_cells : BenchOf → ℕ
held_cells b = sum_by (λ (cells : List Cell). length cells) b.buffers + length b.scratch

-- for each slot of a plan there is a buffer for the largest window
abbrev pub HaveRoomFor : PlanOf → List (List Cell) → Type 0
HaveRoomFor p buffers = steps.HaveRoomFor (schedule_of p) buffers

-- besides these it has a window for each step, and as many cells to work with as the plan says
pub record HasRoomFor (p : PlanOf) (b : BenchOf) : Type 0 where
  pub windows : length b.windows ≡ length p.order.steps
  pub buffers : HaveRoomFor p b.buffers
  pub scratch : length b.scratch ≡ scratch_of p.graph

-- how many cells the largest window of a step has
abbrev pub cells_of_largest_window : PlanOf → ℕ
cells_of_largest_window p = largest_window p.graph p.size

-- ---- the cells of a step

-- the node of a step
abbrev pub node_at : PlanOf → ℕ → ℕ
node_at p step = schedules.node_at (schedule_of p) step

-- whether it loads a collection
abbrev pub is_load_at : PlanOf → ℕ → Bool
is_load_at p step = schedules.is_load_at p.graph (schedule_of p) step

-- what a bench holds of it: the front of the buffer of its slot, one cell for each position of its window
abbrev pub buffer_cells_at : PlanOf → List Window → List (List Cell) → ℕ → List Cell
buffer_cells_at p windows buffers step = steps.buffer_cells_at (schedule_of p) windows buffers step

-- each of these is null, Over or of the node's kind
abbrev pub AreOfKind : PlanOf → List Window → List (List Cell) → ℕ → Type 0
AreOfKind p windows buffers step = steps.AreOfKind p.graph (schedule_of p) windows buffers step

-- what a bench holds of a step are the cells of its node on its window
abbrev pub AreCells : Collections → PlanOf → List Window → List (List Cell) → ℕ → Type 0
AreCells collections p windows buffers step = steps.AreCells collections p.graph (schedule_of p) windows buffers step

-- ---- states

-- the window of a chunk of the result
abbrev pub chunk_of : PlanOf → ℕ → Window
chunk_of p k = chunk_window (tiling_of (shape_of_node p.graph p.graph.result) p.size) k

-- each step that loads a collection
abbrev pub EachLoad : PlanOf → (ℕ → Type 0) → Type 0
EachLoad p Holds = steps.EachLoad p.graph (schedule_of p) Holds

-- the step of the result
abbrev pub OfResult : PlanOf → (ℕ → Type 0) → Type 0
OfResult p Holds = steps.OfLast (schedule_of p) Holds

-- each step before this one whose node is live at it
abbrev pub EachLive : PlanOf → ℕ → (ℕ → Type 0) → Type 0
EachLive p step Holds = steps.EachLive p.graph (schedule_of p) step Holds

-- the windows are those of a chunk, whichever it is
abbrev pub AreOfChunk : PlanOf → List Window → Type 0
AreOfChunk p windows = (chunk : Window) × AreWindows p.graph p.size chunk windows

-- it is at this chunk of the plan: it has its windows
pub record IsAtChunk (p : PlanOf) (k : ℕ) (b : BenchOf) : Type 0 where
  pub within : k < chunks_of p.graph p.size
  pub windows : AreWindows p.graph p.size (chunk_of p k) b.windows

-- what a bench keeps, whatever the collections hold: at a chunk it has its windows, and cells of their kind, of each
-- step that loads a collection, and once it is done of the result
abbrev pub KeepsState : PlanOf → BenchOf → State → Type 0
KeepsState p b Idle = ⊤
KeepsState p b (Loaded k) = IsAtChunk p k b × EachLoad p (AreOfKind p b.windows b.buffers)
KeepsState p b (Done k) = IsAtChunk p k b × OfResult p (AreOfKind p b.windows b.buffers)

-- a bench for a plan
pub record IsBenchFor (p : PlanOf) (b : BenchOf) : Type 0 where
  pub room : HasRoomFor p b
  pub keeps : KeepsState p b b.state

-- it is loaded for a chunk over these collections: it has the cells of each step that loads one
pub record IsLoaded (p : PlanOf) (collections : Collections) (k : ℕ) (b : BenchOf) : Type 0 where
  pub state : b.state ≡ Loaded k
  pub cells : EachLoad p (AreCells collections p b.windows b.buffers)

-- it is done for a chunk over these collections: it has the cells of the result on the chunk
pub record IsDone (p : PlanOf) (collections : Collections) (k : ℕ) (b : BenchOf) : Type 0 where
  pub state : b.state ≡ Done k
  pub cells : OfResult p (λ step. buffer_cells_at p b.windows b.buffers step
      ≡ node_cells collections p.graph p.graph.result (chunk_of p k))

-- ---- evaluations

-- what an evaluation makes of a bench: one that is idle or done stays as it is, and one that is loaded is done, over
-- whatever collections it was loaded
pub record IsEvaluated (p : PlanOf) (before after : BenchOf) : Type 0 where
  pub bench : IsBenchFor p after
  pub idle : before.state ≡ Idle → after ≡ before
  pub done : (k : ℕ) → before.state ≡ Done k → after ≡ before
  pub evaluated : (k : ℕ) → before.state ≡ Loaded k → after.state ≡ Done k
  pub value : (collections : Collections) (k : ℕ) → AreCollectionsOf p.graph collections
      → IsLoaded p collections k before → IsDone p collections k after
