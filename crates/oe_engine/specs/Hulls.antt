-- Chunks that are loaded together: their windows of a step are strips of one hull, each row of which is looked at once.
use Rattle.std.specs.Prelude.{◌≡◌, ◌<◌, ◌≤◌, ℕ, ◌+◌, ◌*◌, ◌^◌, List, length, false, true, Result, Err, IfErr, OnOk}
use Rattle.std.specs.List.{All}
use denote.Param.Members.{Shared}
use denote.Ref.{MutBor}
use Rattle.oe_cell.specs.declared.cell.Cell.{Cell}
use Rattle.oe_window.specs.Parts.{row_of}
use Rattle.oe_window.specs.Windows.{Holds, position_count, span_length, whole_window}
use Rattle.oe_window.specs.declared.window.Window.{Window}
use Rattle.oe_plan.specs.Figures.{largest_window, scratch_of, shape_of_node}
use Rattle.oe_plan.specs.Plans.{PlanOf, schedule_of}
use Rattle.oe_plan.specs.Windows.{window_at}
use Rattle.oe_sources.specs.Catalogue.{Row}
use Rattle.oe_engine.specs.Benches.{AreOfChunk, BenchOf, EachLive, HasRoomFor, IsAtChunk, IsBenchFor, is_load_at, node_at}
use Rattle.oe_engine.specs.Chunks.{EachBench}
use Rattle.oe_steps.specs.Strips as strips
use Rattle.oe_steps.specs.Strips.{IsStripOf}
use Rattle.oe_sources.specs.Permits.{MayLook, PermitOf}
use Rattle.oe_sources.specs.declared.source.LookFail.{LookFail}
use Rattle.oe_steps.specs.Loads.{AreLoaded, TellsWhy}
use Rattle.oe_engine.specs.Evaluations.{most_asked}
use Rattle.oe_engine.specs.Loads.{IsLoadedAt, LoadsBench}
use Rattle.oe_engine.specs.Runs.{chunk_total}
use Rattle.oe_engine.specs.declared.bench.State.TheVariants.{Idle}
use Rattle.oe_engine.specs.declared.hulls.Note.{Note}

-- ---- hulls

-- a hull of the windows of a step for so many chunks may be read: it lies in the cube of the step's node, which has
-- fewer than 2^64 cells, it has no more cells than their largest windows, and there is room for its row in the cells
-- that a bench works with
pub record IsReadable (p : PlanOf) (step count : ℕ) (hull : Window) : Type 0 where
  pub within : Holds (whole_window (shape_of_node p.graph (node_at p step))) hull
  pub counted : position_count hull < 2 ^ 64
  pub few : position_count hull ≤ count * largest_window p.graph p.size
  pub row : span_length hull.x ≤ scratch_of p.graph

-- ---- a bench that is loaded

-- it has the windows of a chunk, and is not loaded yet
pub record IsBegun (p : PlanOf) (b : BenchOf) : Type 0 where
  pub room : HasRoomFor p b
  pub state : b.state ≡ Idle
  pub windows : AreOfChunk p b.windows

-- besides, its window of a step is a strip of a hull
pub record IsStripped (p : PlanOf) (hull : Window) (step : ℕ) (b : BenchOf) : Type 0 where
  pub begun : IsBegun p b
  pub strip : IsStripOf hull (window_at b.windows step)

-- the steps that load a collection are the first so many
pub record LoadsFirst (p : PlanOf) (count : ℕ) : Type 0 where
  pub most : count ≤ length p.order.steps
  pub load : (step : ℕ) → step < count → is_load_at p step ≡ true
  pub work : (step : ℕ) → count ≤ step → step < length p.order.steps → is_load_at p step ≡ false

-- it is at this chunk, and those steps before this one that are live are loaded
pub record HasLoadedSteps (p : PlanOf) (rows : List Row) (step k : ℕ) (b : BenchOf) : Type 0 where
  pub chunk : IsAtChunk p k b
  pub loaded : EachLive p step (IsLoadedAt p rows b.windows b.buffers)

-- these are loaded, and of this step so many rows of its window
abbrev pub HaveLoadedRows : PlanOf → List Row → ℕ → ℕ → List Window → List (List Cell) → Type 0
HaveLoadedRows p rows step number windows buffers =
    strips.HaveLoadedRows p.graph (schedule_of p) rows step number windows buffers

-- the same of a bench that is at this chunk
pub record HasLoadedRows (p : PlanOf) (rows : List Row) (step number k : ℕ) (b : BenchOf) : Type 0 where
  pub chunk : IsAtChunk p k b
  pub loaded : HaveLoadedRows p rows step number b.windows b.buffers

-- ---- one row of a hull

-- some benches whose windows of a step are strips of a hull, which may be read for them
pub record AreStripped (p : PlanOf) (step : ℕ) (hull : Window) (benches : List BenchOf) : Type 0 where
  pub some : 0 < length benches
  pub each : All (IsStripped p hull step) benches
  pub readable : IsReadable p step (length benches) hull

-- over any rows of a catalogue: where these are the cells of a hull's row of a number, and so many rows of a step's
-- window are loaded in the old buffers, one row more is in the new ones
abbrev pub TakesRow : PlanOf → ℕ → Window → ℕ → List Cell → List Window → List (List Cell) → List (List Cell) → Type 0
TakesRow p step hull number cells windows old new =
    strips.TakesRow p.graph (schedule_of p) step hull number cells windows old new

-- the same of a bench at a chunk
abbrev pub BenchTakesRow : PlanOf → ℕ → Window → ℕ → List Cell → BenchOf → BenchOf → Type 0
BenchTakesRow p step hull number cells old new =
    (rows : List Row) (k : ℕ) → AreLoaded p.graph rows (node_at p step) (row_of hull number) cells
    → HasLoadedRows p rows step number k old → HasLoadedRows p rows step (number + 1) k new

-- the same of each of these benches
abbrev pub BenchesTakeRow : PlanOf → ℕ → Window → ℕ → List Cell → List BenchOf → List BenchOf → Type 0
BenchesTakeRow p step hull number cells old new =
    (rows : List Row) (first : ℕ) → AreLoaded p.graph rows (node_at p step) (row_of hull number) cells
    → EachBench first (HasLoadedRows p rows step number) old
    → EachBench first (HasLoadedRows p rows step (number + 1)) new

-- of each of these benches one row more is loaded, unless it was refused
abbrev pub LoadsRow : PlanOf → List Row → ℕ → ℕ → List BenchOf → List BenchOf → Result (Unit {0}) LookFail → Type 0
LoadsRow p rows step number old new result =
    (first : ℕ) → EachBench first (HasLoadedRows p rows step number) old
    → OnOk result (EachBench first (HasLoadedRows p rows step (number + 1)) new)

-- ---- one step of all

-- Of each of these benches one step more is loaded; a refusal says why a look for the step was refused.
pub record LoadsStep (p : PlanOf) (step : ℕ) (rows : List Row) (old new : List BenchOf)
    (result : Result (Unit {0}) LookFail) : Type 0 where
  pub many : length new ≡ length old
  pub begun : All (IsBegun p) new
  pub loaded : (first : ℕ) → EachBench first (HasLoadedSteps p rows step) old
      → OnOk result (EachBench first (HasLoadedSteps p rows (step + 1)) new)
  pub refused : TellsWhy p.graph rows (node_at p step) result

-- ---- all steps

-- why a look for a step that loads a collection was refused
pub record IsNote (p : PlanOf) (rows : List Row) (note : Note) : Type 0 where
  pub within : note.step < length p.order.steps
  pub load : is_load_at p note.step ≡ true
  pub why : TellsWhy p.graph rows (node_at p note.step) (Err note.fail)

-- Each of these benches is loaded for its chunk, counted from a first one on; a refusal says why.
pub record LoadsChunks (p : PlanOf) (rows : List Row) (first : ℕ) (old new : List BenchOf)
    (result : Result (Unit {0}) Note) : Type 0 where
  pub many : length new ≡ length old
  pub benches : All (IsBenchFor p) new
  pub loaded : OnOk result (EachBench first (LoadsBench p rows) new)
  pub noted : IfErr result (IsNote p rows)

-- ---- a function that loads chunks

module _ {F : Type 0} (g : Shared F (ℕ × (PermitOf × (MutBor (List BenchOf) × Unit {0})))
    (Result (Unit {0}) Note × (MutBor (List BenchOf) × Unit {0}))) (f : F) (p : PlanOf) where
  -- it may be called with the number of a first chunk, a bench for each chunk from there on, and a permit for their
  -- cells, which has this seal
  abbrev pub MayLoad : ℕ → Type 0
  MayLoad seal = (first : ℕ) (permit : PermitOf) (benches : MutBor (List BenchOf)) → All (IsBenchFor p) benches.now
      → first + length benches.now ≤ chunk_total p → MayLook seal (length benches.now * most_asked p) permit
      → g.pre f (first, (permit, (benches, tt)))

  -- each of its calls loads them
  abbrev pub AlwaysLoads : List Row → Type 0
  AlwaysLoads rows = (first : ℕ) (permit : PermitOf) (old new : MutBor (List BenchOf)) (result : Result (Unit {0}) Note)
      → g.post f (first, (permit, (old, tt))) (result, (new, tt)) → LoadsChunks p rows first old.now new.now result

  -- over whatever collections each of its calls loads them, these benches are loaded for the chunks from a first one on
  pub record LoadsBy (first : ℕ) (old new : List BenchOf) (result : Result (Unit {0}) Note) : Type 0 where
    pub loads : (rows : List Row) → AlwaysLoads rows → LoadsChunks p rows first old new result
