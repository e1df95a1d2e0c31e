-- What loading a chunk asks for and gives.
use Rattle.std.specs.Prelude.{◌≡◌, ◌<◌, ℕ, List, length, true, Result}
use Rattle.oe_cell.specs.declared.cell.Cell.{Cell}
use Rattle.oe_plan.specs.Plans.{PlanOf, schedule_of}
use Rattle.oe_meanings.specs.Graphs.{Collections}
use Rattle.oe_check.specs.Laws.{AreCollectionsOf}
use Rattle.oe_sources.specs.Catalogue.{Row}
use Rattle.oe_sources.specs.declared.source.LookFail.{LookFail}
use Rattle.oe_steps.specs.Collections.{Shows}
use Rattle.oe_steps.specs.Loads as loads
use Rattle.oe_steps.specs.Looks as looks
use Rattle.oe_steps.specs.Looks.{IsPlaceOf}
use Rattle.oe_window.specs.declared.window.Window.{Window}
use Rattle.oe_engine.specs.Benches.{BenchOf, IsBenchFor, IsLoaded, is_load_at, node_at}
use Rattle.oe_engine.specs.declared.bench.State.TheVariants.{Loaded}

-- what a bench holds of a step are the cells of its node on its window, over the collections that are visible
abbrev pub IsLoadedAt : PlanOf → List Row → List Window → List (List Cell) → ℕ → Type 0
IsLoadedAt p rows windows buffers step = loads.IsLoadedAt p.graph (schedule_of p) rows windows buffers step

-- ---- looks

-- a step that loads the collection at an index of the catalogue
pub record LoadsFrom (p : PlanOf) (rows : List Row) (step place : ℕ) : Type 0 where
  pub step_in : step < length p.order.steps
  pub load : is_load_at p step ≡ true
  pub mounted : IsPlaceOf p.graph rows (node_at p step) place

-- a window of one row in the cube of such a step's node
abbrev pub IsRowToLoad : PlanOf → List Row → ℕ → ℕ → Window → Type 0
IsRowToLoad p rows step place row = looks.IsRowToLoad p.graph (schedule_of p) rows step place row

-- where the steps before this one that are live are loaded in the old buffers, this one is too in the new ones, unless
-- it was refused
abbrev pub LoadsOver : {E : Type 0} → PlanOf → List Row → ℕ → List Window → List (List Cell) → List (List Cell)
    → Result (Unit {0}) E → Type 0
LoadsOver p rows step windows old new result =
    looks.LoadsOver p.graph (schedule_of p) rows step windows old new result

-- what the refusal of a look for a step says
abbrev pub TellsWhyAt : PlanOf → List Row → ℕ → Result (Unit {0}) LookFail → Type 0
TellsWhyAt p rows step result = loads.TellsWhy p.graph rows (node_at p step) result

-- ---- a chunk

-- a bench is loaded for a chunk, over whatever collections are visible
pub record LoadsBench (p : PlanOf) (rows : List Row) (k : ℕ) (bench : BenchOf) : Type 0 where
  pub keeps : IsBenchFor p bench
  pub state : bench.state ≡ Loaded k
  pub loaded : (collections : Collections) → AreCollectionsOf p.graph collections → Shows p.graph rows collections
      → IsLoaded p collections k bench
