-- All the cells of a run.
use Rattle.std.specs.Prelude.{◌≡◌, ℕ, ◌*◌, IfSome, List, Option, length, sum_by}
use Rattle.std.specs.List.{All}
use Rattle.oe_plan.specs.Plans.{PlanOf}
use Rattle.oe_engine.specs.Benches.{BenchOf, IsBenchFor, held_cells}
use Rattle.oe_engine.specs.declared.bench.State.TheVariants.{Idle}

-- how many cells benches hold
abbrev pub cells_of_benches : List BenchOf → ℕ
cells_of_benches benches = sum_by held_cells benches

-- the benches of a run: two for each worker of its plan, each with room for every chunk
pub record AreBenchesFor (p : PlanOf) (benches : List BenchOf) : Type 0 where
  pub as_many : length benches ≡ 2 * p.workers
  pub each : All (IsBenchFor p) benches

-- a bench has no chunk
abbrev pub IsIdle : BenchOf → Type 0
IsIdle bench = bench.state ≡ Idle

-- none of these benches has a chunk
abbrev pub AreIdle : List BenchOf → Type 0
AreIdle benches = All IsIdle benches

-- a place for a bench: it is empty, or what is in it is an idle bench for the plan
pub record IsPlaceFor (p : PlanOf) (place : Option BenchOf) : Type 0 where
  pub bench : IfSome place (IsBenchFor p)
  pub idle : IfSome place IsIdle
