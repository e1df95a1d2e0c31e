-- How much memory a run of a plan takes.
use Rattle.std.specs.Prelude.{◌≡◌, ◌≤◌, ◌+◌, ◌*◌, ℕ}
use Rattle.oe_plan.specs.Figures.{bound_of, largest_window, most_held_cells, scratch_of}
use Rattle.oe_plan.specs.Plans.{PlanOf, IsPlan}

-- the cells of one chunk's buffers: as many of the largest window as the plan is wide, and one for evaluations
abbrev pub bench_cells : PlanOf → ℕ
bench_cells p = p.order.width * largest_window p.graph p.size + scratch_of p.graph

-- two benches a worker have as many cells as the bound, and neither they nor a part of them is large
pub record FitsMemory (p : PlanOf) : Type 0 where
  pub total : 2 * p.workers * bench_cells p ≡ bound_of p.graph p.size p.workers
  pub most : 2 * p.workers * bench_cells p ≤ most_held_cells
  pub bench : bench_cells p ≤ most_held_cells
  pub buffers : p.order.width * largest_window p.graph p.size ≤ most_held_cells
  pub wide : 1 ≤ p.order.width
  pub largest : largest_window p.graph p.size ≤ most_held_cells
  pub scratch : scratch_of p.graph ≤ most_held_cells

pub record FitMemory : Type 0 where
  pub each : (p : PlanOf) → IsPlan p → FitsMemory p
