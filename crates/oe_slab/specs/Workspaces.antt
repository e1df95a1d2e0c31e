-- What a run is evaluated in that is folded slab by slab.
use Rattle.std.specs.Prelude.{◌≡◌, ◌+◌, ◌*◌, ℕ, List, length, sum_by}
use Rattle.oe_cell.specs.declared.cell.Cell.{Cell}
use Rattle.oe_fold.specs.declared.pass.Pass.{Pass}
use Rattle.oe_plan.specs.Figures.{scratch_of}
use Rattle.oe_steps.specs.Buffers.{AreOfSize}
use Rattle.oe_window.specs.declared.window.Window.{Window}
use Rattle.oe_slab.specs.Figures.{largest_plane, largest_slab, width_before, width_behind}
use Rattle.oe_slab.specs.Plans.{SlabPlanOf}

-- buffers for the slabs before the cut and for the planes behind it, the folds of a plane, cells to work with, and
-- windows of the steps of the whole run and of the parts before and behind the cut
pub record SlabWorkspaceOf : Type 0 where
  pub before : List (List Cell)
  pub folds : List Pass
  pub behind : List (List Cell)
  pub scratch : List Cell
  pub windows : List Window
  pub windows_before : List Window
  pub windows_behind : List Window

-- how many cells it holds. A fold counts as two: it has a cell, a count and some flags
abbrev pub held_cells : SlabWorkspaceOf → ℕ
held_cells w =
    sum_by (λ (cells : List Cell). length cells) w.before + 2 * length w.folds
    + sum_by (λ (cells : List Cell). length cells) w.behind + length w.scratch

-- it has room for each slab and each plane of a plan, and a window for each step
pub record IsWorkspaceFor (p : SlabPlanOf) (w : SlabWorkspaceOf) : Type 0 where
  pub before : AreOfSize w.before (width_before p.graph p.fold) (largest_slab p.graph p.size)
  pub folds : length w.folds ≡ largest_plane p.graph p.size
  pub behind : AreOfSize w.behind (width_behind p.graph p.fold) (largest_plane p.graph p.size)
  pub scratch : length w.scratch ≡ scratch_of p.graph
  pub windows : length w.windows ≡ length p.whole.order.steps
  pub windows_before : length w.windows_before ≡ length p.before.order.steps
  pub windows_behind : length w.windows_behind ≡ length p.behind.order.steps
