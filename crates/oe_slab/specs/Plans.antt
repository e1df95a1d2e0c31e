-- A plan of a run that is folded slab by slab: what contracts see of it.
use Rattle.std.specs.Prelude.{◌≡◌, ◌<◌, ◌≤◌, ◌*◌, ◌^◌, ℕ}
use Rattle.oe_plan.specs.Figures.{most_held_cells, scratch_of, shape_of_node}
use Rattle.oe_plan.specs.Schedules.{ScheduleOf}
use Rattle.oe_check.specs.Checked.{AreFaultless, CheckedGraph}
use Rattle.oe_window.specs.Chunks.{Tiling, parts_along, tiling_of}
use Rattle.oe_window.specs.declared.grid.ChunkSize.{ChunkSize}
use Rattle.oe_slab.specs.Cuts.{IsTimeCut}
use Rattle.oe_slab.specs.Figures.{AreSlabSides, largest_plane, largest_slab, slab_bound, width_before, width_behind}
use Rattle.oe_slab.specs.Schedules.{AreSchedules, load_count}
use Rattle.oe_slab.specs.Slabs.{dates_of_fold}
use Rattle.oe_slab.specs.declared.cut.TimeCut.{TimeCut}
use Rattle.oe_slab.specs.declared.figures.SlabSizes.{SlabSizes}

-- the graph, the sides of its chunks, of which that along t is a slab's, the node at which its run is cut, and the
-- schedules of the whole run and of the parts before and behind the cut
pub record SlabPlanOf : Type 0 where
  pub graph : CheckedGraph
  pub size : ChunkSize
  pub fold : ℕ
  pub whole : ScheduleOf
  pub before : ScheduleOf
  pub behind : ScheduleOf

-- what every plan keeps
pub record IsSlabPlan (p : SlabPlanOf) : Type 0 where
  pub faultless : AreFaultless p.graph
  pub sides : AreSlabSides p.size
  pub cut : IsTimeCut p.graph p.fold
  pub schedules : AreSchedules p.graph p.size p.fold p.whole p.before p.behind
  pub bounded : slab_bound p.graph p.size p.fold ≤ most_held_cells

-- how a plan is kept: with its figures
pub record IsKeptSlabPlan (p : SlabPlanOf) (cut : TimeCut) (sizes : SlabSizes) (bound : ℕ) (grid : Tiling) : Type 0 where
  pub plan : IsSlabPlan p
  pub before_is : cut.width_before ≡ width_before p.graph p.fold
  pub behind_is : cut.width_behind ≡ width_behind p.graph p.fold
  pub plane_is : sizes.plane ≡ largest_plane p.graph p.size
  pub slab_is : sizes.slab ≡ largest_slab p.graph p.size
  pub scratch_is : sizes.scratch ≡ scratch_of p.graph
  pub plane_most : sizes.plane < 2 ^ 63
  pub slab_most : sizes.slab < 2 ^ 63
  pub bound_is : bound ≡ slab_bound p.graph p.size p.fold
  pub grid_is : grid ≡ tiling_of (shape_of_node p.graph p.graph.result) p.size

-- the run has a time cut, and would hold so many cells, which are more than a plan may
pub record IsTooLarge (c : CheckedGraph) (size : ChunkSize) (cells : ℕ) : Type 0 where
  pub fold : ℕ
  pub cut : IsTimeCut c fold
  pub cells_are : cells ≡ slab_bound c size fold
  pub over : most_held_cells < cells

-- in how many slabs all dates of a plane are folded
abbrev pub slab_count : SlabPlanOf → ℕ
slab_count p = parts_along (dates_of_fold p.graph p.fold) p.size.t

-- the most cells that a slab asks for: one window for each node before the cut that loads a collection
abbrev pub most_in_slab : SlabPlanOf → ℕ
most_in_slab p = load_count p.graph p.before * largest_slab p.graph p.size

-- the most that a chunk asks for, slab by slab
abbrev pub most_asked : SlabPlanOf → ℕ
most_asked p = slab_count p * most_in_slab p
