-- What holds of every time cut, and of every run that is folded slab by slab.
use Rattle.std.specs.Prelude.{◌≡◌, ◌⊎◌, ◌↔◌, ◌<◌, ℕ, List, Option, None, [], ◌∷◌, slice_index_or}
use Rattle.oe_cell.specs.declared.cell.Cell.{Cell}
use Rattle.oe_cell.specs.declared.cell.Cell.TheVariants.{Empty}
use Rattle.oe_dims.specs.Cube.{Cube}
use Rattle.oe_fold.specs.Value.{reduction_of}
use Rattle.oe_order.specs.Graph.{IsInRun, Reaches}
use Rattle.oe_plan.specs.Figures.{shape_of_node}
use Rattle.oe_plan.specs.Steps.{arguments_of_node}
use Rattle.oe_check.specs.Checked.{AreFaultless, CheckedGraph}
use Rattle.oe_meanings.specs.Graphs.{Collections}
use Rattle.oe_check.specs.Laws.{AreCollectionsOf, meaning_of_node}
use Rattle.oe_check.specs.Links.{links_of}
use Rattle.oe_spool.specs.Least.{least_over_of}
use Rattle.oe_window.specs.Cells.{cells_on}
use Rattle.oe_window.specs.Windows.{Holds, position_count, whole_window}
use Rattle.oe_window.specs.declared.window.Window.{Window}
use Rattle.oe_slab.specs.Cuts.{IsOfRun, IsTimeCut, links_behind}
use Rattle.oe_slab.specs.Figures.{taken_by}
use Rattle.oe_slab.specs.Plans.{IsSlabPlan}
use Rattle.oe_slab.specs.Runs.{HasDone, HasRunRecords, SlabRunOf, chunk_total, result_cube}
use Rattle.oe_slab.specs.Slabs.{cells_by_date, dates_of_fold}

-- ---- cuts

-- it takes one cube, and the nodes before it, which it reaches by references, are the run of that cube; each node of the
-- run stands before it or behind it, and none does both
pub record IsParted (c : CheckedGraph) (fold : ℕ) : Type 0 where
  pub one : arguments_of_node c fold ≡ taken_by c fold ∷ []
  pub before : (node : ℕ) → IsInRun (links_of c.nodes) (taken_by c fold) node ↔ Reaches (links_of c.nodes) fold node
  pub parted : (node : ℕ) → IsOfRun c node
      → Reaches (links_of c.nodes) fold node ⊎ IsInRun (links_behind c fold) c.result node
  -- behind it no cube has dates, so that the windows there are planes
  pub dateless : (node : ℕ) → IsInRun (links_behind c fold) c.result node → (shape_of_node c node).t ≡ None
  pub apart : (node : ℕ) → Reaches (links_of c.nodes) fold node → ¬ IsInRun (links_behind c fold) c.result node

abbrev pub CutsPart : Type 0
CutsPart = (c : CheckedGraph) → AreFaultless c → (fold : ℕ) → IsTimeCut c fold → IsParted c fold

-- a run has no two
abbrev pub CutsAreOne : Type 0
CutsAreOne = (c : CheckedGraph) (one two : ℕ) → IsTimeCut c one → IsTimeCut c two → one ≡ two

-- on each plane of the cube that it gives, a cell is the reduction of the cells of the cube that it takes, by date
abbrev pub CutsFold : Type 0
CutsFold = (collections : Collections) (c : CheckedGraph) → AreFaultless c → AreCollectionsOf c collections
    → (fold : ℕ) → (cut : IsTimeCut c fold) → (plane : Window) → Holds (whole_window (shape_of_node c fold)) plane
    → (k : ℕ) → k < position_count plane
    → slice_index_or (cells_on Empty (meaning_of_node collections c fold).cube plane) k Empty
    ≡ reduction_of cut.lone.reducer cut.lone.ignores_nulls
    (cells_by_date (meaning_of_node collections c (taken_by c fold)).cube plane (dates_of_fold c fold) k)

-- ---- runs

-- Of a run none of whose chunks is done, whatever a store holds is what it has done. Of one all of whose chunks are
-- done, the number that it has found is the least of a cell of the result that is Over, and it found none exactly where
-- no cell is.
pub record BeginAndEnd : Type 0 where
  pub begun : (r : SlabRunOf) → r.done ≡ 0 → r.over ≡ None → (store : Option (List ℕ))
      → HasRunRecords r store × ((cube : Cube Cell) → HasDone r store cube)
  pub over : (r : SlabRunOf) (store : Option (List ℕ)) (collections : Collections) → IsSlabPlan r.plan
      → AreCollectionsOf r.plan.graph collections → r.done ≡ chunk_total r.plan
      → HasDone r store (result_cube collections r.plan)
      → r.over ≡ least_over_of (result_cube collections r.plan).cells
