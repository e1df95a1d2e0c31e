-- The rows of a window, one behind the other, of those of a hull.
use Rattle.std.proofs.Common.{◌≡◌, ◌≢◌, ℕ, ◌+◌, ◌-◌, ◌*◌, ◌<◌, ◌≤◌, List, ◌++◌, length, get_or, take, sym, ap, ◌∙◌, subst, arith}
use Rattle.std.proofs.lemmas.List.Elements.{All-drop, All-take}
use Rattle.std.specs.List.{All, slice_range}
use Rattle.oe_cell.specs.declared.cell.Cell.TheVariants.{Empty}
use Rattle.oe_cell.specs.declared.cell.Cell.{Cell}
use Rattle.oe_cube.specs.Kinds.{IsOfKind}
use Rattle.oe_plan.specs.Schedules.{node_at, ScheduleOf, IsSchedule}
use Rattle.oe_plan.specs.Windows.{window_at}
use Rattle.oe_check.specs.Checked.{CheckedGraph, outline_of_node}
use Rattle.oe_check.specs.Laws.{meaning_of_node}
use Rattle.oe_sources.specs.Catalogue.{Row}
use Rattle.oe_window.proofs.CellLemmas.{cells_on-part}
use Rattle.oe_window.proofs.PartLemmas.{row_of_size, row_part}
use Rattle.oe_window.specs.Parts.{row_count, row_of}
use Rattle.oe_window.specs.Windows.{position_count, span_length}
use Rattle.oe_window.specs.declared.window.Window.{Window}
use Rattle.oe_steps.proofs.StepLoadLemmas.{front_written, loaded_more}
use Rattle.oe_steps.proofs.StripLemmas.{row_part_of}
use Rattle.oe_steps.specs.Buffers.{buffer_at}
use Rattle.oe_steps.specs.Loads.{AreLoaded, HasLoadedTo, IsLoadedAt}
use Rattle.oe_steps.specs.Steps.{EachLive, node_cells}
use Rattle.oe_steps.specs.Strips.{IsStripOf}

-- ---- the rows of one window

-- what a strip takes of the cells of a hull's row are those of its own row
pub part_loaded : (c : CheckedGraph) (rows : List Row) (node : ℕ) (hull window : Window) → IsStripOf hull window → (n : ℕ) (row : List Cell)
    → AreLoaded c rows node (row_of hull n) row
    → AreLoaded c rows node (row_of window n)
    (slice_range row (window.x.from - hull.x.from) (window.x.from - hull.x.from + span_length window.x))
part_loaded c rows node hull window s n row loaded =
    let start = window.x.from - hull.x.from in
    record {
      values = λ collections has shows.
          ap (λ xs. slice_range xs start (start + span_length window.x)) (loaded.values collections has shows)
          ∙ (ap (λ m. slice_range (node_cells collections c node (row_of hull n)) start (start + m)) (sym (row_of_size window n))
          ∙ cells_on-part Empty (meaning_of_node collections c node).cube start (row_of hull n) (row_of window n) (row_part_of hull window s n));
      kinds = All-take (IsOfKind (outline_of_node c node).kind) _ _ (All-drop (IsOfKind (outline_of_node c node).kind) start row loaded.kinds);
    }

pub one_more : (n m : ℕ) → (n + 1) * m ≡ n * m + m
one_more n m = omega arith

-- one row more behind those that are loaded
pub row_loaded : (c : CheckedGraph) (rows : List Row) (node : ℕ) (window : Window) (n : ℕ) → n < row_count window
    → (before piece rest : List Cell) → n * span_length window.x ≤ length before → length piece ≡ span_length window.x
    → HasLoadedTo c rows node window (n * span_length window.x) before → AreLoaded c rows node (row_of window n) piece
    → HasLoadedTo c rows node window ((n + 1) * span_length window.x) (take (n * span_length window.x) before ++ (piece ++ rest))
row_loaded c rows node window n below before piece rest le long was now =
    let size = row_of_size window n in
    let done = n * span_length window.x in
    let end : done + position_count (row_of window n) ≡ (n + 1) * span_length window.x =
    ap (λ m. done + m) size ∙ sym (one_more n (span_length window.x)) in
    let after = take done before ++ (piece ++ rest) in
    subst (λ m. HasLoadedTo c rows node window m after) end
    (loaded_more c rows node window done (row_of window n) before after piece (row_part window n below)
    (front_written before piece rest done (position_count (row_of window n)) le (long ∙ sym size)) was now)

module _ (graph : CheckedGraph) (schedule : ScheduleOf) (is : IsSchedule graph schedule) (rows : List Row) (windows : List Window) (step : ℕ) (within : step < length schedule.order.steps) where
  -- a step that is written leaves those before it that are live
  pub before_stay : (old new : List (List Cell))
      → ((slot : ℕ) → slot ≢ get_or schedule.order.slots step 0 → buffer_at new slot ≡ buffer_at old slot)
      → EachLive graph schedule step (IsLoadedAt graph schedule rows windows old) → EachLive graph schedule step (IsLoadedAt graph schedule rows windows new)
  before_stay old new others each i lt live =
      let apart = is.slotted.apart step i step within live (is.evaluation.own_live step) (λ e. absurd (omega arith)) in
      subst (AreLoaded graph rows (node_at schedule i) (window_at windows i))
      (sym (ap (take (position_count (window_at windows i))) (others (get_or schedule.order.slots i 0) apart))) (each i lt live)
