-- The schedules of a run that is folded slab by slab, and the windows that it evaluates by them.
use Rattle.std.specs.Prelude.{◌≡◌, ◌<◌, ◌≤◌, ◌↔◌, ℕ, List, None, Some, count_by, length, slice_index}
use Rattle.std.specs.List.{range_with_len}
use Rattle.oe_dims.specs.Positions.{Position}
use Rattle.oe_order.specs.Evaluation.{IsEvaluationOrder}
use Rattle.oe_order.specs.Graph.{Node}
use Rattle.oe_order.specs.Live.{IsSlotted, Steps}
use Rattle.oe_order.specs.Order.{IsListing}
use Rattle.oe_plan.specs.Figures.{steps_of}
use Rattle.oe_plan.specs.Schedules.{IsSchedule, ScheduleOf, is_load_at, node_at, steps_to_last}
use Rattle.oe_plan.specs.Windows.{AreWindows, window_at}
use Rattle.oe_check.specs.Checked.{CheckedGraph}
use Rattle.oe_window.specs.Windows.{Holds, IsEmpty, IsIn, span_length}
use Rattle.oe_window.specs.declared.grid.ChunkSize.{ChunkSize}
use Rattle.oe_window.specs.declared.window.Window.{Window}
use Rattle.oe_slab.specs.Figures.{largest_plane, largest_slab, taken_by, width_before, width_behind}

-- an order as a schedule asks for it: of the nodes that one needs, each behind those that it refers to, with a slot for
-- each
pub record IsOrderAlong (nodes : List Node) (last : ℕ) (order : Steps) : Type 0 where
  pub listing : IsListing nodes last order.steps
  pub evaluation : IsEvaluationOrder nodes last order.steps
  pub slotted : IsSlotted nodes last order

-- that of the whole run, which keeps no cells; that of the cube that is folded, with slots for slabs; and that of the
-- result, where the folded cube is given, with slots for planes
pub record AreSchedules (c : CheckedGraph) (size : ChunkSize) (fold : ℕ) (all front back : ScheduleOf) : Type 0 where
  pub whole : IsSchedule c all
  pub whole_last : all.last ≡ c.result
  pub whole_given : all.given ≡ None
  pub whole_steps : all.order.steps ≡ steps_of c
  pub whole_largest : all.largest ≡ 0
  pub before : IsSchedule c front
  pub before_last : front.last ≡ taken_by c fold
  pub before_given : front.given ≡ None
  pub before_steps : front.order.steps ≡ steps_to_last c front
  pub before_width : front.order.width ≡ width_before c fold
  pub before_largest : front.largest ≡ largest_slab c size
  pub behind : IsSchedule c back
  pub behind_last : back.last ≡ c.result
  pub behind_given : back.given ≡ Some fold
  pub behind_width : back.order.width ≡ width_behind c fold
  pub behind_largest : back.largest ≡ largest_plane c size

-- how many steps load a collection, or have a cube that is given
abbrev pub load_count : CheckedGraph → ScheduleOf → ℕ
load_count c schedule = count_by (is_load_at c schedule) (range_with_len 0 (length schedule.order.steps))

-- the window of the cut among those of the whole run
abbrev pub IsPlaneOf : CheckedGraph → ℕ → List Window → Window → Type 0
IsPlaneOf c fold windows plane = (step : ℕ) × (step < length (steps_of c)) × (slice_index (steps_of c) step ≡ fold)
    × (window_at windows step ≡ plane)

-- among the windows of the whole run that of the cube that is folded holds a slab, which has as many dates as one may
pub record IsSlabOf (c : CheckedGraph) (size : ChunkSize) (fold : ℕ) (windows : List Window) (slab : Window)
    : Type 0 where
  pub chunk : Window
  pub are : AreWindows c size chunk windows
  pub inside : (step : ℕ) → step < length (steps_of c) → slice_index (steps_of c) step ≡ taken_by c fold
      → Holds (window_at windows step) slab
  pub filled : ¬ IsEmpty slab
  pub few : span_length slab.t ≤ size.t

-- the window of each step has what both its window had and that of its node in the whole run has
abbrev pub AreMet : CheckedGraph → ScheduleOf → List Window → List Window → List Window → Type 0
AreMet c schedule whole windows met = (s r : ℕ) → s < length schedule.order.steps → r < length (steps_of c)
    → slice_index (steps_of c) r ≡ node_at schedule s → (p : Position)
    → IsIn (window_at met s) p ↔ (IsIn (window_at windows s) p × IsIn (window_at whole r) p)
