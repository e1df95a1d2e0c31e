-- For private functions. How far the windows of a chunk have come: from the last step to the first, the windows of the
-- arguments of each step are widened to hold what the window of the step needs.
use Rattle.std.specs.Prelude.{◌≡◌, ◌≢◌, ◌⊎◌, ◌+◌, ◌<◌, ◌≤◌, ℕ, List, length, slice_index}
use Rattle.oe_dims.specs.Positions.{Position}
use Rattle.oe_ops.specs.Needs.{HoldsNeed, zero_window}
use Rattle.oe_check.specs.Checked.{CheckedGraph}
use Rattle.oe_window.specs.Windows.{Holds, IsEmpty}
use Rattle.oe_window.specs.declared.window.Window.{Window}
use Rattle.oe_plan.specs.Figures.{steps_of}
use Rattle.oe_plan.specs.Steps.{NeedsOfNode, Takes}
use Rattle.oe_plan.specs.Windows.{IsClosed, window_at}

-- a window without a position is the zero window
abbrev pub IsZeroWhereEmpty : Window → Type 0
IsZeroWhereEmpty window = IsEmpty window → window ≡ zero_window

-- what the node of a step needs of its argument of a number
abbrev pub NeedsAtStep : CheckedGraph → ℕ → ℕ → Position → Position → Type 0
NeedsAtStep c s number p q = NeedsOfNode c (slice_index (steps_of c) s) number p q

-- the window of one argument of a step is the least that holds what it held and what the window of the step needs of it
pub record IsWidenedBy (c : CheckedGraph) (s number : ℕ) (before after : List Window) : Type 0 where
  pub each : length after ≡ length before
  pub argument : ℕ
  pub takes : Takes c s number argument
  pub others : (k : ℕ) → k ≢ argument → window_at after k ≡ window_at before k
  pub grows : Holds (window_at after argument) (window_at before argument)
  pub holds : HoldsNeed (NeedsAtStep c s number) (window_at before s) (window_at after argument)
  pub least : (box : Window) → Holds box (window_at before argument)
      → HoldsNeed (NeedsAtStep c s number) (window_at before s) box → Holds box (window_at after argument)
  pub zero : IsZeroWhereEmpty (window_at before argument) → IsZeroWhereEmpty (window_at after argument)

-- the step is one of those behind the first `left`, or the last of these and the argument is one of its first `count`
abbrev pub IsWorkedOff : ℕ → ℕ → ℕ → ℕ → Type 0
IsWorkedOff left count s number = (left ≤ s) ⊎ ((s + 1 ≡ left) × (number < count))

-- the windows once these arguments are worked off
pub record AreWidened (c : CheckedGraph) (chunk : Window) (windows : List Window) (left count : ℕ) : Type 0 where
  pub each : length windows ≡ length (steps_of c)
  pub result : (s : ℕ) → s < length (steps_of c) → slice_index (steps_of c) s ≡ c.result → window_at windows s ≡ chunk
  pub needed : (s number r : ℕ) → IsWorkedOff left count s number → Takes c s number r
      → HoldsNeed (NeedsAtStep c s number) (window_at windows s) (window_at windows r)
  pub least : (boxes : ℕ → Window) → IsClosed c chunk boxes
      → (s : ℕ) → s < length (steps_of c) → Holds (boxes s) (window_at windows s)
  pub zero : (s : ℕ) → IsZeroWhereEmpty (window_at windows s)
