-- The steps of a run: each is of a node of the graph, and each argument of a step's node stands at an earlier step.
use Rattle.std.specs.Prelude.{◌≡◌, ◌≢◌, ◌<◌, ◌≤◌, ℕ, false, List, length, slice_index, slice_get, Some, Contains}
use Rattle.std.proofs.Common.{sym, inl, inr, refl, arith}
use Rattle.std.proofs.lemmas.Bool.{cases_lt}
use Rattle.std.proofs.lemmas.Option.{slice_get_within, get_or_from_slice_get}
use Rattle.std.proofs.lemmas.List.Elements.{Contains-get_or}
use Rattle.oe_order.proofs.Reach.{IsInRun-within}
use Rattle.oe_order.specs.Graph.{Node, is_load, arguments, RefersWithin}
use Rattle.oe_order.specs.Live.{Steps, IsSlotted}
use Rattle.oe_order.specs.Order.{IsListing}

-- each step is of a node of the graph
pub step_within : (nodes : List Node) (last : ℕ) (steps : List ℕ) → RefersWithin nodes → last < length nodes
    → IsListing nodes last steps → (i : ℕ) → i < length steps → slice_index steps i < length nodes
step_within nodes last steps named within listing i below =
    IsInRun-within nodes last (slice_index steps i) named within
    ((listing.members (slice_index steps i)).0 (Contains-get_or steps i 0 below))

-- a run has a step, so one slot at least
pub some_width : (nodes : List Node) (last : ℕ) (order : Steps) → IsListing nodes last order.steps
    → IsSlotted nodes last order → 1 ≤ order.width
some_width nodes last order listing slotted =
    let has = (listing.members last).1 (inl refl) in
    let below : 0 < length order.steps = omega arith in
    let slot = slotted.below 0 below in
    omega arith

-- the step of an argument of a node that is no load, which stands at one step alone
pub argument_before : (nodes : List Node) (last : ℕ) (steps : List ℕ) → IsListing nodes last steps
    → (s number r : ℕ) → s < length steps → r < length steps → is_load nodes (slice_index steps s) ≡ false
    → slice_get (arguments nodes (slice_index steps s)) number ≡ Some (slice_index steps r) → r < s
argument_before nodes last steps listing s number r below within works taken =
    let args = arguments nodes (slice_index steps s) in
    let a = slice_index steps r in
    let has : Contains args a = (number, slice_get_within args number a taken, get_or_from_slice_get args number a a taken) in
    let held = listing.arguments_first s a below works has in
    elim (cases_lt r s) [
      | inl lt ↦ lt
      | inr ge ↦ absurd (listing.once held.0 r (omega (arith, held.1)) within held.2)
    ]

-- what an argument of a step's node is found at is the step that it is taken from, and no other
pub only_step : (steps : List ℕ) → ((i j : ℕ) → i < j → j < length steps → slice_index steps i ≢ slice_index steps j)
    → (i j : ℕ) → i < length steps → j < length steps → slice_index steps i ≡ slice_index steps j → i ≡ j
only_step steps once i j i_in j_in same =
    elim (cases_lt i j) [
      | inl lt ↦ absurd (once i j lt j_in same)
      | inr ge ↦ elim (cases_lt j i) [
        | inl lt ↦ absurd (once j i lt i_in (sym same))
        | inr le ↦ omega arith
      ]
    ]
