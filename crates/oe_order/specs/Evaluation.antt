-- What an evaluation step by step rests on.
use Rattle.std.specs.Prelude.{◌≡◌, ◌<◌, ◌≤◌, ℕ, true, false, List, length, slice_index, Contains}
use Rattle.oe_order.specs.Graph.{Node, is_load, arguments}
use Rattle.oe_order.specs.Live.{is_live}

-- each load node stands before every node that is no load
abbrev pub LoadsFirst : List Node → List ℕ → Type 0
LoadsFirst nodes steps = (i j : ℕ) → i < j → j < length steps →
    is_load nodes (slice_index steps j) ≡ true → is_load nodes (slice_index steps i) ≡ true

-- an argument of a step's node stands at an earlier step, and is live at this one
pub record IsHeldArgument (nodes : List Node) (last : ℕ) (steps : List ℕ) (step a : ℕ) : Type 0 where
  pub at : ℕ
  pub earlier : at < step
  pub is : slice_index steps at ≡ a
  pub live : is_live nodes last steps step at ≡ true

-- an order to evaluate by: what a step needs stands before it and is kept until then
pub record IsEvaluationOrder (nodes : List Node) (last : ℕ) (steps : List ℕ) : Type 0 where
  pub loads_first : LoadsFirst nodes steps
  -- a load node takes no results, whatever it refers to
  pub arguments_held : (step a : ℕ) → step < length steps → is_load nodes (slice_index steps step) ≡ false →
      Contains (arguments nodes (slice_index steps step)) a → IsHeldArgument nodes last steps step a
  -- a node is live at its own step, and the result from its step on
  pub own_live : (i : ℕ) → is_live nodes last steps i i ≡ true
  pub result_live : (step i : ℕ) → i ≤ step → slice_index steps i ≡ last → is_live nodes last steps step i ≡ true
  -- a node that is live at a later step was live at each step before, since its own
  pub live_since : (early late i : ℕ) → i ≤ early → early ≤ late →
      is_live nodes last steps late i ≡ true → is_live nodes last steps early i ≡ true

-- how an order is kept: each step's slot is below the width, and the step of each node is found by the node
pub record IsKeptOrder (steps slots by_node : List ℕ) (width : ℕ) : Type 0 where
  pub each : length slots ≡ length steps
  pub below : (i : ℕ) → i < length steps → slice_index slots i < width
  pub within : (i : ℕ) → i < length steps → slice_index steps i < length by_node
  pub found : (i : ℕ) → i < length steps → slice_index by_node (slice_index steps i) ≡ i
