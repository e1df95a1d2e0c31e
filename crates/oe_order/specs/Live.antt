-- Live ranges: a node is live from its step to the step of its last consumer, and the result to the last step.
use Rattle.std.specs.Prelude.{◌≡◌, ◌≢◌, ◌<◌, ℕ, Bool, true, ◌&&◌, ◌||◌, ◌==◌, nat_le, List, [], ◌∷◌, length, slice_index, drop, map, max, count_by}
use Rattle.std.specs.List.{list_any, range_with_len}
use Rattle.oe_order.specs.Graph.{Node, arguments}
use Rattle.oe_order.specs.Order.{contains}

-- whether a node that stands at this step or later takes node n
unfoldable pub taken_from : List Node → List ℕ → ℕ → ℕ → Bool
taken_from nodes steps step n = list_any (λ user. contains (arguments nodes user) n) (drop step steps)

-- whether the node of step i is live at a step: it stands by then, and it stands right there, is the result, or has a
-- consumer there or later
unfoldable pub is_live : List Node → ℕ → List ℕ → ℕ → ℕ → Bool
is_live nodes last steps step i =
    nat_le i step
    && ((i == step) || ((slice_index steps i == last) || taken_from nodes steps step (slice_index steps i)))

-- how many nodes are live at a step
unfoldable pub live_count : List Node → ℕ → List ℕ → ℕ → ℕ
live_count nodes last steps step = count_by (is_live nodes last steps step) (range_with_len 0 (length steps))

-- the largest of some numbers, 0 of none
abbrev pub largest : List ℕ → ℕ
largest [] = 0
largest (x ∷ xs) = max x (largest xs)

-- the largest number of nodes live at one step
unfoldable pub width_of : List Node → ℕ → List ℕ → ℕ
width_of nodes last steps = largest (map (live_count nodes last steps) (range_with_len 0 (length steps)))

-- an order as contracts see it: the node of each step, the slot of each step's node, and the width
pub record Steps : Type 0 where
  pub steps : List ℕ
  pub slots : List ℕ
  pub width : ℕ

-- each step's node has a slot below the width, and two nodes live at one step have two slots
pub record IsSlotted (nodes : List Node) (last : ℕ) (order : Steps) : Type 0 where
  pub each : length order.slots ≡ length order.steps
  pub below : (i : ℕ) → i < length order.steps → slice_index order.slots i < order.width
  pub apart : (step i j : ℕ) → step < length order.steps → is_live nodes last order.steps step i ≡ true →
      is_live nodes last order.steps step j ≡ true → i ≢ j → slice_index order.slots i ≢ slice_index order.slots j
