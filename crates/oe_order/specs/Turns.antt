-- The order of a run by turns. A list has the node of each turn; of the nodes that are ready the one of least turn comes
-- next.
use Rattle.std.specs.Prelude.{◌≡◌, ◌≢◌, ◌<◌, ◌==◌, ℕ, List, length, map, slice_index, Contains}
use Rattle.std.specs.List.{position_or_len}
use Rattle.oe_order.specs.Graph.{Node, is_load, arguments}
use Rattle.oe_order.specs.Order.{order_of}

-- each of so many nodes has one turn
pub record AreTurns (count : ℕ) (turns : List ℕ) : Type 0 where
  pub each : length turns ≡ count
  pub within : (i : ℕ) → i < length turns → slice_index turns i < count
  pub has : (n : ℕ) → n < count → Contains turns n
  pub once : (i j : ℕ) → i < j → j < length turns → slice_index turns i ≢ slice_index turns j

-- the turn of a node
abbrev pub turn_of : List ℕ → ℕ → ℕ
turn_of turns n = position_or_len (λ m. m == n) turns

-- a node that names its arguments by their turns
abbrev pub node_by_turns : List Node → List ℕ → ℕ → Node
node_by_turns nodes turns n =
    record { load = is_load nodes n; arguments = map (turn_of turns) (arguments nodes n) }

-- the graph whose nodes are numbered by their turns
abbrev pub by_turns : List Node → List ℕ → List Node
by_turns nodes turns = map (node_by_turns nodes turns) turns

-- the order of the run of `last` in that graph, of the nodes as they were numbered before
unfoldable pub order_by_turns : List Node → List ℕ → ℕ → List ℕ
order_by_turns nodes turns last =
    map (λ turn. slice_index turns turn) (order_of (by_turns nodes turns) (turn_of turns last))
