-- Ranks of nodes, which show that references lead to nodes and never back.
use Rattle.std.specs.Prelude.{◌≡◌, ◌<◌, ℕ, List, length, slice_index, Contains}
use Rattle.oe_order.specs.Graph.{Node, arguments}

-- one rank for each node, and each argument of a node is a node, of a rank below the node's
pub record IsRanking (nodes : List Node) (ranks : List ℕ) : Type 0 where
  pub each : length ranks ≡ length nodes
  pub named : (n a : ℕ) → Contains (arguments nodes n) a → a < length nodes
  pub falls : (n a : ℕ) → Contains (arguments nodes n) a → slice_index ranks a < slice_index ranks n
