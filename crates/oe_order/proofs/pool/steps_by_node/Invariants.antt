use Rattle.std.proofs.Common.{◌≡◌, ◌<◌, ℕ, List, length, get_or}
use Rattle.oe_order.proofs.pool.steps_by_node.Given as goal

pub record ByNode (nodes : ℕ) (steps : List ℕ) (k : ℕ) (by_node : List ℕ) : Type 0 where
  pub len : length by_node ≡ nodes
  pub is : (i : ℕ) → i < k → get_or by_node (get_or steps i 0) 0 ≡ i

abbrev pub invariant-loop-step : goal.invariant-loop-step
invariant-loop-step l = ByNode l.nodes l.steps l.step l.by_node.items
