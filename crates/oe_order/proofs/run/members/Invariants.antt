use Rattle.std.proofs.Common.{◌≡◌, ◌-◌, ◌<◌, ◌≤◌, ℕ, true, Bool, List, length, get_or}
use Rattle.oe_order.specs.Graph.{Node, graph_of, arguments, IsInRun}
use Rattle.oe_order.specs.Order.{contains}
use Rattle.oe_order.specs.Marks.{IsMarked}
use Rattle.oe_order.proofs.run.members.Given as goal

pub record Searches (nodes : List Node) (last done : ℕ) (found : List ℕ) (marks : List Bool) : Type 0 where
  pub len : length marks ≡ length nodes
  pub marked : IsMarked marks found
  pub begun : contains found last ≡ true
  pub sound : (n : ℕ) → contains found n ≡ true → IsInRun nodes last n
  pub behind : done ≤ length found
  pub closed : (k a : ℕ) → k < done → contains (arguments nodes (get_or found k 0)) a ≡ true → contains found a ≡ true

abbrev pub invariant-loop-done : goal.invariant-loop-done
invariant-loop-done l = Searches (graph_of l.nodes) l.last l.done l.found.items l.marks.items

abbrev pub decreases-loop-done : goal.decreases-loop-done
decreases-loop-done l = length l.nodes - l.done
