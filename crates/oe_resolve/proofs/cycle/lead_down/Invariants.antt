use Rattle.std.proofs.Common.{◌≡◌, ◌<◌, ℕ, true}
use Rattle.oe_order.specs.Graph.{arguments, graph_of}
use Rattle.oe_order.specs.Order.{contains}
use Rattle.oe_resolve.proofs.cycle.lead_down.Given as goal

abbrev pub invariant-loop-node : goal.invariant-loop-node
invariant-loop-node l = (n : ℕ) → n < l.node → (a : ℕ) → contains (arguments (graph_of l.links) n) a ≡ true → a < n
