use Rattle.std.proofs.Common.{◌≡◌, ℕ, Contains, take}
use Rattle.oe_order.specs.Graph.{graph_of, Reaches}
use Rattle.oe_calls.specs.Reached.{back_from}
use Rattle.oe_calls.proofs.reach.recur.Given as goal

abbrev pub invariant-loop-index : goal.invariant-loop-index
invariant-loop-index l =
    (k : ℕ) → Contains (take l.index-index l.found) k → ¬ Reaches (graph_of l.calls.links.items) (back_from k) (back_from k)
