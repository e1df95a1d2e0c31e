use Rattle.std.proofs.Common.{◌≡◌, ◌-◌, ◌≤◌, ℕ, Some, true, length, slice_get}
use Rattle.oe_dims.specs.Names.{names_rise}
use Rattle.oe_graph.specs.Plain.{plain_nodes}
use Rattle.oe_graph.specs.Printed.{ids_of}
use Rattle.oe_graph.proofs.search.index_by_halves.Given as goal

abbrev pub invariant-loop-low : goal.invariant-loop-low
invariant-loop-low l =
    let ids = ids_of (plain_nodes l.nodes.items) in
    (l.high ≤ length l.nodes.items)
    × (names_rise ids ≡ true → (k : ℕ) → slice_get ids k ≡ Some l.id → (l.low ≤ k) × (k ≤ l.high))

abbrev pub decreases-loop-low : goal.decreases-loop-low
decreases-loop-low l = l.high - l.low
