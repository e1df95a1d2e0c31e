use Rattle.std.proofs.Common.{◌≡◌}
use Rattle.std.proofs.Common.{ℕ, ◌<◌, false, get_or}
use Rattle.oe_dims.specs.Names.{same_name}
use Rattle.oe_graph.specs.declared.tree.Node.{Node}
use Rattle.oe_expr.proofs.state.node_index.Given as goal

abbrev pub invariant-loop-index : goal.invariant-loop-index
invariant-loop-index l = (k : ℕ) (d : Node) → k < l.index → same_name (get_or l.nodes k d).id l.id ≡ false
