use Rattle.std.proofs.Common.{ℕ}
use Rattle.oe_graph.specs.Plain.{plain_nodes}
use Rattle.oe_expr.specs.Callback.{callback_of}
use Rattle.oe_expr.specs.Placed.{IsCompiling}
use Rattle.oe_expr.specs.Scope.{plain_scope}
use Rattle.oe_expr.proofs.compile.compile_nodes.Given as goal

abbrev pub invariant-loop-k : goal.invariant-loop-k
invariant-loop-k l =
    (index : ℕ) → IsCompiling (callback_of (record { nodes = plain_nodes l.nodes.items; result = index }) (plain_scope l.scope) l.context)
    l.nodes.items l.order.items l.needed.items l.places.items l.program l.k
