use Rattle.oe_graph.specs.Plain.{plain_nodes}
use Rattle.oe_graph.proofs.SortedWalkLemmas.{IsWalkedTo}
use Rattle.oe_expr.specs.Scope.{plain_scope}
use Rattle.oe_expr.specs.Walked.{IsWalked}
use Rattle.oe_expr.proofs.walk.walk_nodes.Given as goal

abbrev pub invariant-loop-index : goal.invariant-loop-index
invariant-loop-index l =
    IsWalkedTo (plain_nodes l.nodes.items) l.indices l.index-index l.walk.states.items
    × IsWalked (plain_scope l.scope) l.context l.nodes.items l.path l.walk.states.items l.walk.order.items l.walk.found
