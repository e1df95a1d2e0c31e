use Rattle.oe_dims.specs.Plain.{plain_rows}
use Rattle.oe_graph.specs.Plain.{plain_nodes}
use Rattle.oe_graph.proofs.SortedWalkLemmas.{IsWalkedTo}
use Rattle.oe_check.specs.Walked.{IsWalked}
use Rattle.oe_check.proofs.walk.walk_nodes.Given as goal

abbrev pub invariant-loop-index : goal.invariant-loop-index
invariant-loop-index l =
    IsWalkedTo (plain_nodes l.nodes.items) l.sorted l.index-index l.walk.states.items
    × IsWalked (plain_rows l.dims) (plain_nodes l.nodes.items) l.walk.states.items l.walk.found
