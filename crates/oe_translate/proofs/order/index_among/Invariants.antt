use Rattle.std.proofs.Common.{◌≡◌, ◌+◌, drop}
use Rattle.oe_graph.specs.Plain.{plain_nodes}
use Rattle.oe_graph.specs.Printed.{ids_of}
use Rattle.oe_calls.specs.Rounds.{index_among}
use Rattle.oe_translate.proofs.order.index_among.Given as goal

abbrev pub invariant-loop-index : goal.invariant-loop-index
invariant-loop-index l =
    index_among l.id (ids_of (plain_nodes l.nodes.items))
    ≡ l.index + index_among l.id (ids_of (plain_nodes (drop l.index l.nodes.items)))
