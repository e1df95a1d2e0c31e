use Rattle.std.proofs.Common.{◌≡◌, ◌-◌, drop}
use Rattle.oe_dims.specs.Names.{names_rise}
use Rattle.oe_graph.specs.Plain.{plain_nodes}
use Rattle.oe_graph.specs.Printed.{ids_of}
use Rattle.oe_graph.proofs.search.ids_rise.Given as goal

abbrev pub invariant-loop-index : goal.invariant-loop-index
invariant-loop-index l =
    names_rise (ids_of (plain_nodes l.nodes.items))
    ≡ names_rise (ids_of (plain_nodes (drop (l.index - 1) l.nodes.items)))
