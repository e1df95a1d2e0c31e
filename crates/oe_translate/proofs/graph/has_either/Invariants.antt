use Rattle.std.proofs.Common.{◌≡◌, drop}
use Rattle.std.specs.List.{list_any}
use Rattle.oe_graph.specs.Plain.{plain_nodes}
use Rattle.oe_graph.specs.References.{each_node}
use Rattle.oe_translate.specs.Translated.{is_of_either}
use Rattle.oe_translate.proofs.graph.has_either.Given as goal

abbrev pub invariant-loop-index : goal.invariant-loop-index
invariant-loop-index l =
    list_any is_of_either (each_node (plain_nodes l.nodes.items))
    ≡ list_any is_of_either (each_node (plain_nodes (drop l.index l.nodes.items)))
