use Rattle.std.proofs.Common.{◌≡◌, map, take}
use Rattle.serde_json.specs.Data.{no_members}
use Rattle.serde_json.specs.View.{view, members_view}
use Rattle.oe_graph.specs.Plain.{plain_arg, plain_named, plain_nodes}
use Rattle.oe_graph.specs.Printed.{argument_data, named_data, nodes_data}
use Rattle.oe_graph.proofs.print.+print.Given as goal

abbrev pub invariant-named_json-loop-member : goal.invariant-named_json-loop-member
invariant-named_json-loop-member l =
    members_view l.map.entries ≡ named_data (plain_named (take l.member-index l.member-items)) no_members

abbrev pub invariant-items_json-loop-item : goal.invariant-items_json-loop-item
invariant-items_json-loop-item l =
    map view l.values.items ≡ map (λ a. argument_data (plain_arg a)) (take l.item-index l.item-items)

abbrev pub invariant-nodes_json-loop-index : goal.invariant-nodes_json-loop-index
invariant-nodes_json-loop-index l =
    members_view l.map.entries ≡ nodes_data 0 l.result_index (plain_nodes (take l.index l.node-items)) no_members
