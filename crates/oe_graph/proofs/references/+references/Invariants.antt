use Rattle.std.proofs.Common.{◌≡◌, ◌++◌, take}
use Rattle.oe_graph.specs.Indices.{are_known, indices_named}
use Rattle.oe_graph.specs.Plain.{plain_args, plain_named, plain_nodes}
use Rattle.oe_graph.specs.References.{references_each, references_named}
use Rattle.oe_graph.proofs.references.+references.Given as goal

abbrev pub invariant-add_named-loop-member : goal.invariant-add_named-loop-member
invariant-add_named-loop-member l =
    let nodes = plain_nodes l.beside.nodes.now.items in
    let so_far = references_named (plain_named (take l.member-index l.member-items)) in
    (l.found.items ≡ l.initial.found.items ++ indices_named nodes so_far) × (l.known ≡ are_known nodes so_far)

abbrev pub invariant-add_args-loop-item : goal.invariant-add_args-loop-item
invariant-add_args-loop-item l =
    let nodes = plain_nodes l.beside.nodes.now.items in
    let so_far = references_each (plain_args (take l.item-index l.item-items)) in
    (l.found.items ≡ l.initial.found.items ++ indices_named nodes so_far) × (l.known ≡ are_known nodes so_far)
