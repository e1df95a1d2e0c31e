use Rattle.std.proofs.Common.{◌≡◌, ◌+◌, map, drop}
use Rattle.oe_graph.specs.Plain.{plain_args, plain_named, plain_nodes, plain_stored}
use Rattle.oe_graph.specs.Tree.{Named}
use Rattle.oe_calls.specs.Substituted.{substituted_each, substituted_named, substituted_nodes}
use Rattle.oe_calls.specs.PlainValues.{names_behind, plain_sizes}
use Rattle.oe_calls.specs.Sizes.{HasSizes, size_each, size_named, size_nodes}
use Rattle.oe_calls.proofs.sizes.+opened.Given as goal

abbrev pub invariant-opened_nodes_left-loop-node : goal.invariant-opened_nodes_left-loop-node
invariant-opened_nodes_left-loop-node l =
    (values : Named) → HasSizes l.sizes.measure (plain_sizes l.sizes.each.items) (names_behind l.hidden) values
    → l.budget
    + size_nodes l.sizes.measure (substituted_nodes (map plain_stored l.stored) values (plain_nodes (drop l.node-index l.node-items)))
    ≡ l.left + size_nodes l.sizes.measure (substituted_nodes (map plain_stored l.stored) values (plain_nodes l.node-items))

abbrev pub invariant-opened_named_left-loop-member : goal.invariant-opened_named_left-loop-member
invariant-opened_named_left-loop-member l =
    (values : Named) → HasSizes l.sizes.measure (plain_sizes l.sizes.each.items) (names_behind l.hidden) values
    → l.budget
    + size_named l.sizes.measure
    (substituted_named (map plain_stored l.stored) (names_behind l.own) values (plain_named (drop l.member-index l.member-items)))
    ≡ l.left
    + size_named l.sizes.measure (substituted_named (map plain_stored l.stored) (names_behind l.own) values (plain_named l.member-items))

abbrev pub invariant-opened_args_left-loop-item : goal.invariant-opened_args_left-loop-item
invariant-opened_args_left-loop-item l =
    (values : Named) → HasSizes l.sizes.measure (plain_sizes l.sizes.each.items) (names_behind l.hidden) values
    → l.budget
    + size_each l.sizes.measure
    (substituted_each (map plain_stored l.stored) (names_behind l.own) values (plain_args (drop l.item-index l.item-items)))
    ≡ l.left
    + size_each l.sizes.measure (substituted_each (map plain_stored l.stored) (names_behind l.own) values (plain_args l.item-items))
