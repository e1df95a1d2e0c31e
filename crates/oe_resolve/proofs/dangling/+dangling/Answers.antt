use Rattle.std.proofs.Common.{◌≡◌, map, take, refl, ap, ◌∙◌}
use Rattle.std.proofs.lemmas.List.{take_all}
use Rattle.oe_graph.specs.Plain.{plain_arg, plain_pair, plain_node, plain_nodes}
use Rattle.oe_graph.specs.Printed.{ids_of}
use Rattle.oe_graph.specs.Tree.{values_from_list, named_from_list, nodes_from_list}
use Rattle.oe_calls.specs.Rounds.{cleared, cleared_node}
use Rattle.oe_calls.proofs.Each.{member_by}
use Rattle.oe_resolve.proofs.Each.{cleared_each, cleared_named, cleared_nodes}
use Rattle.oe_resolve.proofs.dangling.+dangling.Goals as goal

pub clear_args-returns : goal.clear_args-returns
clear_args-returns t c =
    let ids = ids_of (plain_nodes c.args.beside.now.nodes.now.items) in
    let full : take c.loop-item.item-index c.deref-item-items.result.now ≡ c.deref-item-items.result.now = take_all _ _ c.loop-item-test.false in
    let all : map plain_arg c.loop-item.copy.items ≡ map (λ a. cleared ids (plain_arg a)) c.args.items.now.items =
    rw (c.loop-item.invariant, full, c.deref-item-items.ensures.value) refl in
    ap values_from_list all ∙ cleared_each ids c.args.items.now.items

pub clear_named-returns : goal.clear_named-returns
clear_named-returns t c =
    let ids = ids_of (plain_nodes c.args.beside.now.nodes.now.items) in
    let full : take c.loop-member.member-index c.deref-member-items.result.now ≡ c.deref-member-items.result.now = take_all _ _ c.loop-member-test.false in
    let all : map plain_pair c.loop-member.copy.items ≡ map (member_by (cleared ids)) c.args.members.now.items =
    rw (c.loop-member.invariant, full, c.deref-member-items.ensures.value) refl in
    ap named_from_list all ∙ cleared_named ids c.args.members.now.items

pub clear_nodes-returns : goal.clear_nodes-returns
clear_nodes-returns t c =
    let ids = ids_of (plain_nodes c.args.beside.now.nodes.now.items) in
    let full : take c.loop-node.node-index c.deref-node-items.result.now ≡ c.deref-node-items.result.now = take_all _ _ c.loop-node-test.false in
    let all : map plain_node c.loop-node.copy.items ≡ map (λ n. cleared_node ids (plain_node n)) c.args.nodes.now.items =
    rw (c.loop-node.invariant, full, c.deref-node-items.ensures.value) refl in
    ap nodes_from_list all ∙ cleared_nodes ids c.args.nodes.now.items
