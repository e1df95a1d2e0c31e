use Rattle.std.proofs.Common.{◌∷◌, [], map, take, sym, ◌∙◌, subst, arith}
use Rattle.std.proofs.lemmas.Result.{on_ok_weaker}
use Rattle.std.proofs.lemmas.Grind.{common_steps}
use Rattle.oe_graph.specs.Plain.{plain_arg, plain_args, plain_named, plain_node, plain_nodes, plain_stored}
use Rattle.oe_graph.specs.Tree.{PlainNode}
use Rattle.oe_graph.proofs.PartLemmas.{node_parts}
use Rattle.oe_calls.specs.Reached.{held_by, held_each, held_in, held_named, held_nodes, IsCalledBehind}
use Rattle.oe_calls.proofs.ReachLemmas.{behind_more, each_next, held_next, named_next}
use Rattle.oe_calls.proofs.UncalledLemmas.{map_empty, uncalled_behind}
use Rattle.oe_calls.proofs.reach.+calls.Goals as goal

pub add_args-loop-item-preserved : goal.add_args-loop-item-preserved
add_args-loop-item-preserved t c =
    let stored = map plain_stored c.args.stored.now in
    let xs = c.deref-item-items.result.now in
    let i = c.loop-item.item-index in
    subst (λ r. IsCalledBehind stored r c.args.found.now.items c.add_arg.new.found.items)
    (sym (each_next xs i c.item-item.result c.loop-item-test.true c.item-item.is))
    (behind_more stored (held_each (plain_args (take i xs))) (held_in (plain_arg c.item-item.result))
    c.args.found.now.items c.loop-item.found.items c.add_arg.new.found.items c.loop-item.invariant c.in_ok-add_arg.ensures)

pub add_named-loop-member-preserved : goal.add_named-loop-member-preserved
add_named-loop-member-preserved t c =
    let stored = map plain_stored c.args.stored.now in
    let ms = c.deref-member-items.result.now in
    let i = c.loop-member.member-index in
    subst (λ r. IsCalledBehind stored r c.args.found.now.items c.add_arg.new.found.items)
    (sym (named_next ms i c.member-item.result c.loop-member-test.true c.member-item.is))
    (behind_more stored (held_named (plain_named (take i ms))) (held_in (plain_arg c.member-item.result.1))
    c.args.found.now.items c.loop-member.found.items c.add_arg.new.found.items c.loop-member.invariant c.in_ok-add_arg.ensures)

pub add_nodes-loop-node-preserved : goal.add_nodes-loop-node-preserved
add_nodes-loop-node-preserved t c =
    let stored = map plain_stored c.args.stored.now in
    let ns = c.deref-node-items.result.now in
    let i = c.loop-node.node-index in
    subst (λ r. IsCalledBehind stored r c.args.found.now.items c.add_node.new.found.items)
    (sym (held_next c.args.in_callback ns i c.node-item.result c.loop-node-test.true c.node-item.is))
    (behind_more stored (held_nodes c.args.in_callback (plain_nodes (take i ns))) (held_by c.args.in_callback (plain_node c.node-item.result))
    c.args.found.now.items c.loop-node.found.items c.add_node.new.found.items c.loop-node.invariant c.in_ok-add_node.ensures)

pub add_node-returns : goal.add_node-returns
add_node-returns t c =
    let stored = map plain_stored c.args.stored.now in
    let n = plain_node c.args.node.now in
    let arguments = plain_named c.args.node.now.arguments.items in
    on_ok_weaker c.add_named.result
    (λ more. behind_more stored ((c.args.in_callback, n) ∷ []) (held_named n.arguments)
    c.args.found.now.items c.add_call.new.found.items c.add_named.new.found.items c.in_ok-add_call.ensures
    (subst (λ (m : PlainNode). IsCalledBehind stored (held_named m.arguments) c.add_call.new.found.items c.add_named.new.found.items)
    (sym (node_parts c.args.node.now)) more))
    c.add_named.ensures

pub add_node-returns-then-is_empty : goal.add_node-returns-then-is_empty
add_node-returns-then-is_empty t c =
    let held = held_by c.args.in_callback (plain_node c.args.node.now) in
    let old = c.args.found.now.items in
    subst (λ stored. IsCalledBehind stored held old old)
    (sym (map_empty plain_stored c.args.stored.now (sym c.is_empty.ensures ∙ c.if-is_empty.true))) (uncalled_behind held old)

pub add_args-returns : goal.add_args-returns
add_args-returns t c = grind (arith, common_steps) steps 2000000

pub add_named-returns : goal.add_named-returns
add_named-returns t c = grind (arith, common_steps) steps 2000000

pub add_nodes-returns : goal.add_nodes-returns
add_nodes-returns t c = grind (arith, common_steps) steps 2000000
