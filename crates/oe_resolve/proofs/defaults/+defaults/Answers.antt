use Rattle.std.proofs.Common.{◌≡◌, map, take, refl, ap, ◌∙◌, arith}
use Rattle.std.proofs.lemmas.List.{take_all}
use Rattle.std.proofs.lemmas.Grind.{common_steps}
use borrow.Author.Differences.{ints}
use Rattle.oe_graph.specs.Plain.{plain_arg, plain_pair, plain_node}
use Rattle.oe_graph.specs.Tree.{values_from_list, named_from_list, nodes_from_list}
use Rattle.oe_resolve.specs.Defaults.{with_defaults, node_with_defaults}
use Rattle.oe_calls.proofs.Each.{member_by}
use Rattle.oe_resolve.proofs.Each.{each_with_defaults, named_with_defaults, nodes_with_defaults}
use Rattle.oe_resolve.proofs.defaults.+defaults.Goals as goal

pub args_with_defaults-returns : goal.args_with_defaults-returns
args_with_defaults-returns t c =
    let full : take c.loop-item.item-index c.deref-item-items.result.now ≡ c.deref-item-items.result.now = take_all _ _ c.loop-item-test.false in
    let all : map plain_arg c.loop-item.copy.items ≡ map (λ a. with_defaults (plain_arg a)) c.args.items.now.items =
    rw (c.loop-item.invariant, full, c.deref-item-items.ensures.value) refl in
    ap values_from_list all ∙ each_with_defaults c.args.items.now.items

pub named_with_defaults-returns : goal.named_with_defaults-returns
named_with_defaults-returns t c =
    let full : take c.loop-member.member-index c.deref-member-items.result.now ≡ c.deref-member-items.result.now = take_all _ _ c.loop-member-test.false in
    let all : map plain_pair c.loop-member.copy.items ≡ map (member_by with_defaults) c.args.members.now.items =
    rw (c.loop-member.invariant, full, c.deref-member-items.ensures.value) refl in
    ap named_from_list all ∙ named_with_defaults c.args.members.now.items

pub nodes_with_defaults-returns : goal.nodes_with_defaults-returns
nodes_with_defaults-returns t c =
    let full : take c.loop-node.node-index c.deref-node-items.result.now ≡ c.deref-node-items.result.now = take_all _ _ c.loop-node-test.false in
    let all : map plain_node c.loop-node.copy.items ≡ map (λ n. node_with_defaults (plain_node n)) c.args.nodes.now.items =
    rw (c.loop-node.invariant, full, c.deref-node-items.ensures.value) refl in
    ap nodes_from_list all ∙ nodes_with_defaults c.args.nodes.now.items

pub args_with_defaults-loop-item-preserved : goal.args_with_defaults-loop-item-preserved
args_with_defaults-loop-item-preserved t c = grind (arith, common_steps) steps 2000000

pub named_with_defaults-loop-member-preserved : goal.named_with_defaults-loop-member-preserved
named_with_defaults-loop-member-preserved t c = grind (arith, common_steps) steps 2000000

pub nodes_with_defaults-loop-node-preserved : goal.nodes_with_defaults-loop-node-preserved
nodes_with_defaults-loop-node-preserved t c = grind (ints, arith, common_steps) steps 4000000
