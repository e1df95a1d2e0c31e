use Rattle.std.proofs.Common.{◌≡◌, map, take, refl, ap, ◌∙◌}
use Rattle.std.proofs.lemmas.List.{take_all}
use Rattle.oe_graph.specs.Plain.{plain_arg, plain_pair, plain_named, plain_nodes, plain_stored}
use Rattle.oe_graph.specs.declared.tree.Node.{Node}
use Rattle.oe_graph.specs.Tree.{values_from_list, named_from_list}
use Rattle.oe_calls.specs.Rounds as rounds
use Rattle.oe_calls.specs.Rounds.{round_argument}
use Rattle.oe_calls.proofs.Each.{member_by, round_each, round_named}
use Rattle.oe_calls.proofs.RoundLemmas.{round_nodes-next}
use Rattle.oe_calls.proofs.rounds.+round.Goals as goal

pub round_args-returns : goal.round_args-returns
round_args-returns t c =
    let stored = map plain_stored c.args.stored.now in
    let nodes = plain_nodes c.args.beside.now.nodes.now.items in
    let full : take c.loop-item.item-index c.deref-item-items.result.now ≡ c.deref-item-items.result.now = take_all _ _ c.loop-item-test.false in
    let all : map plain_arg c.loop-item.copy.items ≡ map (λ a. round_argument stored c.args.waits nodes (plain_arg a)) c.args.items.now.items =
    rw (c.loop-item.invariant, full, c.deref-item-items.ensures.value) refl in
    ap values_from_list all ∙ round_each stored c.args.waits nodes c.args.items.now.items

pub round_named-returns : goal.round_named-returns
round_named-returns t c =
    let stored = map plain_stored c.args.stored.now in
    let nodes = plain_nodes c.args.beside.now.nodes.now.items in
    let full : take c.loop-member.member-index c.deref-member-items.result.now ≡ c.deref-member-items.result.now = take_all _ _ c.loop-member-test.false in
    let all : map plain_pair c.loop-member.copy.items ≡ map (member_by (round_argument stored c.args.waits nodes)) c.args.members.now.items =
    rw (c.loop-member.invariant, full, c.deref-member-items.ensures.value) refl in
    ap named_from_list all ∙ round_named stored c.args.waits nodes c.args.members.now.items

pub round_nodes-loop-node-preserved : goal.round_nodes-loop-node-preserved
round_nodes-loop-node-preserved t c =
    let n : Node = c.node-item.result in
    c.loop-node.invariant
    ∙ round_nodes-next (map plain_stored c.args.stored.now) (plain_nodes c.args.all.now.items) c.deref-node-items.result.now
    c.loop-node.node-index n (plain_nodes c.loop-node.found.items) (plain_named c.in_ok-arguments.arguments.items)
    (plain_nodes c.in_ok-more.more.items) (plain_nodes c.put_nodes.new.found.items) c.loop-node-test.true c.node-item.is
    (c.in_ok-arguments.ensures
    ∙ ap (λ waits. rounds.round_named (map plain_stored c.args.stored.now) waits (plain_nodes c.args.all.now.items) (plain_named n.arguments.items))
    c.is_call-waits.ensures)
    c.in_ok-more.ensures c.in_ok-put_nodes.ensures
