use Rattle.std.proofs.Common.{◌≡◌, ◌++◌, ℕ, List, [], ◌∷◌, map, take, refl, sym, ap, ◌∙◌, arith}
use Rattle.std.proofs.lemmas.List.{map-append, take_all}
use Rattle.std.proofs.lemmas.Grind.{common_steps}
use borrow.Author.Differences.{ints}
use Rattle.oe_graph.specs.Plain.{plain_arg, plain_pair, plain_node, plain_nodes, plain_stored}
use Rattle.oe_graph.specs.Tree.{Argument, values_from_list, named_from_list, nodes_from_list}
use Rattle.oe_graph.specs.declared.tree.Arg.{Arg}
use Rattle.oe_memory.proofs.Lists.{take_next}
use Rattle.oe_calls.specs.Renamed.{renamed}
use Rattle.oe_calls.specs.Substituted.{substituted, substituted_nodes}
use Rattle.oe_calls.specs.PlainValues.{names_behind, rename_by, seen}
use Rattle.oe_calls.proofs.Each.{inlined, inlined_each, inlined_named, inlined_node, inlined_nodes, member_by}
use Rattle.oe_calls.proofs.RenamedLemmas.{kept_nodes, kept_inside}
use Rattle.oe_calls.proofs.inline.+inline.Goals as goal

pub inline_args-returns : goal.inline_args-returns
inline_args-returns t c =
    let stored = map plain_stored c.args.stored.now in
    let own = names_behind c.args.own.now in
    let values = seen c.args.values.now in
    let rename = rename_by c.args.values.now in
    let full : take c.loop-item.item-index c.deref-item-items.result.now ≡ c.deref-item-items.result.now = take_all _ _ c.loop-item-test.false in
    let all : map plain_arg c.loop-item.copy.items ≡ map (λ a. inlined stored values rename own (plain_arg a)) c.args.items.now.items =
    rw (c.loop-item.invariant, full, c.deref-item-items.ensures.value) refl in
    ap values_from_list all ∙ inlined_each stored values rename own c.args.items.now.items

pub inline_named-returns : goal.inline_named-returns
inline_named-returns t c =
    let stored = map plain_stored c.args.stored.now in
    let own = names_behind c.args.own.now in
    let values = seen c.args.values.now in
    let rename = rename_by c.args.values.now in
    let full : take c.loop-member.member-index c.deref-member-items.result.now ≡ c.deref-member-items.result.now = take_all _ _ c.loop-member-test.false in
    let all : map plain_pair c.loop-member.copy.items ≡ map (member_by (inlined stored values rename own)) c.args.members.now.items =
    rw (c.loop-member.invariant, full, c.deref-member-items.ensures.value) refl in
    ap named_from_list all ∙ inlined_named stored values rename own c.args.members.now.items

pub inline_named-loop-member-preserved : goal.inline_named-loop-member-preserved
inline_named-loop-member-preserved t c =
    let stored = map plain_stored c.args.stored.now in
    let own = names_behind c.args.own.now in
    let values = seen c.args.values.now in
    let change : List ℕ × Arg → List ℕ × Argument = member_by (λ a. substituted stored own values (renamed (rename_by c.args.values.now) a)) in
    let ms = c.deref-member-items.result.now in
    let i = c.loop-member.member-index in
    let m : List ℕ × Arg = c.member-item.result in
    let pushed : List ℕ × Arg = (c.in_ok-name.name, c.in_ok-inline_arg.field-0) in
    let same : plain_pair pushed ≡ change m =
    ap (λ (name : List ℕ). (name, plain_arg c.in_ok-inline_arg.field-0)) c.in_ok-name.ensures ∙ ap (λ (a : Argument). (m.0, a)) c.in_ok-inline_arg.ensures in
    ap (map plain_pair) c.in_ok-push.ensures.items
    ∙ (map-append plain_pair c.loop-member.copy.items (pushed ∷ [])
    ∙ (ap (λ ps. ps ++ plain_pair pushed ∷ []) c.loop-member.invariant
    ∙ (ap (λ p. map change (take i ms) ++ p ∷ []) same
    ∙ (sym (map-append change (take i ms) (m ∷ []))
    ∙ ap (map change) (sym (take_next ms i m c.loop-member-test.true c.member-item.is))))))

pub inline_nodes-returns-clause-nodes : goal.inline_nodes-returns-clause-nodes
inline_nodes-returns-clause-nodes t c =
    let stored = map plain_stored c.args.stored.now in
    let values = seen c.args.values.now in
    let rename = rename_by c.args.values.now in
    let full : take c.loop-node.node-index c.deref-node-items.result.now ≡ c.deref-node-items.result.now = take_all _ _ c.loop-node-test.false in
    let all : map plain_node c.loop-node.copy.items ≡ map (λ n. inlined_node stored values rename (plain_node n)) c.args.nodes.now.items =
    rw (c.loop-node.invariant, full, c.deref-node-items.ensures.value) refl in
    ap nodes_from_list all ∙ inlined_nodes stored values rename c.args.nodes.now.items

pub inline_nodes-returns-clause-kept : goal.inline_nodes-returns-clause-kept
inline_nodes-returns-clause-kept t c inside =
    let stored = map plain_stored c.args.stored.now in
    let values = seen c.args.values.now in
    let rename = rename_by c.args.values.now in
    let full : take c.loop-node.node-index c.deref-node-items.result.now ≡ c.deref-node-items.result.now = take_all _ _ c.loop-node-test.false in
    let all : map plain_node c.loop-node.copy.items ≡ map (λ n. inlined_node stored values rename (plain_node n)) c.args.nodes.now.items =
    rw (c.loop-node.invariant, full, c.deref-node-items.ensures.value) refl in
    ap nodes_from_list all
    ∙ (inlined_nodes stored values rename c.args.nodes.now.items
    ∙ ap (substituted_nodes stored values) (kept_nodes rename (kept_inside c.args.values.now inside) (plain_nodes c.args.nodes.now.items)))

pub inline_args-loop-item-preserved : goal.inline_args-loop-item-preserved
inline_args-loop-item-preserved t c = grind (arith, common_steps) steps 2000000

pub inline_nodes-loop-node-preserved : goal.inline_nodes-loop-node-preserved
inline_nodes-loop-node-preserved t c = grind (ints, arith, common_steps) steps 4000000
