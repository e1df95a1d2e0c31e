use Rattle.std.proofs.Common.{◌≡◌, ◌+◌, ◌≤◌, ◌∷◌, ℕ, List, map, drop, length, sym, ap, ◌∙◌, subst, arith}
use Rattle.std.proofs.lemmas.List.{at_drop_all}
use Rattle.std.proofs.lemmas.Result.{IfOk-weaker}
use Rattle.oe_graph.specs.Plain.{plain_arg, plain_args, plain_named, plain_node, plain_nodes, plain_stored}
use Rattle.oe_graph.specs.Tree.{Argument, PlainNode}
use Rattle.oe_graph.specs.declared.tree.Arg.{Arg}
use Rattle.oe_graph.specs.declared.tree.Node.{Node}
use Rattle.oe_graph.specs.declared.tree.Graph.{out-Graph}
use Rattle.oe_graph.proofs.PartLemmas.{node_parts}
use Rattle.oe_calls.specs.Calls.{callback_parameters}
use Rattle.oe_calls.specs.Substituted.{inside, substituted, substituted_each, substituted_named, substituted_node, substituted_nodes}
use Rattle.oe_calls.specs.PlainValues.{names_behind, plain_sizes}
use Rattle.oe_calls.specs.Sizes.{HasSizes, value_size, size_bare_nodes, size_in, size_each, size_named, size_nodes}
use Rattle.oe_calls.proofs.BareLemmas.{bare_substituted}
use Rattle.oe_calls.proofs.NodeLemmas.{list_is, object_is, callback_is}
use Rattle.oe_calls.proofs.SizeLemmas.{has_inside_behind, size_next}
use Rattle.oe_calls.proofs.sizes.+opened.Goals as goal

pub opened_nodes_left-returns : goal.opened_nodes_left-returns
opened_nodes_left-returns t c values has =
    let m = c.args.sizes.now.measure in
    let stored = map plain_stored c.args.stored.now in
    let xs = c.deref-node-items.result.now in
    let i = c.loop-node.node-index in
    let past : length xs ≤ i = omega (arith, c.loop-node-test.false) in
    let none : size_nodes m (substituted_nodes stored values (plain_nodes (drop i xs))) ≡ 0 =
    at_drop_all (λ (ys : List Node). size_nodes m (substituted_nodes stored values (plain_nodes ys))) xs i past in
    let whole : size_nodes m (substituted_nodes stored values (plain_nodes xs)) ≡ size_nodes m (substituted_nodes stored values (plain_nodes c.args.nodes.now.items)) =
    ap (λ (ys : List Node). size_nodes m (substituted_nodes stored values (plain_nodes ys))) c.deref-node-items.ensures.value in
    let here : c.args.budget + size_nodes m (substituted_nodes stored values (plain_nodes (drop i xs)))
    ≡ c.loop-node.left + size_nodes m (substituted_nodes stored values (plain_nodes xs)) =
    c.loop-node.invariant values has in
    omega (arith, none, whole, here)

pub opened_named_left-returns : goal.opened_named_left-returns
opened_named_left-returns t c values has =
    let m = c.args.sizes.now.measure in
    let stored = map plain_stored c.args.stored.now in
    let own = names_behind c.args.own.now in
    let xs = c.deref-member-items.result.now in
    let i = c.loop-member.member-index in
    let past : length xs ≤ i = omega (arith, c.loop-member-test.false) in
    let none : size_named m (substituted_named stored own values (plain_named (drop i xs))) ≡ 0 =
    at_drop_all (λ (ys : List (List ℕ × Arg)). size_named m (substituted_named stored own values (plain_named ys))) xs i past in
    let whole : size_named m (substituted_named stored own values (plain_named xs)) ≡ size_named m (substituted_named stored own values (plain_named c.args.members.now.items)) =
    ap (λ (ys : List (List ℕ × Arg)). size_named m (substituted_named stored own values (plain_named ys))) c.deref-member-items.ensures.value in
    let here : c.args.budget + size_named m (substituted_named stored own values (plain_named (drop i xs)))
    ≡ c.loop-member.left + size_named m (substituted_named stored own values (plain_named xs)) =
    c.loop-member.invariant values has in
    omega (arith, none, whole, here)

pub opened_args_left-returns : goal.opened_args_left-returns
opened_args_left-returns t c values has =
    let m = c.args.sizes.now.measure in
    let stored = map plain_stored c.args.stored.now in
    let own = names_behind c.args.own.now in
    let xs = c.deref-item-items.result.now in
    let i = c.loop-item.item-index in
    let past : length xs ≤ i = omega (arith, c.loop-item-test.false) in
    let none : size_each m (substituted_each stored own values (plain_args (drop i xs))) ≡ 0 =
    at_drop_all (λ (ys : List Arg). size_each m (substituted_each stored own values (plain_args ys))) xs i past in
    let whole : size_each m (substituted_each stored own values (plain_args xs)) ≡ size_each m (substituted_each stored own values (plain_args c.args.items.now.items)) =
    ap (λ (ys : List Arg). size_each m (substituted_each stored own values (plain_args ys))) c.deref-item-items.ensures.value in
    let here : c.args.budget + size_each m (substituted_each stored own values (plain_args (drop i xs)))
    ≡ c.loop-item.left + size_each m (substituted_each stored own values (plain_args xs)) =
    c.loop-item.invariant values has in
    omega (arith, none, whole, here)

pub opened_nodes_left-loop-node-preserved : goal.opened_nodes_left-loop-node-preserved
opened_nodes_left-loop-node-preserved t c values has =
    let m = c.args.sizes.now.measure in
    let stored = map plain_stored c.args.stored.now in
    let xs = c.deref-node-items.result.now in
    let i = c.loop-node.node-index in
    let n : Node = c.node-item.result in
    let rest = size_nodes m (substituted_nodes stored values (plain_nodes (drop (i + 1) xs))) in
    let next : size_nodes m (substituted_nodes stored values (plain_nodes (drop i xs)))
    ≡ size_named m (substituted_node stored values (plain_node n)).arguments + rest =
    size_next (λ (ys : List Node). size_nodes m (substituted_nodes stored values (plain_nodes ys))) xs i n c.loop-node-test.true c.node-item.is in
    let before : c.args.budget + size_nodes m (substituted_nodes stored values (plain_nodes (drop i xs)))
    ≡ c.loop-node.left + size_nodes m (substituted_nodes stored values (plain_nodes xs)) =
    c.loop-node.invariant values has in
    let here : c.loop-node.left ≡ c.in_ok-left.left + size_named m (substituted_node stored values (plain_node n)).arguments =
    c.in_ok-left.ensures values has in
    omega (arith, next, before, here)

pub opened_node_left-returns : goal.opened_node_left-returns
opened_node_left-returns t c =
    let m = c.args.sizes.now.measure in
    let stored = map plain_stored c.args.stored.now in
    let n : Node = c.args.node.now in
    IfOk-weaker c.opened_named_left.result _ _
    (λ left each values has.
    subst (λ (k : PlainNode). c.args.budget
    ≡ left + size_named m (substituted_named stored (callback_parameters stored k.namespace k.process_id) values k.arguments))
    (sym (node_parts n))
    (subst (λ own. c.args.budget ≡ left + size_named m (substituted_named stored own values (plain_named n.arguments.items)))
    c.callback_parameters-own.ensures (each values has)))
    c.opened_named_left.ensures

pub opened_arg_left-returns-in_ok-left-in-List : goal.opened_arg_left-returns-in_ok-left-in-List
opened_arg_left-returns-in_ok-left-in-List t c =
    let m = c.args.sizes.now.measure in
    let stored = map plain_stored c.args.stored.now in
    let own = names_behind c.args.own.now in
    IfOk-weaker c.opened_args_left.result _ _
    (λ left each values has.
    let here : c.in_ok-left-in-List.left ≡ left + size_each m (substituted_each stored own values (plain_args c.in-List.items.items)) =
    each values has in
    let whole : c.args.budget
    ≡ left + (value_size m + size_each m (substituted_each stored own values (plain_args c.in-List.items.items))) =
    omega (arith, here, c.in_ok-left-in-List.ensures, c.value_size-size.ensures) in
    subst (λ (a : Argument). c.args.budget ≡ left + size_in m (substituted stored own values a))
    (sym (list_is c.args.arg.now c.in-List.items c.in-List.is)) whole)
    c.opened_args_left.ensures

pub opened_arg_left-returns-in_ok-left-in-Object : goal.opened_arg_left-returns-in_ok-left-in-Object
opened_arg_left-returns-in_ok-left-in-Object t c =
    let m = c.args.sizes.now.measure in
    let stored = map plain_stored c.args.stored.now in
    let own = names_behind c.args.own.now in
    IfOk-weaker c.opened_named_left.result _ _
    (λ left each values has.
    let here : c.in_ok-left-in-Object.left
    ≡ left + size_named m (substituted_named stored own values (plain_named c.in-Object.members.items)) =
    each values has in
    let whole : c.args.budget
    ≡ left + (value_size m + size_named m (substituted_named stored own values (plain_named c.in-Object.members.items))) =
    omega (arith, here, c.in_ok-left-in-Object.ensures, c.value_size-size.ensures) in
    subst (λ (a : Argument). c.args.budget ≡ left + size_in m (substituted stored own values a))
    (sym (object_is c.args.arg.now c.in-Object.members c.in-Object.is)) whole)
    c.opened_named_left.ensures

pub opened_arg_left-returns-in_ok-inner-in-Callback : goal.opened_arg_left-returns-in_ok-inner-in-Callback
opened_arg_left-returns-in_ok-inner-in-Callback t c =
    let m = c.args.sizes.now.measure in
    let sizes = plain_sizes c.args.sizes.now.each.items in
    let stored = map plain_stored c.args.stored.now in
    let own = names_behind c.args.own.now in
    let ns = plain_nodes (out-Graph c.in-Callback.graph).nodes.items in
    IfOk-weaker c.opened_nodes_left.result _ _
    (λ left each values has.
    let has_inner : HasSizes m sizes (names_behind c.as_slice.result.now) (inside own values) =
    subst (λ names. HasSizes m sizes (names_behind names) (inside own values))
    (sym (c.as_slice.ensures.value ∙ c.in_ok-inner-in-Callback.ensures))
    (has_inside_behind m sizes c.args.own.now c.args.hidden.now values has) in
    let here : c.in_ok-room-in-Callback.room ≡ left + size_nodes m (substituted_nodes stored (inside own values) ns) =
    each (inside own values) has_inner in
    let bare : size_bare_nodes m (substituted_nodes stored (inside own values) ns) ≡ size_bare_nodes m ns =
    bare_substituted m stored (inside own values) ns in
    let whole : c.args.budget
    ≡ left + (value_size m + (size_bare_nodes m (substituted_nodes stored (inside own values) ns)
    + size_nodes m (substituted_nodes stored (inside own values) ns))) =
    omega (arith, here, bare, c.in_ok-left-in-Callback.ensures, c.in_ok-room-in-Callback.ensures, c.value_size-size.ensures) in
    subst (λ (a : Argument). c.args.budget ≡ left + size_in m (substituted stored own values a))
    (sym (callback_is c.args.arg.now c.in-Callback.graph c.in-Callback.is)) whole)
    c.opened_nodes_left.ensures
