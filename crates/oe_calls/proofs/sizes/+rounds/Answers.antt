use Rattle.std.proofs.Common.{◌≡◌, ◌+◌, ◌≤◌, ◌∷◌, ℕ, false, List, map, drop, take, length, sym, ap, ◌∙◌, subst, arith}
use Rattle.std.proofs.lemmas.List.{at_drop_all, take_all}
use Rattle.std.proofs.lemmas.Result.{IfOk-weaker}
use Rattle.oe_graph.specs.Plain.{plain_arg, plain_args, plain_named, plain_nodes, plain_parameter, plain_stored}
use Rattle.oe_graph.specs.Tree.{Argument, no_nodes}
use Rattle.oe_graph.specs.declared.catalogue.ParameterRow.{ParameterRow}
use Rattle.oe_graph.specs.declared.tree.Arg.{Arg}
use Rattle.oe_graph.specs.declared.tree.Node.{Node}
use Rattle.oe_graph.specs.declared.tree.Graph.{out-Graph}
use Rattle.oe_calls.specs.Rounds.{round_argument, round_each, round_named, round_nodes}
use Rattle.oe_calls.specs.PlainValues.{plain_sizes}
use Rattle.oe_calls.specs.declared.sizes.ParameterSize.{ParameterSize}
use Rattle.oe_calls.specs.Sizes.{given_sizes, round_bare, round_size, size_bare_nodes, name_size, value_size, size_in, size_each, size_named, size_nodes}
use Rattle.oe_calls.proofs.BareLemmas.{bare_round_all}
use Rattle.oe_calls.proofs.NodeLemmas.{list_is, object_is, callback_is}
use Rattle.oe_calls.proofs.SizeLemmas.{node_called, node_uncalled, size_next, size_round_all, sizes_next}
use Rattle.oe_calls.proofs.sizes.+rounds.Goals as goal

pub round_nodes_left-returns : goal.round_nodes_left-returns
round_nodes_left-returns t c all =
    let m = c.args.measure in
    let stored = map plain_stored c.args.stored.now in
    let xs = c.deref-node-items.result.now in
    let i = c.loop-node.node-index in
    let past : length xs ≤ i = omega (arith, c.loop-node-test.false) in
    let none : round_size m stored all (plain_nodes (drop i xs)) ≡ 0 =
    at_drop_all (λ (ys : List Node). round_size m stored all (plain_nodes ys)) xs i past in
    let whole : round_size m stored all (plain_nodes xs) ≡ round_size m stored all (plain_nodes c.args.nodes.now.items) =
    ap (λ (ys : List Node). round_size m stored all (plain_nodes ys)) c.deref-node-items.ensures.value in
    let here : c.args.budget + round_size m stored all (plain_nodes (drop i xs))
    ≡ c.loop-node.left + round_size m stored all (plain_nodes xs) =
    c.loop-node.invariant all in
    omega (arith, none, whole, here)

pub round_named_left-returns : goal.round_named_left-returns
round_named_left-returns t c all =
    let m = c.args.measure in
    let stored = map plain_stored c.args.stored.now in
    let xs = c.deref-member-items.result.now in
    let i = c.loop-member.member-index in
    let past : length xs ≤ i = omega (arith, c.loop-member-test.false) in
    let none : size_named m (round_named stored false all (plain_named (drop i xs))) ≡ 0 =
    at_drop_all (λ (ys : List (List ℕ × Arg)). size_named m (round_named stored false all (plain_named ys))) xs i past in
    let whole : size_named m (round_named stored false all (plain_named xs)) ≡ size_named m (round_named stored false all (plain_named c.args.members.now.items)) =
    ap (λ (ys : List (List ℕ × Arg)). size_named m (round_named stored false all (plain_named ys))) c.deref-member-items.ensures.value in
    let here : c.args.budget + size_named m (round_named stored false all (plain_named (drop i xs)))
    ≡ c.loop-member.left + size_named m (round_named stored false all (plain_named xs)) =
    c.loop-member.invariant all in
    omega (arith, none, whole, here)

pub round_args_left-returns : goal.round_args_left-returns
round_args_left-returns t c all =
    let m = c.args.measure in
    let stored = map plain_stored c.args.stored.now in
    let xs = c.deref-item-items.result.now in
    let i = c.loop-item.item-index in
    let past : length xs ≤ i = omega (arith, c.loop-item-test.false) in
    let none : size_each m (round_each stored false all (plain_args (drop i xs))) ≡ 0 =
    at_drop_all (λ (ys : List Arg). size_each m (round_each stored false all (plain_args ys))) xs i past in
    let whole : size_each m (round_each stored false all (plain_args xs)) ≡ size_each m (round_each stored false all (plain_args c.args.items.now.items)) =
    ap (λ (ys : List Arg). size_each m (round_each stored false all (plain_args ys))) c.deref-item-items.ensures.value in
    let here : c.args.budget + size_each m (round_each stored false all (plain_args (drop i xs)))
    ≡ c.loop-item.left + size_each m (round_each stored false all (plain_args xs)) =
    c.loop-item.invariant all in
    omega (arith, none, whole, here)

pub round_arg_left-returns-in-List : goal.round_arg_left-returns-in-List
round_arg_left-returns-in-List t c =
    let m = c.args.measure in
    let stored = map plain_stored c.args.stored.now in
    IfOk-weaker c.round_args_left.result _ _
    (λ left each all.
    let here : c.in_ok-left.left ≡ left + size_each m (round_each stored false all (plain_args c.in-List.items.items)) = each all in
    let whole : c.args.budget ≡ left + (value_size m + size_each m (round_each stored false all (plain_args c.in-List.items.items))) =
    omega (arith, here, c.in_ok-left.ensures, c.value_size.ensures) in
    subst (λ (a : Argument). c.args.budget ≡ left + size_in m (round_argument stored false all a))
    (sym (list_is c.args.arg.now c.in-List.items c.in-List.is)) whole)
    c.round_args_left.ensures

pub round_arg_left-returns-in-Object : goal.round_arg_left-returns-in-Object
round_arg_left-returns-in-Object t c =
    let m = c.args.measure in
    let stored = map plain_stored c.args.stored.now in
    IfOk-weaker c.round_named_left.result _ _
    (λ left each all.
    let here : c.in_ok-left.left ≡ left + size_named m (round_named stored false all (plain_named c.in-Object.members.items)) = each all in
    let whole : c.args.budget
    ≡ left + (value_size m + size_named m (round_named stored false all (plain_named c.in-Object.members.items))) =
    omega (arith, here, c.in_ok-left.ensures, c.value_size.ensures) in
    subst (λ (a : Argument). c.args.budget ≡ left + size_in m (round_argument stored false all a))
    (sym (object_is c.args.arg.now c.in-Object.members c.in-Object.is)) whole)
    c.round_named_left.ensures

pub round_arg_left-returns-in_ok-inner-in-Callback : goal.round_arg_left-returns-in_ok-inner-in-Callback
round_arg_left-returns-in_ok-inner-in-Callback t c =
    let m = c.args.measure in
    let stored = map plain_stored c.args.stored.now in
    let ns = plain_nodes (out-Graph c.in-Callback.graph).nodes.items in
    IfOk-weaker c.round_nodes_left.result _ _
    (λ left each all.
    let here : c.in_ok-inner-in-Callback.inner ≡ left + round_size m stored ns ns = each ns in
    let same : size_nodes m (round_nodes stored ns ns no_nodes) ≡ round_size m stored ns ns = size_round_all m stored ns in
    let bare : c.in_ok-left.left ≡ c.in_ok-inner-in-Callback.inner + round_bare m stored ns = c.in_ok-inner-in-Callback.ensures in
    let same_bare : size_bare_nodes m (round_nodes stored ns ns no_nodes) ≡ round_bare m stored ns = bare_round_all m stored ns in
    let whole : c.args.budget
    ≡ left + (value_size m + (size_bare_nodes m (round_nodes stored ns ns no_nodes) + size_nodes m (round_nodes stored ns ns no_nodes))) =
    omega (arith, here, same, bare, same_bare, c.in_ok-left.ensures, c.value_size.ensures) in
    subst (λ (a : Argument). c.args.budget ≡ left + size_in m (round_argument stored false all a))
    (sym (callback_is c.args.arg.now c.in-Callback.graph c.in-Callback.is)) whole)
    c.round_nodes_left.ensures

pub round_named_left-loop-member-preserved : goal.round_named_left-loop-member-preserved
round_named_left-loop-member-preserved t c all =
    let m = c.args.measure in
    let stored = map plain_stored c.args.stored.now in
    let xs = c.deref-member-items.result.now in
    let i = c.loop-member.member-index in
    let x : List ℕ × Arg = c.member-item.result in
    let rest = size_named m (round_named stored false all (plain_named (drop (i + 1) xs))) in
    let next : size_named m (round_named stored false all (plain_named (drop i xs)))
    ≡ name_size m x.0 + size_in m (round_argument stored false all (plain_arg x.1)) + rest =
    size_next (λ (ys : List (List ℕ × Arg)). size_named m (round_named stored false all (plain_named ys))) xs i x c.loop-member-test.true
    c.member-item.is in
    let before : c.args.budget + size_named m (round_named stored false all (plain_named (drop i xs)))
    ≡ c.loop-member.left + size_named m (round_named stored false all (plain_named xs)) =
    c.loop-member.invariant all in
    let name : c.name_size.result ≡ name_size m x.0 = c.name_size.ensures ∙ ap (name_size m) c.as_str.ensures in
    let value : c.in_ok-left.left ≡ c.in_ok-left-2.left + size_in m (round_argument stored false all (plain_arg x.1)) =
    c.in_ok-left-2.ensures all in
    omega (arith, next, before, name, value, c.in_ok-left.ensures)

pub round_node_left-returns-in_default : goal.round_node_left-returns-in_default
round_node_left-returns-in_default t c =
    let m = c.args.measure in
    let stored = map plain_stored c.args.stored.now in
    IfOk-weaker c.round_named_left.result _ _
    (λ left each all.
    node_uncalled m stored c.args.node.now (λ waits. round_named stored waits all) c.callee.result c.args.budget left c.callee.ensures
    c.in_default.not-Some (each all))
    c.round_named_left.ensures

pub round_node_left-loop-parameter-preserved : goal.round_node_left-loop-parameter-preserved
round_node_left-loop-parameter-preserved t c =
    let m = c.args.measure in
    let entry : ParameterSize = record { name = c.in_ok-copy.field-0; size = c.in_ok-size.size } in
    sizes_next m (plain_named c.args.node.now.arguments.items) c.loop-parameter.each.items
    c.push.new.self.items entry c.deref-parameter-items.result.now c.loop-parameter.parameter-index c.parameter-item.result
    c.loop-parameter-test.true c.parameter-item.is c.loop-parameter.invariant c.in_ok-push.ensures.items c.in_ok-copy.ensures
    c.in_ok-size.ensures

pub round_node_left-returns : goal.round_node_left-returns
round_node_left-returns t c =
    let m = c.args.measure in
    let stored = map plain_stored c.args.stored.now in
    let xs = c.deref-parameter-items.result.now in
    let full : take c.loop-parameter.parameter-index xs ≡ xs = take_all _ _ c.loop-parameter-test.false in
    IfOk-weaker c.opened_nodes_left.result _ _
    (λ left each all.
    node_called m stored c.args.node.now all c.callee.result c.in-Some.process c.args.budget left
    (plain_sizes c.loop-parameter.each.items) c.callee.ensures c.in-Some.is
    (c.loop-parameter.invariant
    ∙ ap (λ (ps : List ParameterRow). given_sizes m (plain_named c.args.node.now.arguments.items) (map plain_parameter ps))
    (full ∙ c.deref-parameter-items.ensures.value))
    each)
    c.opened_nodes_left.ensures
