use Rattle.std.proofs.Common.{◌≡◌, ◌+◌, ◌<◌, ◌≤◌, ℕ, List, Bool, None, length, map, option_map, take, false, get_or, sym, ap, ◌∙◌, subst, arith, string_bytes}
use Rattle.std.proofs.lemmas.List.{take_all, get_or_read, length-map}
use Rattle.std.proofs.lemmas.Result.{IfOk-weaker}
use Rattle.std.specs.Result.{IfOk}
use Rattle.oe_graph.proofs.LeastLemmas.{OneOf}
use Rattle.oe_graph.specs.Faults.{IsLeastFault}
use Rattle.oe_graph.specs.Plain.{plain_arg, plain_args, plain_named, plain_node, plain_nodes, plain_stored}
use Rattle.oe_graph.specs.Indices.{are_known}
use Rattle.oe_graph.specs.References.{callbacks_in, callbacks_each, callbacks_named, references_named}
use Rattle.oe_graph.specs.Form.{node_name}
use Rattle.oe_graph.specs.Printed.{ids_of}
use Rattle.oe_graph.specs.Tree.{Argument, PlainNode}
use Rattle.oe_graph.specs.declared.tree.Arg.{Arg}
use Rattle.oe_graph.specs.declared.tree.Node.{Node}
use Rattle.oe_graph.proofs.PartLemmas.{node_parts}
use Rattle.oe_resolve.specs.NameFaults.{IdsRiseIn, OfArgument, OfArguments, OfNode, know_named, node_code}
use Rattle.oe_calls.specs.PlainValues.{names_behind}
use Rattle.oe_calls.proofs.Along.{least_more, there_by}
use Rattle.oe_resolve.proofs.FaultLemmas.{least-none, none_least, rise_of_item, rise_of_member, rise_of_node, rise_of_object, arguments_least, items_least, members_least, object_least, call_least, node_least, mapped_at, mark_there, callback_argument}
use Rattle.oe_calls.proofs.NodeLemmas.{there_node, list_is, object_is}
use Rattle.oe_resolve.proofs.KnowsLemmas.{known-is}
use Rattle.oe_resolve.proofs.faults_of_names.+judge.Goals as goal
use Rattle.oe_resolve.proofs.faults_of_names.+judge.Goals.{items_fault-then-may_hold_callback+in_ok-found, items_fault-else-may_hold_callback, members_fault-then-may_hold_callback+in_ok-found, members_fault-else-may_hold_callback}

pub items_fault-loop-item-preserved : goal.items_fault-loop-item-preserved
items_fault-loop-item-preserved t c rise =
    let stored = map plain_stored c.args.judge.now.stored.now in
    let last = c.args.judge.now.last in
    let scope = names_behind c.args.scope.now in
    let Of = (λ (a : Arg). OfArgument stored last c.args.node_name.now c.args.argument.now scope (plain_arg a)) in
    let xs = c.deref-item-items.result.now in
    let i = c.loop-item.item-index in
    let x = c.item-item.result in
    elim c.if-may_hold_callback.branch [
      | items_fault-then-may_hold_callback+in_ok-found w ↦
          subst (IsLeastFault (OneOf Of (take (i + 1) xs))) (sym (w.fault-is ∙ w.least-fault.ensures))
          (least_more Of xs i x c.loop-item.fault w.in_ok-found.found c.loop-item-test.true c.item-item.is (c.loop-item.invariant rise)
          (w.in_ok-found.ensures (rise_of_item xs x rise (there_by xs i x c.loop-item-test.true c.item-item.is))))
      | items_fault-else-may_hold_callback w ↦
          subst (IsLeastFault (OneOf Of (take (i + 1) xs))) (least-none c.loop-item.fault ∙ sym w.fault-is)
          (least_more Of xs i x c.loop-item.fault None c.loop-item-test.true c.item-item.is (c.loop-item.invariant rise)
          (none_least stored last c.args.node_name.now c.args.argument.now scope (plain_arg x)
          (c.may_hold_callback.ensures w.if-may_hold_callback.false)))
    ]

pub items_fault-returns : goal.items_fault-returns
items_fault-returns t c rise =
    let Of = (λ (a : Arg). OfArgument (map plain_stored c.args.judge.now.stored.now) c.args.judge.now.last c.args.node_name.now c.args.argument.now (names_behind c.args.scope.now) (plain_arg a)) in
    let xs = c.deref-item-items.result.now in
    let all : length xs ≤ c.loop-item.item-index = omega (arith, c.loop-item-test.false) in
    items_least (map plain_stored c.args.judge.now.stored.now) c.args.judge.now.last c.args.node_name.now c.args.argument.now (names_behind c.args.scope.now) c.args.items.now.items c.loop-item.fault
    (subst (λ ys. IsLeastFault (OneOf Of ys) c.loop-item.fault) (take_all c.loop-item.item-index xs all ∙ c.deref-item-items.ensures.value)
    (c.loop-item.invariant (subst (λ ys. IdsRiseIn (callbacks_each (plain_args ys))) (sym c.deref-item-items.ensures.value) rise)))

pub members_fault-loop-member-preserved : goal.members_fault-loop-member-preserved
members_fault-loop-member-preserved t c rise =
    let stored = map plain_stored c.args.judge.now.stored.now in
    let last = c.args.judge.now.last in
    let scope = names_behind c.args.scope.now in
    let Of = (λ (m : List ℕ × Arg). OfArgument stored last c.args.node_name.now c.args.argument.now scope (plain_arg m.1)) in
    let xs = c.deref-member-items.result.now in
    let i = c.loop-member.member-index in
    let x = c.member-item.result in
    elim c.if-may_hold_callback.branch [
      | members_fault-then-may_hold_callback+in_ok-found w ↦
          subst (IsLeastFault (OneOf Of (take (i + 1) xs))) (sym (w.fault-is ∙ w.least-fault.ensures))
          (least_more Of xs i x c.loop-member.fault w.in_ok-found.found c.loop-member-test.true c.member-item.is (c.loop-member.invariant rise)
          (w.in_ok-found.ensures (rise_of_member xs x rise (there_by xs i x c.loop-member-test.true c.member-item.is))))
      | members_fault-else-may_hold_callback w ↦
          subst (IsLeastFault (OneOf Of (take (i + 1) xs))) (least-none c.loop-member.fault ∙ sym w.fault-is)
          (least_more Of xs i x c.loop-member.fault None c.loop-member-test.true c.member-item.is (c.loop-member.invariant rise)
          (none_least stored last c.args.node_name.now c.args.argument.now scope (plain_arg x.1)
          (c.may_hold_callback.ensures w.if-may_hold_callback.false)))
    ]

pub members_fault-returns : goal.members_fault-returns
members_fault-returns t c rise =
    let Of = (λ (m : List ℕ × Arg). OfArgument (map plain_stored c.args.judge.now.stored.now) c.args.judge.now.last c.args.node_name.now c.args.argument.now (names_behind c.args.scope.now) (plain_arg m.1)) in
    let xs = c.deref-member-items.result.now in
    let all : length xs ≤ c.loop-member.member-index = omega (arith, c.loop-member-test.false) in
    members_least (map plain_stored c.args.judge.now.stored.now) c.args.judge.now.last c.args.node_name.now c.args.argument.now (names_behind c.args.scope.now) c.args.members.now.items c.loop-member.fault
    (subst (λ ys. IsLeastFault (OneOf Of ys) c.loop-member.fault) (take_all c.loop-member.member-index xs all ∙ c.deref-member-items.ensures.value)
    (c.loop-member.invariant (subst (λ ys. IdsRiseIn (callbacks_named (plain_named ys))) (sym c.deref-member-items.ensures.value) rise)))

pub named_fault-loop-argument-preserved : goal.named_fault-loop-argument-preserved
named_fault-loop-argument-preserved t c rise =
    let Of = (λ (m : List ℕ × Arg). OfArgument (map plain_stored c.args.judge.now.stored.now) c.args.judge.now.last c.args.node_name.now m.0 (names_behind c.args.scope.now) (plain_arg m.1)) in
    let xs = c.deref-argument-items.result.now in
    let i = c.loop-argument.argument-index in
    let x = c.argument-item.result in
    subst (IsLeastFault (OneOf Of (take (i + 1) xs))) (sym c.least-fault.ensures)
    (least_more Of xs i x c.loop-argument.fault c.in_ok-found.found c.loop-argument-test.true c.argument-item.is (c.loop-argument.invariant rise)
    (subst (λ name. IsLeastFault (OfArgument (map plain_stored c.args.judge.now.stored.now) c.args.judge.now.last c.args.node_name.now name (names_behind c.args.scope.now) (plain_arg x.1)) c.in_ok-found.found)
    c.as_str.ensures (c.in_ok-found.ensures (rise_of_member xs x rise (there_by xs i x c.loop-argument-test.true c.argument-item.is)))))

pub named_fault-returns : goal.named_fault-returns
named_fault-returns t c rise =
    let Of = (λ (m : List ℕ × Arg). OfArgument (map plain_stored c.args.judge.now.stored.now) c.args.judge.now.last c.args.node_name.now m.0 (names_behind c.args.scope.now) (plain_arg m.1)) in
    let xs = c.deref-argument-items.result.now in
    let all : length xs ≤ c.loop-argument.argument-index = omega (arith, c.loop-argument-test.false) in
    arguments_least (map plain_stored c.args.judge.now.stored.now) c.args.judge.now.last c.args.node_name.now (names_behind c.args.scope.now) c.args.arguments.now.items c.loop-argument.fault
    (subst (λ ys. IsLeastFault (OneOf Of ys) c.loop-argument.fault) (take_all c.loop-argument.argument-index xs all ∙ c.deref-argument-items.ensures.value)
    (c.loop-argument.invariant (subst (λ ys. IdsRiseIn (callbacks_named (plain_named ys))) (sym c.deref-argument-items.ensures.value) rise)))

pub argument_fault-returns-in-List : goal.argument_fault-returns-in-List
argument_fault-returns-in-List t c =
    subst (λ (a : Argument). IfOk c.items_fault.result (λ o. IdsRiseIn (callbacks_in a)
    → IsLeastFault (OfArgument (map plain_stored c.args.judge.now.stored.now) c.args.judge.now.last c.args.node_name.now c.args.argument.now (names_behind c.args.scope.now) a) o))
    (sym (list_is c.args.arg.now c.in-List.items c.in-List.is)) c.items_fault.ensures

pub argument_fault-returns-in-Object : goal.argument_fault-returns-in-Object
argument_fault-returns-in-Object t c =
    subst (λ (a : Argument). IfOk c.members_fault.result (λ o. IdsRiseIn (callbacks_in a)
    → IsLeastFault (OfArgument (map plain_stored c.args.judge.now.stored.now) c.args.judge.now.last c.args.node_name.now c.args.argument.now (names_behind c.args.scope.now) a) o))
    (sym (object_is c.args.arg.now c.in-Object.members c.in-Object.is)) c.members_fault.ensures

pub argument_fault-returns-in_ok-name-in-Callback : goal.argument_fault-returns-in_ok-name-in-Callback
argument_fault-returns-in_ok-name-in-Callback t c =
    IfOk-weaker c.object_fault.result _
    (λ o. IdsRiseIn (callbacks_in (plain_arg c.args.arg.now))
    → IsLeastFault (OfArgument (map plain_stored c.args.judge.now.stored.now) c.args.judge.now.last c.args.node_name.now c.args.argument.now (names_behind c.args.scope.now) (plain_arg c.args.arg.now)) o)
    (λ o found. callback_argument (map plain_stored c.args.judge.now.stored.now) c.args.judge.now.last c.args.node_name.now c.args.argument.now
    c.as_str.result.now (names_behind c.args.scope.now) c.args.arg.now c.in-Callback.graph o c.in-Callback.is
    (c.as_str.ensures.value ∙ c.in_ok-name-in-Callback.ensures) found)
    c.object_fault.ensures

pub node_faults-returns-then-is_call : goal.node_faults-returns-then-is_call
node_faults-returns-then-is_call t c nodes rise known marked =
    let stored = map plain_stored c.args.judge.now.stored.now in
    let last = c.args.judge.now.last in
    let n = c.args.node.now in
    let scope = names_behind c.args.scope.now in
    let code = node_code stored last scope (plain_node n) c.args.is_known c.args.is_cyclic in
    call_least stored last c.args.name.now scope nodes n c.args.is_known c.args.is_cyclic c.in_ok-own.own (string_bytes c.in_ok-name.name)
    (sym c.is_call.ensures ∙ c.if-is_call.true)
    (c.in_ok-name.ensures ∙ ap (node_name c.args.name.now) c.as_str.ensures)
    (c.in_ok-own.ensures ∙ ap (λ at. option_map (λ k. record { code = k; node = at }) code) c.as_str-2.ensures.value)
    known marked

pub node_faults-returns : goal.node_faults-returns
node_faults-returns t c nodes rise known marked =
    let stored = map plain_stored c.args.judge.now.stored.now in
    let last = c.args.judge.now.last in
    let n = c.args.node.now in
    let scope = names_behind c.args.scope.now in
    let code = node_code stored last scope (plain_node n) c.args.is_known c.args.is_cyclic in
    let arguments = plain_named n.arguments.items in
    let scoped = names_behind c.in_ok-scope.scope.items in
    let rises : IdsRiseIn (callbacks_named arguments) =
    subst (λ (m : PlainNode). IdsRiseIn (callbacks_named m.arguments)) (node_parts n) rise in
    let found : IsLeastFault (OfArguments stored last (string_bytes c.in_ok-name.name) scoped arguments) c.in_ok-inner.inner =
    subst (λ name. IsLeastFault (OfArguments stored last name scoped arguments) c.in_ok-inner.inner) c.as_str-3.ensures.value
    (subst (λ names. IsLeastFault (OfArguments stored last c.as_str-3.result.now (names_behind names) arguments) c.in_ok-inner.inner)
    c.as_slice.ensures.value (c.in_ok-inner.ensures rises)) in
    subst (IsLeastFault (OfNode stored last c.args.name.now scope nodes (plain_node n))) (sym c.least.ensures)
    (node_least stored last c.args.name.now scope nodes n c.args.is_known c.args.is_cyclic c.in_ok-own.own c.in_ok-inner.inner (string_bytes c.in_ok-name.name) scoped
    (sym c.is_call.ensures ∙ c.if-is_call.false)
    (c.in_ok-name.ensures ∙ ap (node_name c.args.name.now) c.as_str.ensures)
    c.in_ok-scope.ensures
    (c.in_ok-own.ensures ∙ ap (λ at. option_map (λ k. record { code = k; node = at }) code) c.as_str-2.ensures.value)
    known marked found)

pub object_fault-index-requires-in-loop-index : goal.object_fault-index-requires-in-loop-index
object_fault-index-requires-in-loop-index t c =
    let ns = c.args.nodes.now.items in
    let knows : Node → Bool = (λ (m : Node). are_known (plain_nodes ns) (references_named (plain_node m).arguments)) in
    omega (
      arith,
      ap (λ (ks : List Bool). length ks) c.in_ok-references.ensures.known,
      length-map ns knows,
      c.loop-index-test.true,
      c.len-index-end.ensures,
      c.in_ok-references.references.known.ok.0,
      c.args.nodes.now.ok.0,
    )

pub object_fault-index-requires-in-loop-index-2 : goal.object_fault-index-requires-in-loop-index-2
object_fault-index-requires-in-loop-index-2 t c =
    omega (arith, c.in_ok-cyclic.ensures.len, c.loop-index-test.true, c.len-index-end.ensures, c.in_ok-cyclic.cyclic.ok.0, c.args.nodes.now.ok.0)

pub object_fault-loop-index-preserved : goal.object_fault-loop-index-preserved
object_fault-loop-index-preserved t c rise =
    let stored = map plain_stored c.args.judge.now.stored.now in
    let last = c.args.judge.now.last in
    let ns = c.args.nodes.now.items in
    let nodes = plain_nodes ns in
    let scope = names_behind c.args.scope.now in
    let i = c.loop-index.index in
    let n = c.index.result.now in
    let marks = c.in_ok-cyclic.cyclic.items in
    let knows : Node → Bool = (λ (m : Node). are_known nodes (references_named (plain_node m).arguments)) in
    let Of = (λ (m : Node). OfNode stored last c.args.name.now scope nodes (plain_node m)) in
    let below : i < length ns = omega (arith, c.loop-index-test.true, c.len-index-end.ensures, c.args.nodes.now.ok.0) in
    let marked_below : i < length marks = omega (arith, c.in_ok-cyclic.ensures.len) in
    let known : c.index-in-loop-index.result.now ≡ know_named (ids_of nodes) (plain_node n).arguments =
    mapped_at knows ns i n c.index-in-loop-index.result.now below c.index.ensures
    (c.index-in-loop-index.ensures ∙ ap (λ (ks : List Bool). get_or ks i c.index-in-loop-index.result.now) c.in_ok-references.ensures.known)
    ∙ known-is nodes (plain_node n).arguments in
    let mark : c.index-in-loop-index-2.result.now ≡ get_or marks i false =
    get_or_read marks i c.index-in-loop-index-2.result.now marked_below c.index-in-loop-index-2.ensures false in
    subst (IsLeastFault (OneOf Of (take (i + 1) ns))) (sym c.least-fault.ensures)
    (least_more Of ns i n c.loop-index.fault c.in_ok-found.found below c.index.ensures (c.loop-index.invariant rise)
    (c.in_ok-found.ensures nodes (rise_of_node nodes (plain_node n) rise (there_node ns i n below c.index.ensures)) known
    (mark_there last ns i n marks c.index-in-loop-index-2.result.now below c.index.ensures
    (c.in_ok-cyclic.ensures.exact (rise_of_object nodes rise)) mark)))

pub object_fault-returns : goal.object_fault-returns
object_fault-returns t c rise =
    let stored = map plain_stored c.args.judge.now.stored.now in
    let last = c.args.judge.now.last in
    let ns = c.args.nodes.now.items in
    let scope = names_behind c.args.scope.now in
    let Of = (λ (m : Node). OfNode stored last c.args.name.now scope (plain_nodes ns) (plain_node m)) in
    let all : length ns ≤ c.loop-index.index = omega (arith, c.loop-index-test.false, c.len-index-end.ensures, c.args.nodes.now.ok.0) in
    object_least stored last c.args.name.now scope ns c.loop-index.fault
    (subst (λ ms. IsLeastFault (OneOf Of ms) c.loop-index.fault) (take_all c.loop-index.index ns all) (c.loop-index.invariant rise))
