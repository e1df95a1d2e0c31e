use Rattle.std.proofs.Common.{rules, ◌≡◌, [], ◌∷◌, ◌++◌, map, codes, sym, ap, ◌∙◌, append_assoc, arith}
use Rattle.std.proofs.lemmas.Result.{IfOk-weaker}
use Rattle.serde_json.specs.View.{view, members_view}
use Rattle.serde_json.proofs.Views.{Entry}
use Rattle.oe_graph.specs.Tree.{PlainGraph, callback, named_from_list, nodes_from_list}
use Rattle.oe_graph.specs.Built as built
use Rattle.oe_graph.specs.Built.{argument_of, each_argument}
use Rattle.oe_graph.proofs.Depths.{inner_depth, within}
use Rattle.oe_graph.proofs.Finds.{arguments_with, arguments_without, argument_with, argument_without}
use Rattle.oe_graph.proofs.Views.{plain_callback, arguments_each, nodes_each, one_more, one_more_node, is_entry_node}
use Rattle.oe_graph.proofs.build.+graphs.Goals as goal
use Rattle.oe_graph.specs.Plain.{plain_pair}

pub build_argument-build_graph-requires : goal.build_argument-build_graph-requires
build_argument-build_graph-requires t c =
    let deep = inner_depth (codes "process_graph") (view c.args.value.now) (members_view c.in-Some.nodes.now.entries) (sym c.in-Some.ensures) in
    (omega arith, tt)

pub build_argument-returns-in_ok-build_graph-in-Some : goal.build_argument-returns-in_ok-build_graph-in-Some
build_argument-returns-in_ok-build_graph-in-Some t c =
    plain_callback c.in_ok-build_graph-in-Some.field-0
    ∙ (ap (λ (g : PlainGraph). callback g.nodes g.result) c.in_ok-build_graph-in-Some.ensures
    ∙ argument_with (view c.args.value.now) (members_view c.in-Some.nodes.now.entries) c.in-Some.ensures)

pub build_argument-returns-in-None : goal.build_argument-returns-in-None
build_argument-returns-in-None t c =
    IfOk-weaker c.build_value.result _ _ (λ a is. is ∙ argument_without (view c.args.value.now) c.in-None.ensures) c.build_value.ensures

pub build_arguments-build_argument-requires : goal.build_arguments-build_argument-requires
build_arguments-build_argument-requires t c =
    let l = c.loop-key in
    let e : Entry = (c.in-Some.key.now, c.in-Some.member.now) in
    let here = within c.args.members.now.entries l.invariant.0 e c.next.new.self (l.invariant.1 ∙ ap (λ es. l.invariant.0 ++ es) c.in-Some.ensures.steps) in
    (omega arith, tt)

pub build_arguments-loop-key-preserved : goal.build_arguments-loop-key-preserved
build_arguments-loop-key-preserved t c =
    let l = c.loop-key in
    let done = l.invariant.0 in
    let e : Entry = (c.in-Some.key.now, c.in-Some.member.now) in
    let left = c.next.new.self in
    let all : c.args.members.now.entries ≡ done ++ e ∷ left = l.invariant.1 ∙ ap (λ es. done ++ es) c.in-Some.ensures.steps in (
      done ++ e ∷ [],
      all ∙ sym (append_assoc done (e ∷ []) left),
      rw c.in_ok-push.ensures.items (one_more (λ v. argument_of (view v)) l.built.items done c.in_ok-name.name
          c.in_ok-build_argument.field-0 e l.invariant.2 (c.in_ok-name.ensures ∙ c.as_str.ensures.value) c.in_ok-build_argument.ensures),
    )

pub build_arguments-returns : goal.build_arguments-returns
build_arguments-returns t c =
    let l = c.loop-key in
    let all : l.invariant.0 ≡ c.args.members.now.entries = search rules in
    ap named_from_list l.invariant.2 ∙ (arguments_each l.invariant.0 ∙ ap (λ es. each_argument (members_view es)) all)

pub node_arguments-build_arguments-requires : goal.node_arguments-build_arguments-requires
node_arguments-build_arguments-requires t c =
    let deep = inner_depth (codes "arguments") (view c.args.node.now) (members_view c.in-Some.members.now.entries) (sym c.in-Some.ensures) in
    (omega arith, tt)

pub node_arguments-returns-in-Some : goal.node_arguments-returns-in-Some
node_arguments-returns-in-Some t c =
    IfOk-weaker c.build_arguments.result _ _
    (λ v is. is ∙ arguments_with (view c.args.node.now) (members_view c.in-Some.members.now.entries) c.in-Some.ensures) c.build_arguments.ensures

pub node_arguments-returns-in-None : goal.node_arguments-returns-in-None
node_arguments-returns-in-None t c =
    ap (λ vs. named_from_list (map plain_pair vs)) c.new.ensures.items ∙ arguments_without (view c.args.node.now) c.in-None.ensures

pub build_nodes-build_node-requires : goal.build_nodes-build_node-requires
build_nodes-build_node-requires t c =
    let l = c.loop-id in
    let e : Entry = (c.in-Some.id.now, c.in-Some.node.now) in
    let here = within c.args.nodes.now.entries l.invariant.0 e c.next.new.self (l.invariant.1 ∙ ap (λ es. l.invariant.0 ++ es) c.in-Some.ensures.steps) in
    (omega arith, tt)

pub build_nodes-loop-id-preserved : goal.build_nodes-loop-id-preserved
build_nodes-loop-id-preserved t c =
    let l = c.loop-id in
    let done = l.invariant.0 in
    let e : Entry = (c.in-Some.id.now, c.in-Some.node.now) in
    let left = c.next.new.self in
    let all : c.args.nodes.now.entries ≡ done ++ e ∷ left = l.invariant.1 ∙ ap (λ es. done ++ es) c.in-Some.ensures.steps in
    let n = c.in_ok-build_node.field-0 in (
      done ++ e ∷ [],
      all ∙ sym (append_assoc done (e ∷ []) left),
      rw c.in_ok-push.ensures.items (one_more_node l.built.items done n e l.invariant.2
          (is_entry_node n e (c.in_ok-build_node.ensures.id ∙ c.as_str.ensures.value) c.in_ok-build_node.ensures.process
          c.in_ok-build_node.ensures.namespace c.in_ok-build_node.ensures.arguments)),
    )

pub build_nodes-returns : goal.build_nodes-returns
build_nodes-returns t c =
    let l = c.loop-id in
    let all : l.invariant.0 ≡ c.args.nodes.now.entries = search rules in
    ap nodes_from_list l.invariant.2 ∙ (nodes_each l.invariant.0 ∙ ap (λ es. built.nodes_from_data (members_view es)) all)
