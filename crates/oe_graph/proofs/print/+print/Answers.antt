use Rattle.std.proofs.Common.{◌≡◌, ◌+◌, ◌==◌, ℕ, List, [], ◌∷◌, ◌++◌, map, take, length, sym, ap, ◌∙◌, refl, arith}
use Rattle.std.proofs.lemmas.List.{take_all, length-take}
use Rattle.std.proofs.lemmas.Grind.{take_at_read, common_steps}
use Rattle.serde_json.specs.Data.{no_members, put}
use Rattle.serde_json.specs.View.{view, items_of}
use Rattle.oe_graph.specs.Plain.{plain_arg, plain_named, plain_node, plain_nodes}
use Rattle.oe_graph.specs.Printed.{argument_data, named_data, nodes_data}
use Rattle.oe_graph.specs.declared.tree.Arg.{Arg}
use Rattle.oe_graph.specs.declared.tree.Node.{Node}
use Rattle.oe_graph.proofs.PrintLemmas.{arguments_each, named_last, nodes_last, one_node}
use Rattle.oe_graph.proofs.print.+print.Goals as goal
use Rattle.oe_graph.proofs.PartLemmas.{node_parts}

pub items_json-returns : goal.items_json-returns
items_json-returns t c =
    let full : take c.loop-item.item-index c.deref-item-items.result.now ≡ c.deref-item-items.result.now = take_all _ _ c.loop-item-test.false in
    let all : map view c.loop-item.values.items ≡ map (λ a. argument_data (plain_arg a)) c.args.items.now.items =
    rw (c.loop-item.invariant, full, c.deref-item-items.ensures.value) refl in
    ap items_of all ∙ arguments_each c.args.items.now.items

pub named_json-loop-member-preserved : goal.named_json-loop-member-preserved
named_json-loop-member-preserved t c =
    let xs : List (List ℕ × Arg) = c.deref-member-items.result.now in
    let i = c.loop-member.member-index in
    let x : List ℕ × Arg = c.member-item.result in
    let more : take (i + 1) xs ≡ take i xs ++ x ∷ [] = (take_at_read xs i x c.loop-member-test.true).1 ∙ ap (λ y. take i xs ++ y ∷ []) (sym c.member-item.is) in
    c.in_ok-put.ensures.ok
    ∙ (rw (c.as_str.ensures, c.in_ok-value.ensures, c.loop-member.invariant) refl
    ∙ (sym (named_last (take i xs) x no_members) ∙ sym (ap (λ ys. named_data (plain_named ys) no_members) more)))

pub nodes_json-loop-index-preserved : goal.nodes_json-loop-index-preserved
nodes_json-loop-index-preserved t c =
    let xs : List Node = c.deref-node-items.result.now in
    let i = c.loop-index.index in
    let x : Node = c.node-item.result in
    let r = c.args.result_index in
    let more : take (i + 1) xs ≡ take i xs ++ x ∷ [] = (take_at_read xs i x c.loop-index-test.true).1 ∙ ap (λ y. take i xs ++ y ∷ []) (sym c.node-item.is) in
    let at : 0 + length (take i xs) ≡ i = omega (arith, length-take i xs, c.loop-index-test.true) in
    let same_id : x.id ≡ (plain_node x).id = sym (ap (λ n. n.id) (node_parts x)) in
    c.in_ok-put.ensures.ok
    ∙ (rw (c.as_str.ensures, c.in_ok-value.ensures, c.loop-index.invariant) refl
    ∙ (ap (λ k. put k (one_node (i == r) (plain_node x)) (nodes_data 0 r (plain_nodes (take i xs)) no_members)) same_id
    ∙ (ap (λ j. put (plain_node x).id (one_node (j == r) (plain_node x)) (nodes_data 0 r (plain_nodes (take i xs)) no_members)) (sym at)
    ∙ (sym (nodes_last (take i xs) x 0 r no_members) ∙ sym (ap (λ ys. nodes_data 0 r (plain_nodes ys) no_members) more)))))

pub items_json-loop-item-preserved : goal.items_json-loop-item-preserved
items_json-loop-item-preserved t c = grind (arith, common_steps) steps 2000000

pub named_json-returns : goal.named_json-returns
named_json-returns t c = grind (arith, common_steps) steps 2000000

pub nodes_json-returns : goal.nodes_json-returns
nodes_json-returns t c = grind (arith, common_steps) steps 2000000
