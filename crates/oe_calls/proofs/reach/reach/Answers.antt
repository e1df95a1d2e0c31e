use Rattle.std.proofs.Common.{◌≡◌, ◌<◌, ◌≤◌, ◌||◌, ℕ, Bool, false, List, [], Contains, length, map, get_or, sym, ap, ◌∙◌, subst, inl, inr, arith}
use Rattle.std.proofs.lemmas.List.{get_or_read}
use Rattle.std.proofs.lemmas.List.Sums.{count_by-le-length}
use Rattle.oe_graph.specs.Plain.{plain_node, plain_stored}
use Rattle.oe_graph.specs.Tree.{PlainNode}
use Rattle.oe_graph.specs.declared.stored.StoredProcess.{StoredProcess}
use Rattle.oe_calls.specs.Reached.{held_by, IsCalledBehind, IsReached}
use Rattle.oe_order.specs.Graph.{graph_of, arguments}
use Rattle.oe_order.specs.Order.{contains}
use Rattle.oe_order.proofs.Graphs.{length-graph_of, arguments-graph_of}
use Rattle.oe_order.proofs.Lists.{contains-at, contains-to}
use Rattle.oe_calls.proofs.BringLemmas.{first_reached, next_reached, reached_within}
use Rattle.oe_calls.proofs.ReachingLemmas.{reaching_begin, reaching_more, reaching_all}
use Rattle.oe_calls.proofs.reach.reach.Goals as goal

first_behind : (stored : List StoredProcess) (n : PlainNode) (old new : List ℕ) → old ≡ []
    → IsCalledBehind (map plain_stored stored) (held_by false n) old new
    → IsCalledBehind (map plain_stored stored) (held_by false n) [] new
first_behind stored n old new none is =
    subst (λ (xs : List ℕ). IsCalledBehind (map plain_stored stored) (held_by false n) xs new) none is

pub mark_new-requires-clause-within : goal.mark_new-requires-clause-within
mark_new-requires-clause-within c = λ k e.
    let stored = map plain_stored c.args.stored.now in
    let links = c.args.calls.now.links.items in
    let marks = c.args.calls.now.supported.items in
    let n = plain_node c.args.node.now in
    let has : Contains c.add_node.new.found.items k =
    contains-to c.add_node.new.found.items k (ap (λ ys. contains ys k) (sym c.as_slice.ensures.value) ∙ e) in
    let below : k < length (graph_of links) = reached_within stored (graph_of links) marks c.requires.calls n k
    (first_reached stored (graph_of links) marks c.requires.calls n c.add_node.new.found.items k (first_behind c.args.stored.now n c.new-first.result.items c.add_node.new.found.items c.new-first.ensures.items c.in_ok-add_node.ensures) has) in
    omega (arith, below, length-graph_of links, c.in_ok-marks.ensures.len, c.len.ensures, c.in_ok-marks.marks.ok.0, c.args.calls.now.links.ok.0)

pub loop-done-init : goal.loop-done-init
loop-done-init c =
    let e = c.in_ok-mark_new.ensures in
    let stored = map plain_stored c.args.stored.now in
    let links = c.args.calls.now.links.items in
    let marks = c.args.calls.now.supported.items in
    let n = plain_node c.args.node.now in
    reaching_begin stored (graph_of links) marks c.requires.calls n _ c.add_node.new.found.items _
    (e.len ∙ omega (arith, length-graph_of links, c.in_ok-marks.ensures.len, c.len.ensures, c.in_ok-marks.marks.ok.0, c.args.calls.now.links.ok.0)) e.marked
    (first_behind c.args.stored.now n c.new-first.result.items c.add_node.new.found.items c.new-first.ensures.items c.in_ok-add_node.ensures)
    (λ k. e.found k ∙ ap (λ ys. contains ys k || contains c.as_slice.result.now k) c.new-found.ensures.items
    ∙ ap (λ ys. contains ys k) c.as_slice.ensures.value)

pub loop-done-smaller : goal.loop-done-smaller
loop-done-smaller c =
    let m = c.loop-done.invariant in
    omega (arith, c.len-in-loop-done.ensures, c.loop-done-test.true, c.loop-done.found.ok.0, m.marked.once, m.len, count_by-le-length (λ (b : Bool). b) c.loop-done.marks.items, length-graph_of c.args.calls.now.links.items)

pub index-next-requires : goal.index-next-requires
index-next-requires c =
    let stored = map plain_stored c.args.stored.now in
    let links = c.args.calls.now.links.items in
    let marks = c.args.calls.now.supported.items in
    let xs = c.loop-done.found.items in
    let in' : c.loop-done.done < length xs = omega (arith, c.len-in-loop-done.ensures, c.loop-done-test.true, c.loop-done.found.ok.0) in
    let is : c.index.result.now ≡ get_or xs c.loop-done.done 0 = get_or_read xs c.loop-done.done c.index.result.now in' c.index.ensures 0 in
    let h : get_or xs c.loop-done.done 0 < length (graph_of links) = reached_within stored (graph_of links) marks c.requires.calls
    (plain_node c.args.node.now) (get_or xs c.loop-done.done 0) (c.loop-done.invariant.sound _ (contains-at xs c.loop-done.done 0 in')) in
    omega (arith, h, is, length-graph_of links, c.args.calls.now.links.ok.0)

pub mark_new-requires-in-loop-done-clause-within : goal.mark_new-requires-in-loop-done-clause-within
mark_new-requires-in-loop-done-clause-within c = λ k e.
    let stored = map plain_stored c.args.stored.now in
    let links = c.args.calls.now.links.items in
    let marks = c.args.calls.now.supported.items in
    let n = plain_node c.args.node.now in
    let xs = c.loop-done.found.items in
    let in' : c.loop-done.done < length xs = omega (arith, c.len-in-loop-done.ensures, c.loop-done-test.true, c.loop-done.found.ok.0) in
    let is : c.index.result.now ≡ get_or xs c.loop-done.done 0 = get_or_read xs c.loop-done.done c.index.result.now in' c.index.ensures 0 in
    let from : IsReached stored n (get_or xs c.loop-done.done 0) = c.loop-done.invariant.sound _ (contains-at xs c.loop-done.done 0 in') in
    let h : get_or xs c.loop-done.done 0 < length (graph_of links) = reached_within stored (graph_of links) marks c.requires.calls
    n (get_or xs c.loop-done.done 0) from in
    let named : arguments (graph_of links) c.index.result.now ≡ c.as_slice-in-loop-done.result.now =
    arguments-graph_of links c.index.result.now c.index-next.result.now (omega (arith, h, is, length-graph_of links)) c.index-next.ensures
    ∙ sym c.as_slice-in-loop-done.ensures.value in
    let has : Contains (arguments (graph_of links) (get_or xs c.loop-done.done 0)) k =
    contains-to (arguments (graph_of links) (get_or xs c.loop-done.done 0)) k
    (ap (λ i. contains (arguments (graph_of links) i) k) (sym is) ∙ ap (λ ys. contains ys k) named ∙ e) in
    let below : k < length (graph_of links) = reached_within stored (graph_of links) marks c.requires.calls n k
    (next_reached stored (graph_of links) marks c.requires.calls n (get_or xs c.loop-done.done 0) k from has) in
    omega (arith, below, c.loop-done.invariant.len)

pub loop-done-preserved : goal.loop-done-preserved
loop-done-preserved c =
    let stored = map plain_stored c.args.stored.now in
    let links = c.args.calls.now.links.items in
    let marks = c.args.calls.now.supported.items in
    let n = plain_node c.args.node.now in
    let xs = c.loop-done.found.items in
    let in' : c.loop-done.done < length xs = omega (arith, c.len-in-loop-done.ensures, c.loop-done-test.true, c.loop-done.found.ok.0) in
    let is : c.index.result.now ≡ get_or xs c.loop-done.done 0 = get_or_read xs c.loop-done.done c.index.result.now in' c.index.ensures 0 in
    let h : get_or xs c.loop-done.done 0 < length (graph_of links) = reached_within stored (graph_of links) marks c.requires.calls
    n (get_or xs c.loop-done.done 0) (c.loop-done.invariant.sound _ (contains-at xs c.loop-done.done 0 in')) in
    let named : arguments (graph_of links) c.index.result.now ≡ c.as_slice-in-loop-done.result.now =
    arguments-graph_of links c.index.result.now c.index-next.result.now (omega (arith, h, is, length-graph_of links)) c.index-next.ensures
    ∙ sym c.as_slice-in-loop-done.ensures.value in
    let e = c.in_ok-mark_new-2.ensures in
    reaching_more stored (graph_of links) marks c.requires.calls n c.loop-done.done xs _ c.as_slice-in-loop-done.result.now
    c.loop-done.marks.items _ c.loop-done.invariant in' (ap (arguments (graph_of links)) (sym is) ∙ named) e.len e.marked e.found e.kept

pub returns : goal.returns
returns c =
    let links = c.args.calls.now.links.items in
    reaching_all (map plain_stored c.args.stored.now) (graph_of links) c.args.calls.now.supported.items c.requires.calls
    (plain_node c.args.node.now) c.requires.stored_valid c.loop-done.done c.loop-done.found.items c.loop-done.marks.items c.loop-done.invariant
    (omega (arith, c.len-in-loop-done.ensures, c.loop-done-test.false, c.loop-done.found.ok.0))
