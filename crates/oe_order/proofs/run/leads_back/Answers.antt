use Rattle.std.proofs.Common.{◌≡◌, ℕ, ◌<◌, ◌≤◌, ◌+◌, ◌||◌, Bool, true, false, List, length, get_or, take, sym, ap, ◌∙◌, inl, inr, arith}
use Rattle.std.specs.List.{Contains}
use Rattle.std.proofs.lemmas.Bool.{or_left, or_right, or_cases, cases_lt}
use Rattle.std.proofs.lemmas.List.{get_or_read, length-take}
use Rattle.oe_order.specs.Graph.{Node, graph_of, arguments, Reaches, refers, onwards}
use Rattle.oe_order.specs.Order.{contains}
use Rattle.oe_order.specs.Marks.{IsMarked}
use Rattle.oe_order.proofs.Graphs.{length-graph_of, arguments-graph_of}
use Rattle.oe_order.proofs.Lists.{contains-at, contains-index, kept_index, contains-to, contains-from}
use Rattle.oe_order.proofs.Reach.{Reaches-push, Reaches-within, closed_has}
use Rattle.std.proofs.lemmas.List.Sums.{count_by-le-length}
use Rattle.oe_order.proofs.run.leads_back.Invariants.{Leads}
use Rattle.oe_order.proofs.run.leads_back.Goals as goal

Leads-begin : (nodes : List Node) (from : ℕ) (found named : List ℕ) (marks : List Bool) → length marks ≡ length nodes → IsMarked marks found →
    arguments nodes from ≡ named → ((n : ℕ) → contains found n ≡ contains named n) → Leads nodes from 0 found marks
Leads-begin nodes from found named marks long marked is has = record {
  len = long;
  marked = marked;
  begun = λ a e. has a ∙ (ap (λ ys. contains ys a) (sym is) ∙ e);
  sound = λ n e. refers (contains-to (arguments nodes from) n (ap (λ ys. contains ys n) is ∙ (sym (has n) ∙ e)));
  behind = omega arith;
  closed = λ k a h. absurd (omega arith);
}

Leads-more : (nodes : List Node) (from done : ℕ) (found new named : List ℕ) (marks after : List Bool) → Leads nodes from done found marks →
    done < length found → arguments nodes (get_or found done 0) ≡ named → length after ≡ length marks → IsMarked after new →
    ((n : ℕ) → contains new n ≡ contains found n || contains named n) → take (length found) new ≡ found →
    Leads nodes from (done + 1) new after
Leads-more nodes from done found new named marks after s h is long marked has kept = record {
  len = long ∙ s.len;
  marked = marked;
  begun = λ a e. has a ∙ or_left (contains found a) (contains named a) (s.begun a e);
  sound = λ n e. elim (or_cases (contains found n) (contains named n) (sym (has n) ∙ e)) [
    | inl q ↦ s.sound n q
    | inr q ↦ Reaches-push (s.sound (get_or found done 0) (contains-at found done 0 h))
        (contains-to (arguments nodes (get_or found done 0)) n (ap (λ ys. contains ys n) is ∙ q))
  ];
  behind = omega (arith, ap length kept, length-take (length found) new);
  closed = λ k a lt q. elim (cases_lt k done) [
    | inl lt' ↦ has a ∙ or_left (contains found a) (contains named a)
        (s.closed k a lt' (ap (λ m. contains (arguments nodes m) a) (sym (kept_index found new k kept (omega arith))) ∙ q))
    | inr ge ↦ has a ∙ or_right (contains found a) (contains named a) (let same : k ≡ done = omega arith in
        ap (λ ys. contains ys a) (sym is) ∙ ap (λ m. contains (arguments nodes m) a) (sym (ap (λ i. get_or found i 0) same) ∙ sym (kept_index found new k kept (omega arith))) ∙ q)
  ];
}

Leads-all : (nodes : List Node) (from done n : ℕ) (found : List ℕ) (marks : List Bool) → Leads nodes from done found marks → length found ≤ done →
    Reaches nodes from n → contains found n ≡ true
Leads-all nodes from done n found marks s all r = go r
  where
    closed : (m a : ℕ) → contains found m ≡ true → contains (arguments nodes m) a ≡ true → contains found a ≡ true
    closed m a e q = let at = contains-index found m e in
        s.closed at.0 a (omega (arith, at.1)) (ap (λ i. contains (arguments nodes i) a) at.2 ∙ q)

    go : Reaches nodes from n → contains found n ≡ true
    go (refers h) = s.begun n (contains-from (arguments nodes from) n h)
    go (onwards {b = b} h q) = closed_has found closed q (s.begun b (contains-from (arguments nodes from) b h))

pub mark_new-requires-clause-within : goal.mark_new-requires-clause-within
mark_new-requires-clause-within c = λ n e.
    let nodes = graph_of c.args.nodes.now in
    let named : arguments nodes c.args.node ≡ c.as_slice.result.now = arguments-graph_of c.args.nodes.now c.args.node c.index-nodes-node.result c.requires.node_named c.index-nodes-node.is ∙ sym c.as_slice.ensures.value in
    let lt : n < length nodes = c.requires.named _ n (contains-to (arguments nodes c.args.node) n (ap (λ ys. contains ys n) named ∙ e)) in
    omega (arith, length-graph_of c.args.nodes.now, c.in_ok-marks.ensures.len, c.in_ok-marks.marks.ok.0)

pub loop-done-init : goal.loop-done-init
loop-done-init c =
    let e = c.in_ok-mark_new.ensures in
    let nodes = graph_of c.args.nodes.now in
    let named : arguments nodes c.args.node ≡ c.as_slice.result.now = arguments-graph_of c.args.nodes.now c.args.node c.index-nodes-node.result c.requires.node_named c.index-nodes-node.is ∙ sym c.as_slice.ensures.value in
    Leads-begin nodes c.args.node _ c.as_slice.result.now _ (e.len ∙ omega (arith, length-graph_of c.args.nodes.now, c.in_ok-marks.ensures.len, c.in_ok-marks.marks.ok.0)) e.marked named (λ n. e.found n ∙ ap (λ ys. contains ys n || contains c.as_slice.result.now n) c.in_ok-found.ensures.items)

pub bounds-nodes-index : goal.bounds-nodes-index
bounds-nodes-index c =
    let xs = c.loop-done.found.items in
    let in' : c.loop-done.done < length xs = omega (arith, c.len.ensures, c.loop-done-test.true, c.loop-done.found.ok.0) in
    let is : c.index.result.now ≡ get_or xs c.loop-done.done 0 = get_or_read xs c.loop-done.done c.index.result.now in' c.index.ensures 0 in
    let h : get_or xs c.loop-done.done 0 < length (graph_of c.args.nodes.now) = Reaches-within c.requires.named (c.loop-done.invariant.sound _ (contains-at xs c.loop-done.done 0 in')) in
    omega (arith, length-graph_of c.args.nodes.now)

pub mark_new-requires-in-loop-done-clause-within : goal.mark_new-requires-in-loop-done-clause-within
mark_new-requires-in-loop-done-clause-within c = λ n e.
    let xs = c.loop-done.found.items in
    let nodes = graph_of c.args.nodes.now in
    let in' : c.loop-done.done < length xs = omega (arith, c.len.ensures, c.loop-done-test.true, c.loop-done.found.ok.0) in
    let is : c.index.result.now ≡ get_or xs c.loop-done.done 0 = get_or_read xs c.loop-done.done c.index.result.now in' c.index.ensures 0 in
    let h : get_or xs c.loop-done.done 0 < length nodes = Reaches-within c.requires.named (c.loop-done.invariant.sound _ (contains-at xs c.loop-done.done 0 in')) in
    let named : arguments nodes c.index.result.now ≡ c.as_slice-in-loop-done.result.now = arguments-graph_of c.args.nodes.now c.index.result.now c.index-nodes-index.result (omega (arith, length-graph_of c.args.nodes.now)) c.index-nodes-index.is ∙ sym c.as_slice-in-loop-done.ensures.value in
    let has : Contains (arguments nodes c.index.result.now) n = contains-to (arguments nodes c.index.result.now) n (ap (λ ys. contains ys n) named ∙ e) in
    let lt : n < length nodes = c.requires.named _ n has in
    omega (arith, c.loop-done.invariant.len)

pub loop-done-smaller : goal.loop-done-smaller
loop-done-smaller c =
    let m = c.loop-done.invariant in
    omega (arith, c.len.ensures, c.loop-done-test.true, c.loop-done.found.ok.0, m.marked.once, m.len, count_by-le-length (λ (b : Bool). b) c.loop-done.marks.items, length-graph_of c.args.nodes.now)

pub loop-done-preserved : goal.loop-done-preserved
loop-done-preserved c =
    let xs = c.loop-done.found.items in
    let nodes = graph_of c.args.nodes.now in
    let in' : c.loop-done.done < length xs = omega (arith, c.len.ensures, c.loop-done-test.true, c.loop-done.found.ok.0) in
    let is : c.index.result.now ≡ get_or xs c.loop-done.done 0 = get_or_read xs c.loop-done.done c.index.result.now in' c.index.ensures 0 in
    let h : get_or xs c.loop-done.done 0 < length nodes = Reaches-within c.requires.named (c.loop-done.invariant.sound _ (contains-at xs c.loop-done.done 0 in')) in
    let named : arguments nodes c.index.result.now ≡ c.as_slice-in-loop-done.result.now = arguments-graph_of c.args.nodes.now c.index.result.now c.index-nodes-index.result (omega (arith, length-graph_of c.args.nodes.now)) c.index-nodes-index.is ∙ sym c.as_slice-in-loop-done.ensures.value in
    let e = c.in_ok-mark_new-2.ensures in
    Leads-more nodes c.args.node c.loop-done.done xs _ c.as_slice-in-loop-done.result.now c.loop-done.marks.items _ c.loop-done.invariant in' (ap (arguments nodes) (sym is) ∙ named) e.len e.marked e.found e.kept

pub index-requires-2 : goal.index-requires-2
index-requires-2 c = omega (arith, c.requires.node_named, c.loop-done.invariant.len, length-graph_of c.args.nodes.now, c.loop-done.marks.ok.0)

pub returns : goal.returns
returns c =
    let m = c.loop-done.invariant in
    let nodes = graph_of c.args.nodes.now in
    let in' : c.args.node < length c.loop-done.marks.items = omega (arith, c.requires.node_named, m.len, length-graph_of c.args.nodes.now) in
    let is : c.index-2.result.now ≡ get_or c.loop-done.marks.items c.args.node false = get_or_read c.loop-done.marks.items c.args.node c.index-2.result.now in' c.index-2.ensures false in
    let all : length c.loop-done.found.items ≤ c.loop-done.done = omega (arith, c.len.ensures, c.loop-done-test.false, c.loop-done.found.ok.0) in (
      (λ e. m.sound c.args.node (sym (m.marked.same c.args.node) ∙ (sym is ∙ e))),
      (λ r. is ∙ (m.marked.same c.args.node ∙ Leads-all nodes c.args.node c.loop-done.done c.args.node c.loop-done.found.items c.loop-done.marks.items m all r)),
    )
