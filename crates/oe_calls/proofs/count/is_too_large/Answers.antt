use Rattle.std.proofs.Common.{◌≡◌, ◌∙◌, ◌<◌, ◌≤◌, ◌/◌, ◌+◌, ℕ, Bool, true, false, List, [], Some, Contains, inl, inr, length, map, take, get_or, slice_get, refl, sym, ap, subst, true≢false, arith}
use Rattle.std.proofs.lemmas.List.{length-map, take_all, get_or_default}
use Rattle.std.proofs.lemmas.List.Elements.{Contains-push_cases}
use Rattle.oe_graph.specs.Plain.{plain_graph, plain_node, plain_nodes, plain_stored}
use Rattle.oe_graph.specs.References.{each_node}
use Rattle.oe_graph.specs.Tree.{Nodes, PlainGraph, PlainNode, PlainStored}
use Rattle.oe_graph.specs.declared.tree.Node.{Node}
use Rattle.oe_graph.specs.declared.stored.StoredProcess.{StoredProcess}
use Rattle.oe_graph.proofs.PartLemmas.{graph_parts}
use Rattle.oe_order.proofs.Lists.{contains-at, contains-to}
use Rattle.oe_calls.specs.NodeCounts.{total, size_by, fit_nodes}
use Rattle.oe_calls.specs.Reached.{index_at, IsReached}
use Rattle.oe_calls.proofs.Along.{take_pushed}
use Rattle.oe_graph.proofs.ReferenceGraphLemmas.{each_nodes, nodes_next}
use Rattle.oe_graph.proofs.ElementLemmas.{get_below}
use Rattle.oe_calls.proofs.NodeLemmas.{there_node}
use Rattle.oe_calls.proofs.ReadLemmas.{stored_at}
use Rattle.oe_calls.proofs.LargeLemmas.{size, main_large, written_large, reached_large, none_large}
use Rattle.oe_calls.proofs.count.is_too_large.Goals as goal

same_size : (ss : List StoredProcess) (counts items : List ℕ) → counts ≡ items
    → items ≡ map (size_by (map plain_stored ss) (length ss)) (map plain_stored ss)
    → counts ≡ map (size_by (map plain_stored ss) (length (map plain_stored ss))) (map plain_stored ss)
same_size ss counts items is sizes =
    is ∙ sizes ∙ ap (λ k. map (size_by (map plain_stored ss) k) (map plain_stored ss)) (sym (length-map ss plain_stored))

half_place : (place : ℕ) (b : Bool) → index_at place b / 2 ≡ place
half_place place true = omega arith
half_place place false = omega arith

place_of : (stored : List PlainStored) (n : PlainNode) (k : ℕ) (r : IsReached stored n k) → k / 2 ≡ r.has_index.place
place_of stored n k r = ap (λ j. j / 2) r.has_index.is ∙ half_place r.has_index.place r.in_callback

called_is : (ss : List StoredProcess) (p : StoredProcess) (n : PlainNode) (k : ℕ) (r : IsReached (map plain_stored ss) n k)
    → k / 2 < length ss → p ≡ get_or ss (k / 2) p → r.called ≡ plain_stored p
called_is ss p n k r below is =
    let both : Some r.called ≡ Some (plain_stored p) =
    sym r.has_index.is_there ∙ ap (λ j. slice_get (map plain_stored ss) j) (sym (place_of (map plain_stored ss) n k r))
    ∙ stored_at ss (k / 2) p below is in cc

place_below : (ss : List StoredProcess) (n : PlainNode) (k : ℕ) → IsReached (map plain_stored ss) n k → k / 2 < length ss
place_below ss n k r =
    omega (
      arith,
      place_of (map plain_stored ss) n k r,
      get_below (map plain_stored ss) r.has_index.place r.called r.has_index.is_there,
      length-map ss plain_stored,
    )

pub returns-then-total-gt-MOST_NODES : goal.returns-then-total-gt-MOST_NODES
returns-then-total-gt-MOST_NODES c = (
  λ e.
      let stored = map plain_stored c.args.stored.now in
      let g = plain_graph c.args.graph.now in
      let sizes = same_size c.args.stored.now c.as_slice.result.now c.in_ok-counts.counts.items c.as_slice.ensures.value c.in_ok-counts.ensures.sizes in
      let is : c.total.result ≡ total stored (size stored g) g.nodes = c.total.ensures (size stored g) sizes
      ∙ ap (λ (h : PlainGraph). total stored (size stored g) h.nodes) (sym (graph_parts c.args.graph.now)) in
      main_large stored g (omega (arith, c.if-total-gt-MOST_NODES.true, is)),
  λ s. refl,
)

pub returns-then-not-fit_nodes : goal.returns-then-not-fit_nodes
returns-then-not-fit_nodes c = (
  λ e.
      let stored = map plain_stored c.args.stored.now in
      let g = plain_graph c.args.graph.now in
      let sizes = same_size c.args.stored.now c.as_slice-2.result.now c.in_ok-counts.counts.items c.as_slice-2.ensures.value c.in_ok-counts.ensures.sizes in
      let is : c.fit_nodes.result ≡ fit_nodes stored (size stored g) g.nodes = c.fit_nodes.ensures (size stored g) sizes
      ∙ ap (λ (h : PlainGraph). fit_nodes stored (size stored g) h.nodes) (sym (graph_parts c.args.graph.now)) in
      written_large stored g (sym is ∙ c.if-not-fit_nodes.true),
  λ s. refl,
)

pub bounds-stored-index : goal.bounds-stored-index
bounds-stored-index c =
    let xs = c.deref-index-items.result.now in
    let k = get_or xs c.loop-index.index-index 0 in
    let has : Contains xs k = contains-to xs k (contains-at xs c.loop-index.index-index 0 c.loop-index-test.true) in
    place_below c.args.stored.now (plain_node c.node-item.result) k
    (c.in_ok-found.ensures.sound k (subst (λ (ys : List ℕ). Contains ys k) c.deref-index-items.ensures.value has))

pub returns-then-not-fit_nodes-2 : goal.returns-then-not-fit_nodes-2
returns-then-not-fit_nodes-2 c = (
  λ e.
      let stored = map plain_stored c.args.stored.now in
      let g = plain_graph c.args.graph.now in
      let n = plain_node c.node-item.result in
      let ns = c.deref-node-items.result.now in
      let xs = c.deref-index-items.result.now in
      let p = c.index-stored-index.result in
      let k = get_or xs c.loop-index.index-index 0 in
      let has : Contains xs k = contains-to xs k (contains-at xs c.loop-index.index-index 0 c.loop-index-test.true) in
      let r : IsReached stored n k = c.in_ok-found.ensures.sound k
      (subst (λ (ys : List ℕ). Contains ys k) c.deref-index-items.ensures.value has) in
      let sizes = same_size c.args.stored.now c.as_slice-in-loop-index.result.now c.in_ok-counts.counts.items
      c.as_slice-in-loop-index.ensures.value c.in_ok-counts.ensures.sizes in
      let same : r.called ≡ plain_stored p = called_is c.args.stored.now p n k r (place_below c.args.stored.now n k r) c.index-stored-index.is in
      let is : c.fit_nodes-in-loop-index.result ≡ fit_nodes stored (size stored g) r.called.graph.nodes =
      c.fit_nodes-in-loop-index.ensures (size stored g) sizes
      ∙ ap (λ (h : PlainGraph). fit_nodes stored (size stored g) h.nodes) (sym (graph_parts p.graph))
      ∙ ap (λ (s : PlainStored). fit_nodes stored (size stored g) s.graph.nodes) (sym same) in
      let there : Contains (each_node g.nodes) n =
      subst (λ (h : PlainGraph). Contains (each_node h.nodes) n) (sym (graph_parts c.args.graph.now))
      (subst (λ (ms : List Node). Contains (each_node (plain_nodes ms)) n) c.deref-node-items.ensures.value
      (there_node ns c.loop-node.node-index c.node-item.result c.loop-node-test.true c.node-item.is)) in
      reached_large stored g n k there r (sym is ∙ c.if-not-fit_nodes-2.true),
  λ s. refl,
)

pub loop-index-preserved : goal.loop-index-preserved
loop-index-preserved c = λ m k has r.
    let stored = map plain_stored c.args.stored.now in
    let g = plain_graph c.args.graph.now in
    let xs = c.deref-index-items.result.now in
    let i = c.loop-index.index-index in
    let x = get_or xs i 0 in
    let p = c.index-stored-index.result in
    let sizes = same_size c.args.stored.now c.as_slice-in-loop-index.result.now c.in_ok-counts.counts.items
    c.as_slice-in-loop-index.ensures.value c.in_ok-counts.ensures.sizes in
    elim (Contains-push_cases (take i xs) x k (subst (λ (ys : List ℕ). Contains ys k)
    (take_pushed xs i x c.loop-index-test.true (sym (get_or_default xs i x 0 c.loop-index-test.true))) has)) [
      | inl was ↦ c.loop-index.invariant m k was r
      | inr same ↦
          let at : r.called ≡ plain_stored p = called_is c.args.stored.now p m k r (place_below c.args.stored.now m k r)
          (subst (λ j. p ≡ get_or c.args.stored.now (j / 2) p) same c.index-stored-index.is) in
          let is : c.fit_nodes-in-loop-index.result ≡ fit_nodes stored (size stored g) r.called.graph.nodes =
          c.fit_nodes-in-loop-index.ensures (size stored g) sizes
          ∙ ap (λ (h : PlainGraph). fit_nodes stored (size stored g) h.nodes) (sym (graph_parts p.graph))
          ∙ ap (λ (s : PlainStored). fit_nodes stored (size stored g) s.graph.nodes) (sym at) in
          sym is ∙ c.if-not-fit_nodes-2.false
    ]

pub loop-node-preserved : goal.loop-node-preserved
loop-node-preserved c = λ m k has r.
    let stored = map plain_stored c.args.stored.now in
    let ns = c.deref-node-items.result.now in
    let i = c.loop-node.node-index in
    let n = c.node-item.result in
    let xs = c.deref-index-items.result.now in
    let all : length xs ≤ c.loop-index.index-index = omega (arith, c.loop-index-test.false) in
    elim (Contains-push_cases (map plain_node (take i ns)) (plain_node n) m
    (subst (λ (ms : List PlainNode). Contains ms m) (nodes_next ns i n c.loop-node-test.true c.node-item.is) has)) [
      | inl was ↦ c.loop-node.invariant m k was r
      | inr same ↦
          let there = c.in_ok-found.ensures.complete k (subst (λ (o : PlainNode). IsReached stored o k) (sym same) r) in
          c.loop-index.invariant m k
          (subst (λ (ys : List ℕ). Contains ys k)
          (sym c.deref-index-items.ensures.value ∙ sym (take_all c.loop-index.index-index xs all)) there) r
    ]

pub returns : goal.returns
returns c = (
  λ e. absurd (true≢false (sym e)),
  λ stands.
      let stored = map plain_stored c.args.stored.now in
      let g = plain_graph c.args.graph.now in
      let ns = c.deref-node-items.result.now in
      let sizes = same_size c.args.stored.now c.as_slice.result.now c.in_ok-counts.counts.items c.as_slice.ensures.value c.in_ok-counts.ensures.sizes in
      let sizes_2 = same_size c.args.stored.now c.as_slice-2.result.now c.in_ok-counts.counts.items c.as_slice-2.ensures.value c.in_ok-counts.ensures.sizes in
      let counted : c.total.result ≡ total stored (size stored g) g.nodes = c.total.ensures (size stored g) sizes
      ∙ ap (λ (h : PlainGraph). total stored (size stored g) h.nodes) (sym (graph_parts c.args.graph.now)) in
      let fit : c.fit_nodes.result ≡ fit_nodes stored (size stored g) g.nodes = c.fit_nodes.ensures (size stored g) sizes_2
      ∙ ap (λ (h : PlainGraph). fit_nodes stored (size stored g) h.nodes) (sym (graph_parts c.args.graph.now)) in
      let all : length ns ≤ c.loop-node.node-index = omega (arith, c.loop-node-test.false) in
      let nodes : each_node g.nodes ≡ map plain_node (take c.loop-node.node-index ns) =
      ap (λ (h : PlainGraph). each_node h.nodes) (graph_parts c.args.graph.now)
      ∙ ap (λ (ms : List Node). each_node (plain_nodes ms)) (sym c.deref-node-items.ensures.value)
      ∙ each_nodes (map plain_node ns) ∙ ap (map plain_node) (sym (take_all c.loop-node.node-index ns all)) in
      absurd (none_large stored g (omega (arith, c.if-total-gt-MOST_NODES.false, counted)) (sym fit ∙ c.if-not-fit_nodes.false)
      (λ n k has r. c.loop-node.invariant n k (subst (λ (ms : List PlainNode). Contains ms n) nodes has) r) stands),
)
