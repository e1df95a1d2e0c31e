-- What a node brings, and what the calls of it reach by index.
use Rattle.std.proofs.Common.{◌≡◌, ◌≢◌, ℕ, zero, suc, ◌+◌, ◌*◌, ◌<◌, ◌≤◌, ◌⊎◌, ◌||◌, inl, inr, Bool, true, false, List, [], ◌∷◌, ◌++◌, Option, Some, None, Contains, length, get_or, slice_get, take, refl, sym, ap, ◌∙◌, subst, arith}
use Rattle.std.proofs.lemmas.Bool.{cases_lt, or_left, or_right, or_cases}
use Rattle.std.proofs.lemmas.List.{length-take}
use Rattle.std.proofs.lemmas.List.Elements.{Contains-append_left, Contains-append_right, Contains-append_cases}
use Rattle.oe_graph.specs.References.{each_node, callbacks_in, callbacks_each, callbacks_named}
use Rattle.oe_graph.specs.Tree.{Argument, null, flag, whole, inexact, text, list, object, from_node, from_parameter, callback, ListValues, no_arguments, argument, Named, no_named, named, Nodes, no_nodes, node, PlainGraph, PlainNode, PlainStored}
use Rattle.oe_order.specs.Graph as order
use Rattle.oe_order.specs.Graph.{arguments}
use Rattle.oe_order.specs.Order.{contains}
use Rattle.oe_order.specs.Marks.{IsMarked}
use Rattle.oe_order.proofs.Lists.{contains-at, contains-index, kept_index, contains-to, contains-from}
use Rattle.oe_calls.specs.Calls as calls
use Rattle.oe_calls.specs.Calls.{callee, Brings}
use Rattle.oe_calls.specs.Reached.{held_nodes, held_named, held_in, held_each, held_by, index_at, IsIndexOf, IsCalled, HasIndexOf, IsCalledBehind, IsCallGraph, IsReached, AreReached}
use Rattle.oe_graph.specs.Valid.{AreValidStored}
use Rattle.oe_calls.proofs.Along.{first_there, later_there, none_there, there_cases}
use Rattle.oe_graph.proofs.ElementLemmas.{get_below}

-- ---- what the nodes of callbacks hold is held

pub nodes_have : (b : Bool) (ns : Nodes) (k : PlainNode) (p : Bool × PlainNode) → Contains (each_node ns) k
    → Contains (held_by b k) p → Contains (held_nodes b ns) p
nodes_have b no_nodes k p there has = absurd (none_there k there)
nodes_have b (node id process_id namespace arguments rest) k p there has =
    let n : PlainNode = record { id = id; process_id = process_id; namespace = namespace; arguments = arguments } in
    elim (there_cases n (each_node rest) k there) [
      | inl same ↦ Contains-append_left (held_by b n) (held_nodes b rest) p
          (subst (λ (m : PlainNode). Contains (held_by b m) p) (sym same) has)
      | inr later ↦ Contains-append_right (held_by b n) (held_nodes b rest) p (nodes_have b rest k p later has)
    ]

module _ (g : PlainGraph) (k : PlainNode) (p : Bool × PlainNode) (there : Contains (each_node g.nodes) k)
    (has : Contains (held_by true k) p) where
  mutual
    in_has : (a : Argument) → Contains (callbacks_in a) g → Contains (held_in a) p
    in_has null is = absurd (none_there g is)
    in_has (flag b) is = absurd (none_there g is)
    in_has (whole z) is = absurd (none_there g is)
    in_has inexact is = absurd (none_there g is)
    in_has (text s) is = absurd (none_there g is)
    in_has (list rest) is = each_has rest is
    in_has (object ms) is = named_has ms is
    in_has (from_node id) is = absurd (none_there g is)
    in_has (from_parameter name) is = absurd (none_there g is)
    in_has (callback ns result) is = elim (there_cases (record { nodes = ns; result = result }) [] g is) [
      | inl same ↦ nodes_have true ns k p (subst (λ (h : PlainGraph). Contains (each_node h.nodes) k) (sym same) there) has
      | inr later ↦ absurd (none_there g later)
    ]

    each_has : (xs : ListValues) → Contains (callbacks_each xs) g → Contains (held_each xs) p
    each_has no_arguments is = absurd (none_there g is)
    each_has (argument a rest) is = elim (Contains-append_cases (callbacks_in a) (callbacks_each rest) g is) [
      | inl one ↦ Contains-append_left (held_in a) (held_each rest) p (in_has a one)
      | inr later ↦ Contains-append_right (held_in a) (held_each rest) p (each_has rest later)
    ]

    pub named_has : (ms : Named) → Contains (callbacks_named ms) g → Contains (held_named ms) p
    named_has no_named is = absurd (none_there g is)
    named_has (named name a rest) is = elim (Contains-append_cases (callbacks_in a) (callbacks_named rest) g is) [
      | inl one ↦ Contains-append_left (held_in a) (held_named rest) p (in_has a one)
      | inr later ↦ Contains-append_right (held_in a) (held_named rest) p (named_has rest later)
    ]

-- ---- what is held is brought

module _ (stored : List PlainStored) where
  -- a node of one of these callbacks brings this one
  pub record Via (callbacks : List PlainGraph) (p : Bool × PlainNode) : Type 0 where
    pub graph : PlainGraph
    pub is_there : Contains callbacks graph
    pub node : PlainNode
    pub is_node : Contains (each_node graph.nodes) node
    pub brings : Brings stored true node p.0 p.1

  pub record At (b : Bool) (nodes : List PlainNode) (p : Bool × PlainNode) : Type 0 where
    pub node : PlainNode
    pub is_node : Contains nodes node
    pub brings : Brings stored b node p.0 p.1

  via_left : (xs ys : List PlainGraph) (p : Bool × PlainNode) → Via xs p → Via (xs ++ ys) p
  via_left xs ys p v = record {
    graph = v.graph;
    is_there = Contains-append_left xs ys v.graph v.is_there;
    node = v.node;
    is_node = v.is_node;
    brings = v.brings;
  }

  via_right : (xs ys : List PlainGraph) (p : Bool × PlainNode) → Via ys p → Via (xs ++ ys) p
  via_right xs ys p v = record {
    graph = v.graph;
    is_there = Contains-append_right xs ys v.graph v.is_there;
    node = v.node;
    is_node = v.is_node;
    brings = v.brings;
  }

  own_via : (b : Bool) (n : PlainNode) (p : Bool × PlainNode) → (Contains (held_named n.arguments) p → Via (callbacks_named n.arguments) p)
      → Contains (held_by b n) p → Brings stored b n p.0 p.1
  own_via b n p deep has = elim (there_cases (b, n) (held_named n.arguments) p has) [
    | inl same ↦ subst (λ (q : Bool × PlainNode). Brings stored b n q.0 q.1) same calls.itself
    | inr later ↦ let v = deep later in calls.by_callback v.is_there v.is_node v.brings
  ]

  mutual
    pub nodes_at : (b : Bool) (ns : Nodes) (p : Bool × PlainNode) → Contains (held_nodes b ns) p → At b (each_node ns) p
    nodes_at b no_nodes p has = absurd (none_there p has)
    nodes_at b (node id process_id namespace arguments rest) p has =
        let n : PlainNode = record { id = id; process_id = process_id; namespace = namespace; arguments = arguments } in
        elim (Contains-append_cases (held_by b n) (held_nodes b rest) p has) [
          | inl one ↦ record {
            node = n;
            is_node = first_there n (each_node rest);
            brings = own_via b n p (named_via arguments p) one;
          }
          | inr later ↦
              let at = nodes_at b rest p later in
              record { node = at.node; is_node = later_there n (each_node rest) at.node at.is_node; brings = at.brings }
        ]

    pub named_via : (ms : Named) (p : Bool × PlainNode) → Contains (held_named ms) p → Via (callbacks_named ms) p
    named_via no_named p has = absurd (none_there p has)
    named_via (named name a rest) p has = elim (Contains-append_cases (held_in a) (held_named rest) p has) [
      | inl one ↦ via_left (callbacks_in a) (callbacks_named rest) p (in_via a p one)
      | inr later ↦ via_right (callbacks_in a) (callbacks_named rest) p (named_via rest p later)
    ]

    in_via : (a : Argument) (p : Bool × PlainNode) → Contains (held_in a) p → Via (callbacks_in a) p
    in_via null p has = absurd (none_there p has)
    in_via (flag b) p has = absurd (none_there p has)
    in_via (whole z) p has = absurd (none_there p has)
    in_via inexact p has = absurd (none_there p has)
    in_via (text s) p has = absurd (none_there p has)
    in_via (list rest) p has = each_via rest p has
    in_via (object ms) p has = named_via ms p has
    in_via (from_node id) p has = absurd (none_there p has)
    in_via (from_parameter name) p has = absurd (none_there p has)
    in_via (callback ns result) p has =
        let at = nodes_at true ns p has in
        record {
          graph = record { nodes = ns; result = result };
          is_there = first_there (record { nodes = ns; result = result }) [];
          node = at.node;
          is_node = at.is_node;
          brings = at.brings;
        }

    each_via : (xs : ListValues) (p : Bool × PlainNode) → Contains (held_each xs) p → Via (callbacks_each xs) p
    each_via no_arguments p has = absurd (none_there p has)
    each_via (argument a rest) p has = elim (Contains-append_cases (held_in a) (held_each rest) p has) [
      | inl one ↦ via_left (callbacks_in a) (callbacks_each rest) p (in_via a p one)
      | inr later ↦ via_right (callbacks_in a) (callbacks_each rest) p (each_via rest p later)
    ]

  pub held_brought : (b : Bool) (n : PlainNode) (p : Bool × PlainNode) → Contains (held_by b n) p → Brings stored b n p.0 p.1
  held_brought b n p has = own_via b n p (named_via n.arguments p) has

  pub brings_more : {a b c : Bool} {n m k : PlainNode} → Brings stored a n b m → Brings stored b m c k → Brings stored a n c k
  brings_more calls.itself next = next
  brings_more (calls.by_callback there is_node rest) next = calls.by_callback there is_node (brings_more rest next)
  brings_more (calls.by_call called is_node rest) next = calls.by_call called is_node (brings_more rest next)

  module _ (valid : AreValidStored stored) where
    pub one_place : (i j : ℕ) (s : PlainStored) → slice_get stored i ≡ Some s → slice_get stored j ≡ Some s → i ≡ j
    one_place i j s is_i is_j = elim (cases_lt i j) [
      | inl less ↦ absurd (valid.differ i j s s less is_i is_j refl)
      | inr more ↦ elim (cases_lt j i) [
        | inl less ↦ absurd (valid.differ j i s s less is_j is_i refl)
        | inr same ↦ omega arith
      ]
    ]

    pub one_index : (s : PlainStored) (b : Bool) (i j : ℕ) → IsIndexOf stored s b i → IsIndexOf stored s b j → i ≡ j
    one_index s b i j is_i is_j =
        is_i.is ∙ ap (λ place. index_at place b) (one_place is_i.place is_j.place s is_i.is_there is_j.is_there) ∙ sym is_j.is

  -- ---- what is reached

  module _ (links : List order.Node) (supported : List Bool) (graph : IsCallGraph stored links supported) where
    index_below : (place count : ℕ) (b : Bool) → place < count → index_at place b < 2 * count
    index_below place count true below = omega arith
    index_below place count false below = omega arith

    pub reached_within : (n : PlainNode) (index : ℕ) → IsReached stored n index → index < length links
    reached_within n index r =
        let below = index_below r.has_index.place (length stored) r.in_callback
        (get_below stored r.has_index.place r.called r.has_index.is_there) in
        omega (arith, below, r.has_index.is, graph.each)

    pub first_reached : (n : PlainNode) (first : List ℕ) (index : ℕ) → IsCalledBehind stored (held_by false n) [] first
        → Contains first index → IsReached stored n index
    first_reached n first index is has = elim (is.sound index has) [
      | inl old ↦ absurd (none_there index old)
      | inr c ↦ record {
        in_callback = c.caller.0;
        caller = c.caller.1;
        brings = held_brought false n c.caller c.holds;
        called = c.called;
        calls = c.calls;
        has_index = c.has_index;
      }
    ]

    pub next_reached : (n : PlainNode) (index next : ℕ) → IsReached stored n index → Contains (arguments links index) next
        → IsReached stored n next
    next_reached n index next r has =
        let place = r.has_index.place in
        let there : Contains (arguments links (index_at place r.in_callback)) next =
        subst (λ i. Contains (arguments links i) next) r.has_index.is has in
        elim ((graph.linked place r.in_callback r.called r.has_index.is_there).sound next there) [
          | inl old ↦ absurd (none_there next old)
          | inr c ↦
              let at = nodes_at r.in_callback r.called.graph.nodes c.caller c.holds in
              record {
                in_callback = c.caller.0;
                caller = c.caller.1;
                brings = brings_more r.brings (calls.by_call r.calls at.is_node at.brings);
                called = c.called;
                calls = c.calls;
                has_index = c.has_index;
              }
        ]

    module _ (valid : AreValidStored stored) (found : List ℕ)
        (closed : (k j : ℕ) → Contains found k → Contains (arguments links k) j → Contains found j) where
      abbrev Covers : Bool → PlainNode → Type 0
      Covers b n = (p : Bool × PlainNode) (called : PlainStored) → Contains (held_by b n) p
          → callee stored p.1.namespace p.1.process_id ≡ Some called → HasIndexOf stored called p.0 found

      covered : {a b : Bool} {n m : PlainNode} → Brings stored a n b m → Covers a n → Covers b m
      covered calls.itself covers = covers
      covered {a} {b} {n} (calls.by_callback {k = k} {g = g} there is_node rest) covers =
          covered rest (λ p called has is. covers p called
          (later_there (a, n) (held_named n.arguments) p (named_has g k p is_node has n.arguments there)) is)
      covered {a} {b} {n} (calls.by_call {k = k} {called = called} is_callee is_node rest) covers =
          let at = covers (a, n) called (first_there (a, n) (held_named n.arguments)) is_callee in
          covered rest (λ p other has is.
          let one = (graph.linked at.is.place a called at.is.is_there).found p other
          (nodes_have a called.graph.nodes k p is_node has) is in
          record {
            index = one.index;
            has = closed at.index one.index at.has
                (subst (λ i. Contains (arguments links i) one.index) (sym at.is.is) one.has);
            is = one.is;
          })

      pub all_reached : (n : PlainNode) (first : List ℕ) → IsCalledBehind stored (held_by false n) [] first
          → ((k : ℕ) → Contains first k → Contains found k) → (index : ℕ) → IsReached stored n index → Contains found index
      all_reached n first is begun index r =
          let first_covers : Covers false n = (λ p called has calls_it.
          let at = is.found p called has calls_it in
          record { index = at.index; has = begun at.index at.has; is = at.is }) in
          let at = covered r.brings first_covers (r.in_callback, r.caller) r.called
          (first_there (r.in_callback, r.caller) (held_named r.caller.arguments)) r.calls in
          subst (λ i. Contains found i) (one_index valid r.called r.in_callback at.index index at.is r.has_index) at.has
