-- Faults of the processes that the calls of a node reach.
use Rattle.std.proofs.Common.{◌≡◌, ℕ, zero, suc, ◌+◌, ◌*◌, ◌/◌, ◌<◌, ◌≤◌, ◌⊎◌, ◌&&◌, inl, inr, Bool, true, false, List, [], ◌∷◌, ◌++◌, Option, Some, None, Contains, length, slice_get, slice_index_or, if◌then◌else◌, refl, sym, ap, ◌∙◌, subst, true≢false, arith}
use Rattle.std.specs.List.{list_all, find}
use Rattle.std.proofs.lemmas.Bool.{and_parts}
use Rattle.std.proofs.lemmas.List.Elements.{Contains-append_left, Contains-append_right, Contains-append_cases}
use Rattle.oe_dims.specs.Names.{same_name}
use Rattle.oe_graph.specs.References.{each_node}
use Rattle.oe_graph.specs.Tree.{Argument, null, flag, whole, inexact, text, list, object, from_node, from_parameter, callback, ListValues, no_arguments, argument, Named, no_named, named, Nodes, no_nodes, node, PlainNode, PlainStored}
use Rattle.oe_order.specs.Graph as order
use Rattle.oe_calls.specs.Calls as calls
use Rattle.oe_calls.specs.Calls.{callee, means_stored, may_stand, Brings, Calls, CallsReach, HoldsNode, ReachesProcess}
use Rattle.oe_calls.specs.Reached.{held_nodes, held_named, held_in, held_each, held_by, support_nodes, support_named, supports, support_each, supports_node, index_at, back_from, IsIndexOf, IsCalledBehind, IsCallGraph, IsReached, AreReached, AnyRecurs, IsUnsupported, IsRecursive}
use Rattle.oe_graph.specs.Valid.{AreValidStored}
use Rattle.oe_calls.proofs.Along.{first_there, later_there, none_there, there_cases}
use Rattle.oe_graph.proofs.ElementLemmas.{get_below}
use Rattle.oe_calls.proofs.BringLemmas.{nodes_have, named_has, nodes_at, held_brought, brings_more, one_place}

-- ---- tests of all

and_false : (a b : Bool) → a && b ≡ false → (a ≡ false) ⊎ (b ≡ false)
and_false true b is = inr is
and_false false b is = inl refl

all_are : (f : ℕ → Bool) (xs : List ℕ) (k : ℕ) → list_all f xs ≡ true → Contains xs k → f k ≡ true
all_are f [] k holds has = absurd (none_there k has)
all_are f (x ∷ xs) k holds has = elim (there_cases x xs k has) [
  | inl same ↦ subst (λ y. f y ≡ true) same ((and_parts (f x) (list_all f xs) holds).0)
  | inr later ↦ all_are f xs k ((and_parts (f x) (list_all f xs) holds).1) later
]

record Fail (f : ℕ → Bool) (xs : List ℕ) : Type 0 where
  pub one : ℕ
  pub is_there : Contains xs one
  pub fails : f one ≡ false

one_fails : (f : ℕ → Bool) (xs : List ℕ) → list_all f xs ≡ false → Fail f xs
one_fails f [] denied = absurd (true≢false denied)
one_fails f (x ∷ xs) denied = elim (and_false (f x) (list_all f xs) denied) [
  | inl one ↦ record { one = x; is_there = first_there x xs; fails = one }
  | inr later ↦ let o = one_fails f xs later in
      record { one = o.one; is_there = later_there x xs o.one o.is_there; fails = o.fails }
]

-- ---- where a callee stands

found_by : (b : Bool) (x : PlainStored) (xs : List PlainStored) (s : PlainStored) (o : Option PlainStored)
    → (o ≡ Some s → (i : ℕ) × (slice_get xs i ≡ Some s)) → (if b then Some x else o) ≡ Some s
    → (i : ℕ) × (slice_get (x ∷ xs) i ≡ Some s)
found_by true x xs s o rest here = (0, here)
found_by false x xs s o rest later = let at = rest later in (suc at.0, at.1)

found_at : (f : PlainStored → Bool) (xs : List PlainStored) (s : PlainStored) → find f xs ≡ Some s → (i : ℕ) × (slice_get xs i ≡ Some s)
found_at f [] s is = absurd cc
found_at f (x ∷ xs) s is = found_by (f x) x xs s (find f xs) (found_at f xs s) is

pub callee_at : (stored : List PlainStored) (namespace : Option (List ℕ)) (p : List ℕ) (s : PlainStored)
    → callee stored namespace p ≡ Some s → (i : ℕ) × (slice_get stored i ≡ Some s)
callee_at stored namespace p s is = by (means_stored namespace) is
  where
    by : (b : Bool) → (if b then find (λ (t : PlainStored). same_name t.id p) stored else None) ≡ Some s
        → (i : ℕ) × (slice_get stored i ≡ Some s)
    by true here = found_at (λ (t : PlainStored). same_name t.id p) stored s here
    by false none = absurd cc

module _ (stored : List PlainStored) where
  mutual
    nodes_stand : (b : Bool) (ns : Nodes) (p : Bool × PlainNode) → support_nodes stored b ns ≡ true → Contains (held_nodes b ns) p
        → may_stand stored p.0 p.1 ≡ true
    nodes_stand b no_nodes p holds has = absurd (none_there p has)
    nodes_stand b (node id process_id namespace arguments rest) p holds has =
        let n : PlainNode = record { id = id; process_id = process_id; namespace = namespace; arguments = arguments } in
        let both = and_parts (may_stand stored b n && support_named stored arguments) (support_nodes stored b rest) holds in
        let own = and_parts (may_stand stored b n) (support_named stored arguments) both.0 in
        elim (Contains-append_cases (held_by b n) (held_nodes b rest) p has) [
          | inl one ↦ elim (there_cases (b, n) (held_named arguments) p one) [
            | inl same ↦ subst (λ (q : Bool × PlainNode). may_stand stored q.0 q.1 ≡ true) same own.0
            | inr deep ↦ named_stand arguments p own.1 deep
          ]
          | inr later ↦ nodes_stand b rest p both.1 later
        ]

    named_stand : (ms : Named) (p : Bool × PlainNode) → support_named stored ms ≡ true → Contains (held_named ms) p
        → may_stand stored p.0 p.1 ≡ true
    named_stand no_named p holds has = absurd (none_there p has)
    named_stand (named name a rest) p holds has =
        let both = and_parts (supports stored a) (support_named stored rest) holds in
        elim (Contains-append_cases (held_in a) (held_named rest) p has) [
          | inl one ↦ in_stands a p both.0 one
          | inr later ↦ named_stand rest p both.1 later
        ]

    in_stands : (a : Argument) (p : Bool × PlainNode) → supports stored a ≡ true → Contains (held_in a) p
        → may_stand stored p.0 p.1 ≡ true
    in_stands null p holds has = absurd (none_there p has)
    in_stands (flag b) p holds has = absurd (none_there p has)
    in_stands (whole z) p holds has = absurd (none_there p has)
    in_stands inexact p holds has = absurd (none_there p has)
    in_stands (text s) p holds has = absurd (none_there p has)
    in_stands (list rest) p holds has = each_stand rest p holds has
    in_stands (object ms) p holds has = named_stand ms p holds has
    in_stands (from_node id) p holds has = absurd (none_there p has)
    in_stands (from_parameter name) p holds has = absurd (none_there p has)
    in_stands (callback ns result) p holds has = nodes_stand true ns p holds has

    each_stand : (xs : ListValues) (p : Bool × PlainNode) → support_each stored xs ≡ true → Contains (held_each xs) p
        → may_stand stored p.0 p.1 ≡ true
    each_stand no_arguments p holds has = absurd (none_there p has)
    each_stand (argument a rest) p holds has =
        let both = and_parts (supports stored a) (support_each stored rest) holds in
        elim (Contains-append_cases (held_in a) (held_each rest) p has) [
          | inl one ↦ in_stands a p both.0 one
          | inr later ↦ each_stand rest p both.1 later
        ]

  -- one of these nodes may not stand where it does
  record Fails (held : List (Bool × PlainNode)) : Type 0 where
    pub one : Bool × PlainNode
    pub is_there : Contains held one
    pub stands_not : may_stand stored one.0 one.1 ≡ false

  fails_left : (xs ys : List (Bool × PlainNode)) → Fails xs → Fails (xs ++ ys)
  fails_left xs ys f = record { one = f.one; is_there = Contains-append_left xs ys f.one f.is_there; stands_not = f.stands_not }

  fails_right : (xs ys : List (Bool × PlainNode)) → Fails ys → Fails (xs ++ ys)
  fails_right xs ys f = record { one = f.one; is_there = Contains-append_right xs ys f.one f.is_there; stands_not = f.stands_not }

  own_fails : (b : Bool) (n : PlainNode) → (support_named stored n.arguments ≡ false → Fails (held_named n.arguments))
      → supports_node stored b n ≡ false → Fails (held_by b n)
  own_fails b n deep denied = elim (and_false (may_stand stored b n) (support_named stored n.arguments) denied) [
    | inl own ↦ record { one = (b, n); is_there = first_there (b, n) (held_named n.arguments); stands_not = own }
    | inr inner ↦
        let f = deep inner in
        record { one = f.one; is_there = later_there (b, n) (held_named n.arguments) f.one f.is_there; stands_not = f.stands_not }
  ]

  mutual
    nodes_fail : (b : Bool) (ns : Nodes) → support_nodes stored b ns ≡ false → Fails (held_nodes b ns)
    nodes_fail b no_nodes denied = absurd (true≢false denied)
    nodes_fail b (node id process_id namespace arguments rest) denied =
        let n : PlainNode = record { id = id; process_id = process_id; namespace = namespace; arguments = arguments } in
        elim (and_false (supports_node stored b n) (support_nodes stored b rest) denied) [
          | inl own ↦ fails_left (held_by b n) (held_nodes b rest) (own_fails b n (named_fail arguments) own)
          | inr later ↦ fails_right (held_by b n) (held_nodes b rest) (nodes_fail b rest later)
        ]

    named_fail : (ms : Named) → support_named stored ms ≡ false → Fails (held_named ms)
    named_fail no_named denied = absurd (true≢false denied)
    named_fail (named name a rest) denied = elim (and_false (supports stored a) (support_named stored rest) denied) [
      | inl one ↦ fails_left (held_in a) (held_named rest) (in_fails a one)
      | inr later ↦ fails_right (held_in a) (held_named rest) (named_fail rest later)
    ]

    in_fails : (a : Argument) → supports stored a ≡ false → Fails (held_in a)
    in_fails null denied = absurd (true≢false denied)
    in_fails (flag b) denied = absurd (true≢false denied)
    in_fails (whole z) denied = absurd (true≢false denied)
    in_fails inexact denied = absurd (true≢false denied)
    in_fails (text s) denied = absurd (true≢false denied)
    in_fails (list rest) denied = each_fail rest denied
    in_fails (object ms) denied = named_fail ms denied
    in_fails (from_node id) denied = absurd (true≢false denied)
    in_fails (from_parameter name) denied = absurd (true≢false denied)
    in_fails (callback ns result) denied = nodes_fail true ns denied

    each_fail : (xs : ListValues) → support_each stored xs ≡ false → Fails (held_each xs)
    each_fail no_arguments denied = absurd (true≢false denied)
    each_fail (argument a rest) denied = elim (and_false (supports stored a) (support_each stored rest) denied) [
      | inl one ↦ fails_left (held_in a) (held_each rest) (in_fails a one)
      | inr later ↦ fails_right (held_in a) (held_each rest) (each_fail rest later)
    ]

  -- ---- what is brought is held, or held by the graph of the last call

  pub record ByCall (a : Bool) (n : PlainNode) (p : Bool × PlainNode) : Type 0 where
    pub caller : Bool × PlainNode
    pub brings : Brings stored a n caller.0 caller.1
    pub called : PlainStored
    pub calls : callee stored caller.1.namespace caller.1.process_id ≡ Some called
    pub holds : Contains (held_nodes caller.0 called.graph.nodes) p

  pub last_call : {a b : Bool} {n m : PlainNode} → Brings stored a n b m → Contains (held_by a n) (b, m) ⊎ ByCall a n (b, m)
  last_call {a} {b} {n} {m} calls.itself = inl (first_there (b, m) (held_named m.arguments))
  last_call {a} {b} {n} {m} (calls.by_callback {k = k} {g = g} there is_node rest) = elim (last_call rest) [
    | inl has ↦ inl (later_there (a, n) (held_named n.arguments) (b, m) (named_has g k (b, m) is_node has n.arguments there))
    | inr c ↦ inr (record {
      caller = c.caller;
      brings = calls.by_callback there is_node c.brings;
      called = c.called;
      calls = c.calls;
      holds = c.holds;
    })
  ]
  last_call {a} {b} {n} {m} (calls.by_call {k = k} {called = called} is_callee is_node rest) = elim (last_call rest) [
    | inl has ↦ inr (record {
      caller = (a, n);
      brings = calls.itself;
      called = called;
      calls = is_callee;
      holds = nodes_have a called.graph.nodes k (b, m) is_node has;
    })
    | inr c ↦ inr (record {
      caller = c.caller;
      brings = calls.by_call is_callee is_node c.brings;
      called = c.called;
      calls = c.calls;
      holds = c.holds;
    })
  ]

  module _ (links : List order.Node) (supported : List Bool) (graph : IsCallGraph stored links supported) (n : PlainNode)
      (found : List ℕ) (are : AreReached stored n found) where
    pub all_stand : supports_node stored false n ≡ true → list_all (λ k. slice_index_or supported k false) found ≡ true
        → IsUnsupported stored n → ⊥
    all_stand own all u = elim (last_call u.brings) [
      | inl has ↦
          let both = and_parts (may_stand stored false n) (support_named stored n.arguments) own in
          elim (there_cases (false, n) (held_named n.arguments) (u.in_callback, u.brought) has) [
            | inl same ↦ true≢false (sym (subst (λ (q : Bool × PlainNode). may_stand stored q.0 q.1 ≡ true) same both.0) ∙ u.stands_not)
            | inr deep ↦ true≢false (sym (named_stand n.arguments (u.in_callback, u.brought) both.1 deep) ∙ u.stands_not)
          ]
      | inr c ↦
          let at = callee_at stored c.caller.1.namespace c.caller.1.process_id c.called c.calls in
          let there = are.complete (index_at at.0 c.caller.0) (record {
            in_callback = c.caller.0;
            caller = c.caller.1;
            brings = c.brings;
            called = c.called;
            calls = c.calls;
            has_index = record { place = at.0; is_there = at.1; is = refl };
          }) in
          let marked = all_are (λ k. slice_index_or supported k false) found (index_at at.0 c.caller.0) all there in
          true≢false (sym (nodes_stand c.caller.0 c.called.graph.nodes (u.in_callback, u.brought)
          (sym (graph.marked at.0 c.caller.0 c.called at.1) ∙ marked) c.holds) ∙ u.stands_not)
    ]

    pub own_unsupported : supports_node stored false n ≡ false → IsUnsupported stored n
    own_unsupported denied =
        let f = own_fails false n (named_fail n.arguments) denied in
        record {
          in_callback = f.one.0;
          brought = f.one.1;
          brings = held_brought stored false n f.one f.is_there;
          stands_not = f.stands_not;
        }

    pub called_unsupported : list_all (λ k. slice_index_or supported k false) found ≡ false → IsUnsupported stored n
    called_unsupported denied =
        let o = one_fails (λ k. slice_index_or supported k false) found denied in
        let r = are.sound o.one o.is_there in
        let f = nodes_fail r.in_callback r.called.graph.nodes
        (sym (graph.marked r.has_index.place r.in_callback r.called r.has_index.is_there)
        ∙ ap (λ k. slice_index_or supported k false) (sym r.has_index.is) ∙ o.fails) in
        let at = nodes_at stored r.in_callback r.called.graph.nodes f.one f.is_there in
        record {
          in_callback = f.one.0;
          brought = f.one.1;
          brings = brings_more stored r.brings (calls.by_call r.calls at.is_node at.brings);
          stands_not = f.stands_not;
        }
