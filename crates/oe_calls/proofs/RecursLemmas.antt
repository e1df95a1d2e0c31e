-- Processes that reach themselves, by index in a callback.
use Rattle.std.proofs.Common.{◌≡◌, ℕ, zero, suc, ◌+◌, ◌*◌, ◌/◌, ◌<◌, ◌≤◌, ◌⊎◌, inl, inr, Bool, true, false, List, [], ◌∷◌, Some, None, Contains, length, slice_get, refl, sym, ap, ◌∙◌, subst, arith}
use Rattle.std.proofs.lemmas.Bool.{cases_lt}
use Rattle.oe_graph.specs.References.{each_node}
use Rattle.oe_graph.specs.Tree.{PlainNode, PlainStored}
use Rattle.oe_order.specs.Graph as order
use Rattle.oe_order.specs.Graph.{arguments, RefersWithin}
use Rattle.oe_calls.specs.Calls as calls
use Rattle.oe_calls.specs.Calls.{callee, Brings, Calls, CallsReach, HoldsNode, ReachesProcess}
use Rattle.oe_calls.specs.Reached.{held_nodes, held_named, held_by, index_at, back_from, IsIndexOf, IsCalledBehind, IsCallGraph, IsReached, AreReached, AnyRecurs, IsRecursive}
use Rattle.oe_graph.specs.Valid.{AreValidStored}
use Rattle.oe_calls.proofs.Along.{first_there, later_there, none_there}
use Rattle.oe_graph.proofs.ElementLemmas.{get_below}
use Rattle.oe_calls.proofs.BringLemmas.{nodes_have, named_has, nodes_at, brings_more, one_index}
use Rattle.oe_calls.proofs.CallFaultLemmas.{callee_at}

-- ---- indices

record Half (index : ℕ) : Type 0 where
  pub place : ℕ
  pub in_callback : Bool
  pub is : index ≡ index_at place in_callback

half : (index : ℕ) → Half index
half zero = record { place = 0; in_callback = false; is = refl }
half (suc index) = let h = half index in next h.place h.in_callback h.is
  where
    next : (place : ℕ) (b : Bool) → index ≡ index_at place b → Half (suc index)
    next place false is = record { place = place; in_callback = true; is = omega (arith, is) }
    next place true is = record { place = place + 1; in_callback = false; is = omega (arith, is) }

pub back_at : (place : ℕ) (b : Bool) → back_from (index_at place b) ≡ index_at place true
back_at place false = omega arith
back_at place true = omega arith

no_arguments_past : (xs : List order.Node) (k : ℕ) → length xs ≤ k → arguments xs k ≡ []
no_arguments_past [] k more = refl
no_arguments_past (x ∷ xs) zero more = absurd (omega arith)
no_arguments_past (x ∷ xs) (suc k) more = no_arguments_past xs k (omega arith)

module _ (stored : List PlainStored) where
  -- ---- calls of nodes and what they bring

  pub stays : {a b : Bool} {n m : PlainNode} → Brings stored a n b m → a ≡ true → b ≡ true
  stays calls.itself is = is
  stays (calls.by_callback there is_node rest) is = stays rest refl
  stays (calls.by_call called is_node rest) is = stays rest is

  -- a node that is called from a node of a stored process
  pub from_process : (s t : PlainStored) (k : PlainNode) → Contains (each_node s.graph.nodes) k → CallsReach stored k t
      → ReachesProcess stored s t
  from_process s t k is_node (calls.directly c) = calls.calls is_node c
  from_process s t k is_node (calls.onwards c r) = calls.onwards is_node c r

  held_calls : {n k : PlainNode} {t : PlainStored} → ((m : PlainNode) → HoldsNode k m → HoldsNode n m) → Calls stored k t → Calls stored n t
  held_calls more c = record { caller = c.caller; holds = more c.caller c.holds; calls = c.calls }

  held_reach : {n k : PlainNode} {t : PlainStored} → ((m : PlainNode) → HoldsNode k m → HoldsNode n m) → CallsReach stored k t
      → CallsReach stored n t
  held_reach more (calls.directly c) = calls.directly (held_calls more c)
  held_reach more (calls.onwards c r) = calls.onwards (held_calls more c) r

  pub brings_calls : {a b : Bool} {n m : PlainNode} {t : PlainStored} → Brings stored a n b m
      → callee stored m.namespace m.process_id ≡ Some t → CallsReach stored n t
  brings_calls {m = m} calls.itself is = calls.directly (record { caller = m; holds = calls.itself; calls = is })
  brings_calls (calls.by_callback there is_node rest) is =
      held_reach (λ h holds. calls.by_callback there is_node holds) (brings_calls rest is)
  brings_calls {n = n} {t = t} (calls.by_call {k = k} {called = called} is_callee is_node rest) is =
      calls.onwards (record { caller = n; holds = calls.itself; calls = is_callee })
      (from_process called t k is_node (brings_calls rest is))

  -- ---- and back

  record Brought (a : Bool) (n : PlainNode) (t : PlainStored) : Type 0 where
    pub in_callback : Bool
    pub caller : PlainNode
    pub brings : Brings stored a n in_callback caller
    pub calls : callee stored caller.namespace caller.process_id ≡ Some t

  holds_brings : {n m : PlainNode} (a : Bool) → HoldsNode n m → (b : Bool) × Brings stored a n b m
  holds_brings a calls.itself = (a, calls.itself)
  holds_brings a (calls.by_callback there is_node rest) =
      let r = holds_brings true rest in (r.0, calls.by_callback there is_node r.1)

  calls_brought : (a : Bool) (n : PlainNode) (t : PlainStored) → Calls stored n t → Brought a n t
  calls_brought a n t c =
      let r = holds_brings a c.holds in
      record { in_callback = r.0; caller = c.caller; brings = r.1; calls = c.calls }

  through : {a b : Bool} {n m k : PlainNode} {s t : PlainStored} → Brings stored a n b m → callee stored m.namespace m.process_id ≡ Some s
      → Contains (each_node s.graph.nodes) k → Brought b k t → Brought a n t
  through brings is is_node r = record {
    in_callback = r.in_callback;
    caller = r.caller;
    brings = brings_more stored brings (calls.by_call is is_node r.brings);
    calls = r.calls;
  }

  -- what reaches is brought by a node of the process
  reaches_brought : (a : Bool) (n m : PlainNode) (b : Bool) {s t : PlainStored} → Brings stored a n b m
      → callee stored m.namespace m.process_id ≡ Some s → ReachesProcess stored s t → Brought a n t
  reaches_brought a n m b {s} {t} brings is (calls.calls {n = k} is_node c) = through brings is is_node (calls_brought b k t c)
  reaches_brought a n m b {s} {t} brings is (calls.onwards {t = u} {n = k} is_node c r) =
      let first = through brings is is_node (calls_brought b k u c) in
      reaches_brought a n first.caller first.in_callback first.brings first.calls r

  reach_brought : (n : PlainNode) (t : PlainStored) → CallsReach stored n t → Brought false n t
  reach_brought n t (calls.directly c) = calls_brought false n t c
  reach_brought n t (calls.onwards {called = s} c r) =
      let first = calls_brought false n s c in
      reaches_brought false n first.caller first.in_callback first.brings first.calls r

  module _ (links : List order.Node) (supported : List Bool) (graph : IsCallGraph stored links supported) where
    below_place : (place : ℕ) (b : Bool) → index_at place b < 2 * length stored → place < length stored
    below_place place true below = omega arith
    below_place place false below = omega arith

    below_index : (place : ℕ) (b : Bool) → place < length stored → index_at place b < 2 * length stored
    below_index place true below = omega arith
    below_index place false below = omega arith

    stored_there : {X : Type 0} (xs : List X) (i : ℕ) → i < length xs → (x : X) × (slice_get xs i ≡ Some x)
    stored_there [] i below = absurd (omega arith)
    stored_there (x ∷ xs) zero below = (x, refl)
    stored_there (x ∷ xs) (suc i) below = stored_there xs i (omega arith)

    pub refers_within : RefersWithin links
    refers_within a b has = elim (cases_lt a (length links)) [
      | inl less ↦
          let h = half a in
          let at = stored_there stored h.place
          (below_place h.place h.in_callback (omega (arith, less, h.is, graph.each))) in
          elim ((graph.linked h.place h.in_callback at.0 at.1).sound b (subst (λ k. Contains (arguments links k) b) h.is has)) [
            | inl old ↦ absurd (none_there b old)
            | inr c ↦
                let below = below_index c.has_index.place c.caller.0 (get_below stored c.has_index.place c.called c.has_index.is_there) in
                omega (arith, below, c.has_index.is, graph.each)
          ]
      | inr more ↦ absurd (none_there b (subst (λ (xs : List ℕ). Contains xs b) (no_arguments_past links a more) has))
    ]

    pub pairs_within : (n : PlainNode) (found : List ℕ) → AreReached stored n found → (k : ℕ) → Contains found k
        → back_from k < length links
    pairs_within n found are k has =
        let r = are.sound k has in
        let below = below_index r.has_index.place true (get_below stored r.has_index.place r.called r.has_index.is_there) in
        omega (arith, below, ap back_from r.has_index.is, back_at r.has_index.place r.in_callback, graph.each)

    -- ---- by index

    record Reaching (s : PlainStored) (index : ℕ) : Type 0 where
      pub process : PlainStored
      pub has_index : IsIndexOf stored process true index
      pub reaches : ReachesProcess stored s process

    refers_reaches : (s : PlainStored) (i j : ℕ) → IsIndexOf stored s true i → Contains (arguments links i) j → Reaching s j
    refers_reaches s i j at has =
        elim ((graph.linked at.place true s at.is_there).sound j (subst (λ k. Contains (arguments links k) j) at.is has)) [
          | inl old ↦ absurd (none_there j old)
          | inr c ↦
              let node = nodes_at stored true s.graph.nodes c.caller c.holds in
              record {
                process = c.called;
                has_index = subst (λ b. IsIndexOf stored c.called b j) (stays node.brings refl) c.has_index;
                reaches = from_process s c.called node.node node.is_node (brings_calls node.brings c.calls);
              }
        ]

    reaches_on : {s t u : PlainStored} → ReachesProcess stored s t → ReachesProcess stored t u → ReachesProcess stored s u
    reaches_on (calls.calls is_node c) r = calls.onwards is_node c r
    reaches_on (calls.onwards is_node c q) r = calls.onwards is_node c (reaches_on q r)

    by_index : (s : PlainStored) (i j : ℕ) → IsIndexOf stored s true i → order.Reaches links i j → Reaching s j
    by_index s i j at (order.refers has) = refers_reaches s i j at has
    by_index s i j at (order.onwards {b = k} has rest) =
        let one = refers_reaches s i k at has in
        let last = by_index one.process k j one.has_index rest in
        record { process = last.process; has_index = last.has_index; reaches = reaches_on one.reaches last.reaches }

    same_process : (s t : PlainStored) (i : ℕ) → IsIndexOf stored s true i → IsIndexOf stored t true i → s ≡ t
    same_process s t i at other =
        let same : at.place ≡ other.place = omega (arith, at.is, other.is) in
        let both : Some s ≡ Some t = sym at.is_there ∙ ap (λ k. slice_get stored k) same ∙ other.is_there in cc

    pub recursive_by : (n : PlainNode) (found : List ℕ) → AreReached stored n found → AnyRecurs links found → IsRecursive stored n
    recursive_by n found are any =
        let r = are.sound any.index any.is_there in
        let i = back_from any.index in
        let at : IsIndexOf stored r.called true i = record {
          place = r.has_index.place;
          is_there = r.has_index.is_there;
          is = ap back_from r.has_index.is ∙ back_at r.has_index.place r.in_callback;
        } in
        let back = by_index r.called i i at any.back in
        record {
          reached = r.called;
          calls_reach = brings_calls r.brings r.calls;
          recurs = subst (λ (t : PlainStored). ReachesProcess stored r.called t)
              (sym (same_process r.called back.process i at back.has_index)) back.reaches;
        }

    module _ (valid : AreValidStored stored) where
      holds_held : {n m : PlainNode} → HoldsNode n m → Contains (held_by true n) (true, m)
      holds_held {n} {m} calls.itself = first_there (true, m) (held_named m.arguments)
      holds_held {n} {m} (calls.by_callback {k = h} {g = g} there is_node rest) =
          later_there (true, n) (held_named n.arguments) (true, m)
          (named_has g h (true, m) is_node (holds_held rest) n.arguments there)

      -- where a process stands in a callback, so do its calls
      index_of_call : (s t : PlainStored) (k : PlainNode) (i : ℕ) → IsIndexOf stored s true i → Contains (each_node s.graph.nodes) k
          → Calls stored k t → (j : ℕ) × (Contains (arguments links i) j) × IsIndexOf stored t true j
      index_of_call s t k i at is_node c =
          let held = holds_held c.holds in
          let one = (graph.linked at.place true s at.is_there).found (true, c.caller) t
          (nodes_have true s.graph.nodes k (true, c.caller) is_node held) c.calls in
          (one.index, subst (λ m. Contains (arguments links m) one.index) (sym at.is) one.has, one.is)

      to_index : (s t : PlainStored) (i : ℕ) → IsIndexOf stored s true i → ReachesProcess stored s t
          → (j : ℕ) × (order.Reaches links i j) × IsIndexOf stored t true j
      to_index s t i at (calls.calls {n = k} is_node c) =
          let one = index_of_call s t k i at is_node c in (one.0, order.refers one.1, one.2)
      to_index s t i at (calls.onwards {t = u} {n = k} is_node c r) =
          let one = index_of_call s u k i at is_node c in
          let last = to_index u t one.0 one.2 r in
          (last.0, order.onwards one.1 last.1, last.2)

      pub recursive_any : (n : PlainNode) (found : List ℕ) → AreReached stored n found → IsRecursive stored n → AnyRecurs links found
      recursive_any n found are is =
          let b = reach_brought n is.reached is.calls_reach in
          let place = callee_at stored b.caller.namespace b.caller.process_id is.reached b.calls in
          let i = index_at place.0 true in
          let at : IsIndexOf stored is.reached true i = record { place = place.0; is_there = place.1; is = refl } in
          let back = to_index is.reached is.reached i at is.recurs in
          let same : back.0 ≡ i = one_index stored valid is.reached true back.0 i back.2 at in
          let index = index_at place.0 b.in_callback in
          let from : back_from index ≡ i = back_at place.0 b.in_callback in
          record {
            index = index;
            is_there = are.complete index (record {
              in_callback = b.in_callback;
              caller = b.caller;
              brings = b.brings;
              called = is.reached;
              calls = b.calls;
              has_index = record { place = place.0; is_there = place.1; is = refl };
            });
            back = subst (λ k. order.Reaches links k k) (sym from)
                (subst (λ j. order.Reaches links i j) same back.1);
          }
