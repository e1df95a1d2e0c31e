-- A walk over sorted nodes: what one more node that is judged makes of what was found so far, and what stands at the end.
use Rattle.std.proofs.Common.{◌≡◌, ◌≢◌, ◌⊎◌, inl, inr, ℕ, ◌+◌, ◌<◌, ◌≤◌, Bool, true, false, if◌then◌else◌, List, length, set, slice_get, Contains, Option, Some, None, refl, sym, ap, ◌∙◌, subst, arith}
use Rattle.std.specs.Prelude.{slice_index}
use Rattle.std.proofs.lemmas.Bool.{cases_eq}
use Rattle.std.proofs.lemmas.Grind.{get_or_default_zero}
use Rattle.std.proofs.lemmas.List.Elements.{Contains-get_or}
use Rattle.std.proofs.lemmas.Option.{slice_get-get_or}
use Rattle.oe_graph.specs.Faults.{IsLeastFault, is_before, least}
use Rattle.oe_graph.specs.Indices.{AreNodesSorted}
use Rattle.oe_graph.specs.Printed.{node_count}
use Rattle.oe_graph.specs.States.{AreSeenBelow, AreSound, IsNodeAt, IsState, IsStep, IsWalked, StandsSeen, state_at}
use Rattle.oe_graph.specs.Tree.{Nodes, PlainNode}
use Rattle.oe_graph.specs.declared.fault.Fault.{Fault}
use Rattle.oe_graph.specs.declared.node_state.NodeState.{NodeState}
use Rattle.oe_graph.specs.declared.node_state.NodeState.TheVariants.{Unseen, Faulty, Sound}
use Rattle.oe_graph.proofs.LeastLemmas.{IsLeastFault-iff, IsLeastFault-least, Either}
use Rattle.oe_graph.proofs.ReferenceGraphLemmas.{reference_count}
use Rattle.oe_graph.proofs.StateLemmas.{faulty_known, seen_stays, set_here, set_other, sound_known, sound_not_faulty, sound_state, unseen_not_faulty, within_nodes}

-- ---- one step after the other

-- the walk has come to a step: the nodes before it were judged, and the others were not
pub record IsWalkedTo {Kept : Type 0} (nodes : Nodes) (indices : List ℕ) (step : ℕ) (states : List (NodeState Kept)) : Type 0 where
  pub as_many : length states ≡ node_count nodes
  pub seen : (j : ℕ) → j < step → state_at states (slice_index indices j) ≢ Unseen
  pub unseen : (j : ℕ) → step ≤ j → j < length indices → state_at states (slice_index indices j) ≡ Unseen

module _ {Kept : Type 0} (nodes : Nodes) (indices : List ℕ) where
  pub walked_first : (states : List (NodeState Kept)) → length states ≡ node_count nodes
      → ((k : ℕ) → state_at states k ≡ Unseen) → IsWalkedTo nodes indices 0 states
  walked_first states long unseen = record {
    as_many = long;
    seen = λ j below. absurd (omega arith);
    unseen = λ j from below. unseen (slice_index indices j);
  }

  module _ (are : AreNodesSorted nodes indices) (step : ℕ) (states : List (NodeState Kept)) (r : IsWalkedTo nodes indices step states) where
    module _ (below : step < length indices) where
      pub step_within : slice_index indices step < node_count nodes
      step_within =
          subst (λ count. slice_index indices step < count) (reference_count nodes)
          (are.sorted.within (slice_index indices step) (Contains-get_or indices step 0 below))

      pub step_below : AreSeenBelow nodes states (slice_index indices step)
      step_below k has =
          let one = are.sorted.behind step k below has in
          subst (λ i. state_at states i ≢ Unseen) one.2 (r.seen one.0 one.1)

      pub walked_next : (after : List (NodeState Kept)) → length after ≡ node_count nodes
          → IsStep (slice_index indices step) states after → IsWalkedTo nodes indices (step + 1) after
      walked_next after long s = record {
        as_many = long;
        seen = λ j under. seen_by j under (cases_eq j step);
        unseen = λ j from under.
            s.others (slice_index indices j) (λ e. are.sorted.once step j (omega arith) under (sym e)) ∙ r.unseen j (omega arith) under;
      }
        where
          seen_by : (j : ℕ) → j < step + 1 → (j ≡ step) ⊎ (j ≢ step) → state_at after (slice_index indices j) ≢ Unseen
          seen_by j under (inl same) u = s.seen (ap (λ i. state_at after (slice_index indices i)) (sym same) ∙ u)
          seen_by j under (inr other) u =
              let before : j < step = omega arith in
              r.seen j before (sym (s.others (slice_index indices j) (are.sorted.once j step before below)) ∙ u)

    pub walked_last : length indices ≤ step → (k : ℕ) (n : PlainNode) → IsNodeAt nodes k n → state_at states k ≢ Unseen
    walked_last all k n at =
        let has = are.all k (within_nodes nodes k n at) in
        let is : slice_index indices has.0 ≡ k = sym (get_or_default_zero indices has.0 k has.1) ∙ has.2 in
        let before : has.0 < step = omega (arith, has.1) in
        subst (λ i. state_at states i ≢ Unseen) is (r.seen has.0 before)

-- ---- what was found

least_some : (found : Option Fault) (fault : Fault) → least found (Some fault) ≡ None → ⊥
least_some None fault e = absurd cc
least_some (Some f) fault e = by (is_before fault f) e
  where
    by : (b : Bool) → (if b then Some fault else Some f) ≡ None → ⊥
    by true e = absurd cc
    by false e = absurd cc

module _ {Kept : Type 0} (IsSound : List ℕ → Type 0) (IsSoundOf : List ℕ → Kept → Type 0) (Stands : List ℕ → Fault → Type 0)
    (nodes : Nodes) where
  -- ---- one node

  module _ (states : List (NodeState Kept)) (found : Option Fault) (w : IsWalked IsSound IsSoundOf Stands nodes states found)
      (index : ℕ) (n : PlainNode) (at : IsNodeAt nodes index n) (within : index < length states) where
    spread : (s : NodeState Kept) → IsState IsSound IsSoundOf n.id s → (k : ℕ) (m : PlainNode) → IsNodeAt nodes k m
        → IsState IsSound IsSoundOf m.id (state_at (set states index s) k)
    spread s here k m m_at = split (cases_eq k index)
      where
        split : (k ≡ index) ⊎ (k ≢ index) → IsState IsSound IsSoundOf m.id (state_at (set states index s) k)
        split (inl e) =
            let moved : IsNodeAt nodes index m = subst (λ j. IsNodeAt nodes j m) e m_at in
            let same : n ≡ m = cc in
            let is_s : s ≡ state_at (set states index s) k = sym (ap (state_at (set states index s)) e ∙ set_here states index s within) in
            subst (λ (x : PlainNode). IsState IsSound IsSoundOf x.id (state_at (set states index s) k)) same
            (subst (IsState IsSound IsSoundOf n.id) is_s here)
        split (inr other) =
            subst (IsState IsSound IsSoundOf m.id) (sym (set_other states index s k other)) (w.each k m m_at)

    -- a fault that stands at a node that is seen then stood before, or stands at the new one
    which : (s : NodeState Kept) (fault : Fault) → StandsSeen Stands nodes (set states index s) fault
        → StandsSeen Stands nodes states fault ⊎ Stands n.id fault
    which s fault stands = split (cases_eq stands.index index)
      where
        split : (stands.index ≡ index) ⊎ (stands.index ≢ index) → StandsSeen Stands nodes states fault ⊎ Stands n.id fault
        split (inl e) =
            let moved : IsNodeAt nodes index stands.node = subst (λ j. IsNodeAt nodes j stands.node) e stands.is_node in
            let same : stands.node ≡ n = cc in
            inr (subst (λ (x : PlainNode). Stands x.id fault) same stands.stands)
        split (inr other) = inl (record {
          index = stands.index;
          node = stands.node;
          is_node = stands.is_node;
          seen = λ e. stands.seen (set_other states index s stands.index other ∙ e);
          stands = stands.stands;
        })

    still : (s : NodeState Kept) (fault : Fault) → s ≢ Unseen → StandsSeen Stands nodes states fault
        → StandsSeen Stands nodes (set states index s) fault
    still s fault known_s stands = record {
      index = stands.index;
      node = stands.node;
      is_node = stands.is_node;
      seen = seen_stays states index s stands.index within known_s stands.seen;
      stands = stands.stands;
    }

    -- where no fault stands at the new node
    same_least : (s : NodeState Kept) (o : Option Fault) → s ≢ Unseen → ((fault : Fault) → Stands n.id fault → ⊥)
        → IsLeastFault (StandsSeen Stands nodes states) o → IsLeastFault (StandsSeen Stands nodes (set states index s)) o
    same_least s None known_s nay least_so =
        λ fault stands. elim (which s fault stands) [ inl old ↦ least_so fault old | inr new ↦ nay fault new ]
    same_least s (Some f) known_s nay least_so = (
      still s f known_s least_so.0,
      λ other stands. elim (which s other stands) [ inl old ↦ least_so.1 other old | inr new ↦ absurd (nay other new) ],
    )

    -- where this is the least that stands at the new node
    new_least : (fault : Fault) → IsLeastFault (Stands n.id) (Some fault)
        → IsLeastFault (StandsSeen Stands nodes (set states index Faulty)) (least found (Some fault))
    new_least fault is =
        IsLeastFault-iff (Either (StandsSeen Stands nodes states) (Stands n.id)) (StandsSeen Stands nodes (set states index Faulty))
        (least found (Some fault)) there (λ f s. which Faulty f s)
        (IsLeastFault-least (StandsSeen Stands nodes states) (Stands n.id) found (Some fault) w.least is)
      where
        there : (f : Fault) → Either (StandsSeen Stands nodes states) (Stands n.id) f → StandsSeen Stands nodes (set states index Faulty) f
        there f (inl old) = still Faulty f faulty_known old
        there f (inr new) = record {
          index = index;
          node = n;
          is_node = at;
          seen = λ e. faulty_known (sym (set_here states index Faulty within) ∙ e);
          stands = new;
        }

    -- a node that refers to one with a fault at or below it: where that is so, a fault was found before
    pub walked_below : (IsSound n.id → ⊥) → ((fault : Fault) → Stands n.id fault → ⊥) → (found ≡ None → ⊥)
        → IsWalked IsSound IsSoundOf Stands nodes (set states index Faulty) found
    walked_below unsound nay some = record {
      each = spread Faulty unsound;
      least = same_least Faulty found faulty_known nay w.least;
      all = λ nothing. absurd (some nothing);
    }

    -- a node at which faults stand
    pub walked_faulty : (fault : Fault) → (IsSound n.id → ⊥) → IsLeastFault (Stands n.id) (Some fault)
        → IsWalked IsSound IsSoundOf Stands nodes (set states index Faulty) (least found (Some fault))
    walked_faulty fault unsound is = record {
      each = spread Faulty unsound;
      least = new_least fault is;
      all = λ nothing. absurd (least_some found fault nothing);
    }

    -- a sound node
    pub walked_sound : (kept : Kept) → IsSoundOf n.id kept → ((fault : Fault) → Stands n.id fault → ⊥)
        → IsWalked IsSound IsSoundOf Stands nodes (set states index (Sound kept)) found
    walked_sound kept is nay = record {
      each = spread (Sound kept) is;
      least = same_least (Sound kept) found (sound_known kept) nay w.least;
      all = λ nothing k. split nothing k (cases_eq k index);
    }
      where
        split : found ≡ None → (k : ℕ) → (k ≡ index) ⊎ (k ≢ index) → state_at (set states index (Sound kept)) k ≢ Faulty
        split nothing k (inl same) =
            sound_not_faulty kept (state_at (set states index (Sound kept)) k)
            (ap (state_at (set states index (Sound kept))) same ∙ set_here states index (Sound kept) within)
        split nothing k (inr other) = λ f. w.all nothing k (sym (set_other states index (Sound kept) k other) ∙ f)

  -- ---- before the first step

  pub walked_none : (states : List (NodeState Kept)) → ((k : ℕ) → state_at states k ≡ Unseen)
      → IsWalked IsSound IsSoundOf Stands nodes states None
  walked_none states unseen = record {
    each = λ k n at. subst (IsState IsSound IsSoundOf n.id) (sym (unseen k)) tt;
    least = λ fault stands. stands.seen (unseen stands.index);
    all = λ nothing k. unseen_not_faulty (state_at states k) (unseen k);
  }

  -- ---- after the last step

  -- where no fault was found, each node is sound
  pub all_sound : (states : List (NodeState Kept)) → length states ≡ node_count nodes
      → ((k : ℕ) (n : PlainNode) → IsNodeAt nodes k n → state_at states k ≢ Unseen)
      → IsWalked IsSound IsSoundOf Stands nodes states None → AreSound IsSoundOf nodes states
  all_sound states long seen w k n at =
      let one = sound_state (state_at states k) (seen k n at) (w.all refl k) in
      let within : k < length states = subst (λ c. k < c) (sym long) (within_nodes nodes k n at) in (
        one.0,
        slice_get-get_or states k Unseen within ∙ ap Some one.1,
        subst (IsState IsSound IsSoundOf n.id) one.1 (w.each k n at),
      )
