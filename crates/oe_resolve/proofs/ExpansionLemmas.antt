-- What stands in a graph after some rounds. Each node is one that the graph brings where it stands, and each callback one
-- that it brings, after some rounds of its own. To a node of a graph itself that still calls a stored process a chain of
-- as many calls leads; so after as many rounds as there are stored processes none does, unless one reaches itself.
use Rattle.std.proofs.Common.{◌&&◌, ◌≡◌, ◌⊎◌, inl, inr, ℕ, zero, suc, ◌+◌, ◌<◌, ◌≤◌, ◌||◌, not, Bool, true, false, if◌then◌else◌, List, [], ◌∷◌, map, length, slice_get, slice_index_or, find, Contains, Decides, Option, Some, None, option_map, refl, sym, ap, ◌∙◌, subst, true≢false, arith}
use Rattle.std.specs.Cmp.{IsEquivalence}
use Rattle.std.specs.List.{IsDistinct, AllByRecursion}
use Rattle.std.specs.Set.{is_member}
use Rattle.std.proofs.lemmas.Bool.{cases_lt}
use Rattle.std.proofs.lemmas.Map.Made.{length-le_from_is_member, is_member-Decides}
use Rattle.oe_dims.specs.Names.{same_name, is_name_before}
use Rattle.oe_dims.proofs.OrderLemmas.{same_name_is, same_name_refl}
use Rattle.oe_graph.specs.References.{each_node, callbacks_named}
use Rattle.oe_graph.specs.Printed.{ids_of, node_count}
use Rattle.oe_graph.specs.Resolved.{IsResolved, IsScopedWithin, most_nodes}
use Rattle.oe_graph.specs.Resolved as resolved_graphs
use Rattle.oe_graph.specs.Tree.{Nodes, no_nodes, node, PlainGraph, PlainNode, PlainStored}
use Rattle.oe_graph.specs.declared.code.Code.{Code}
use Rattle.oe_calls.specs.HasCall.{nodes_call}
use Rattle.oe_calls.specs.Calls.{callee, may_stand, stands_in, holds_fitting, calls_fitting, HoldsNode, itself, by_callback, Calls, ReachesProcess, calls, onwards, CallsReach, directly, Brings, by_call}
use Rattle.oe_calls.specs.Faults.{StandsWithStored, process_unsupported, process_recursive, graph_too_large, callback_too_large, most_main_nodes, most_callback_nodes}
use Rattle.oe_resolve.specs.Defaults.{resolved}
use Rattle.oe_calls.specs.Rounds as rounds
use Rattle.oe_calls.specs.Rounds.{cleared_stored, cleared_graph, under_id, expanded_by, expanded, most_rounds}
use Rattle.oe_graph.specs.Valid.{IsValidGraph, IsValidStored, AreValidStored}
use Rattle.oe_calls.proofs.CountLemmas.{callee_cleared}
use Rattle.oe_calls.proofs.Along.{there_cases, none_there, in_first, later_there, in_map, map_there}
use Rattle.oe_calls.proofs.IdLemmas.{HasNames}
use Rattle.oe_calls.proofs.NodeLemmas.{same_name-turned}
use Rattle.oe_calls.proofs.PlaceLemmas.{Place, places_of, places_of-cleared, places_of-round, put_place, put_places, under_places, opened_places, round_places, length-places_of, NoCalls, no_calls_in, settled_after}
use Rattle.oe_calls.proofs.OrderLemmas.{IsInOrder, HoldsInside, IsStoredInOrder, valid_in_order, cleared_in_order, plain_ordered, cleared_has_names, callee_in, round_is_in_order, each_ordered, each_holding, each_formed, IsOrderedObject, EachObject}
use Rattle.oe_resolve.proofs.ResolvingLemmas.{StandInCatalogue, resolved-is}
use Rattle.oe_calls.proofs.UncalledLemmas.{node_uncalled, within_uncalled}

-- ---- what a node calls among stored processes without dangling references

cleared_none : (o : Option PlainStored) → option_map cleared_stored o ≡ None → o ≡ None
cleared_none None is = refl
cleared_none (Some s) is = absurd cc

record ClearedOf (o : Option PlainStored) (cleared : PlainStored) : Type 0 where
  pub of : PlainStored
  pub is_some : o ≡ Some of
  pub is_cleared : cleared_stored of ≡ cleared

cleared_some : (o : Option PlainStored) (cleared : PlainStored) → option_map cleared_stored o ≡ Some cleared → ClearedOf o cleared
cleared_some None cleared is = absurd cc
cleared_some (Some s) cleared is = record { of = s; is_some = refl; is_cleared = cc }

-- ---- what stands

-- a node of the graph brings one there that calls this
pub record Brought (stored : List PlainStored) (g : PlainGraph) (in_callback : Bool) (namespace : Option (List ℕ)) (p : List ℕ) : Type 0 where
  pub from : PlainNode
  pub has : Contains (each_node g.nodes) from
  pub node : PlainNode
  pub brings : Brings stored false from in_callback node
  pub same_namespace : node.namespace ≡ namespace
  pub same_process : node.process_id ≡ p

-- the calls of the graph lead to a stored process, through so many others
pub data Chained (stored : List PlainStored) (g : PlainGraph) : ℕ → PlainStored → Type 0 where
  first : {n : PlainNode} {s : PlainStored} → Contains (each_node g.nodes) n → Calls stored n s → Chained stored g zero s
  next : {count : ℕ} {n : PlainNode} {s t : PlainStored}
      → Chained stored g count s → Contains (each_node s.graph.nodes) n → Calls stored n t → Chained stored g (suc count) t

-- the nodes of a callback are those of one that the graph brings, after some rounds of its own
pub record Formed (stored : List PlainStored) (g : PlainGraph) (places : List Place) : Type 0 where
  pub from : PlainNode
  pub has : Contains (each_node g.nodes) from
  pub in_callback : Bool
  pub node : PlainNode
  pub brings : Brings stored false from in_callback node
  pub written : PlainGraph
  pub is_written : Contains (callbacks_named node.arguments) written
  pub count : ℕ
  pub is : places ≡ places_of (expanded_by count stored written).nodes

brings_on : (stored : List PlainStored) (a b c : Bool) (n m k : PlainNode) → Brings stored a n b m → Brings stored b m c k
    → Brings stored a n c k
brings_on stored a b c n m k itself more = more
brings_on stored a b c n m k (by_callback {k = h} has_g has_h rest) more =
    by_callback has_g has_h (brings_on stored true b c h m k rest more)
brings_on stored a b c n m k (by_call {k = h} called has_h rest) more =
    by_call called has_h (brings_on stored a b c h m k rest more)

-- in a callback a node brings what it holds
held_brings : (stored : List PlainStored) (h m : PlainNode) → HoldsNode h m → Brings stored true h true m
held_brings stored h m itself = itself
held_brings stored h m (by_callback {k = k} has_g has_k holds) =
    by_callback has_g has_k (held_brings stored k m holds)

module _ (stored : List PlainStored) (g : PlainGraph) where
  -- the nodes of a graph object that stand there, and those in their callbacks
  from_node : (in_callback : Bool) (from k : PlainNode) → Contains (each_node g.nodes) from → Brings stored false from in_callback k
      → Brought stored g in_callback k.namespace k.process_id
  from_node in_callback from k has brings =
      record { from = from; has = has; node = k; brings = brings; same_namespace = refl; same_process = refl }

  formed_node : (in_callback : Bool) (from k : PlainNode) → Contains (each_node g.nodes) from
      → Brings stored false from in_callback k → (written : PlainGraph) → Contains (callbacks_named k.arguments) written
      → Formed stored g (places_of written.nodes)
  formed_node in_callback from k has brings written is_written = record {
    from = from;
    has = has;
    in_callback = in_callback;
    node = k;
    brings = brings;
    written = written;
    is_written = is_written;
    count = 0;
    is = sym (places_of-cleared (ids_of written.nodes) written.nodes);
  }

  inside_node : (in_callback : Bool) (from k : PlainNode) → Contains (each_node g.nodes) from
      → Brings stored false from in_callback k
      → HoldsInside (Brought stored g) (Formed stored g) (callbacks_named k.arguments)
  inside_node in_callback from k has brings inner has_inner = (
    formed_node in_callback from k has brings inner has_inner,
    λ h m has_h holds.
        let brings_m = brings_on stored false in_callback true from k m brings (by_callback has_inner has_h (held_brings stored h m holds)) in (
          from_node true from m has brings_m,
          λ written is_written. formed_node true from m has brings_m written is_written,
        ),
  )

  at_first : IsValidGraph g → IsInOrder (Brought stored g) (Formed stored g) false (cleared_graph g)
  at_first valid =
      cleared_in_order (Brought stored g) (Formed stored g) false g
      (valid_in_order (Brought stored g) (Formed stored g) false g valid
      (λ k has. from_node false k k has itself)
      (λ k has. inside_node false k k has itself))

  module _ (stored_valid : AreValidStored stored) where
    names : (namespace : Option (List ℕ)) (p : List ℕ) (s : PlainStored) → callee (map cleared_stored stored) namespace p ≡ Some s
        → HasNames s
    names namespace p s is =
        let of = cleared_some (callee stored namespace p) s (sym (callee_cleared stored namespace p) ∙ is) in
        subst HasNames of.is_cleared (cleared_has_names of.of (stored_valid.each of.of (callee_in stored namespace p of.of of.is_some)))

    opens : (in_callback : Bool) (namespace : Option (List ℕ)) (p : List ℕ) (s : PlainStored)
        → Brought stored g in_callback namespace p → callee stored namespace p ≡ Some s
        → IsStoredInOrder (Brought stored g) (Formed stored g) in_callback (cleared_stored s)
    opens in_callback namespace p s b is =
        let valid = stored_valid.each s (callee_in stored namespace p s is) in
        let calls_it : callee stored b.node.namespace b.node.process_id ≡ Some s =
        ap (λ x. callee stored x b.node.process_id) b.same_namespace ∙ (ap (callee stored namespace) b.same_process ∙ is) in
        let brings = λ (k : PlainNode) (has : Contains (each_node s.graph.nodes) k).
        brings_on stored false in_callback in_callback b.from b.node k b.brings (by_call calls_it has itself) in
        record {
          nodes = (cleared_in_order (Brought stored g) (Formed stored g) in_callback s.graph
              (valid_in_order (Brought stored g) (Formed stored g) in_callback s.graph valid.graph
              (λ k has. from_node in_callback b.from k b.has (brings k has))
              (λ k has. inside_node in_callback b.from k b.has (brings k has)))).1;
          defaults = λ q a has is_default. plain_ordered (Brought stored g) (Formed stored g) a (valid.plain q a has is_default);
        }

    called : (in_callback : Bool) (namespace : Option (List ℕ)) (p : List ℕ) (s : PlainStored)
        → Brought stored g in_callback namespace p → callee (map cleared_stored stored) namespace p ≡ Some s
        → IsStoredInOrder (Brought stored g) (Formed stored g) in_callback s
    called in_callback namespace p s brought is =
        let of = cleared_some (callee stored namespace p) s (sym (callee_cleared stored namespace p) ∙ is) in
        subst (IsStoredInOrder (Brought stored g) (Formed stored g) in_callback) of.is_cleared
        (opens in_callback namespace p of.of brought of.is_some)

    formed : (ns : Nodes) → Formed stored g (places_of ns)
        → Formed stored g (places_of (rounds.round_nodes (map cleared_stored stored) ns ns no_nodes))
    formed ns is =
        let ms = (expanded_by is.count stored is.written).nodes in
        record {
          from = is.from;
          has = is.has;
          in_callback = is.in_callback;
          node = is.node;
          brings = is.brings;
          written = is.written;
          is_written = is.is_written;
          count = suc is.count;
          is = places_of-round (map cleared_stored stored) ns ns no_nodes
              ∙ (ap (λ ts. round_places (map cleared_stored stored) ts []) is.is
              ∙ sym (places_of-round (map cleared_stored stored) ms ms no_nodes));
        }

    -- the graph after so many rounds is in order, and each of its nodes is brought
    pub expanded_in_order : (times : ℕ) → IsValidGraph g → IsInOrder (Brought stored g) (Formed stored g) false (expanded_by times stored g)
    expanded_in_order zero valid = at_first valid
    expanded_in_order (suc times) valid =
        round_is_in_order (Brought stored g) (Formed stored g) (map cleared_stored stored) names called formed
        false (expanded_by times stored g) (expanded_in_order times valid)

    -- so is each graph object in it
    pub expanded_by-ordered : (times : ℕ) → IsValidGraph g
        → EachObject (λ in_callback nodes result. IsOrderedObject nodes result) (expanded_by times stored g)
    expanded_by-ordered times valid =
        each_ordered (Brought stored g) (Formed stored g) (expanded_by times stored g) (expanded_in_order times valid)

-- ---- a chain leads to each call of a graph itself

-- one of some places calls this
record CallsAt (stored : List PlainStored) (ts : List Place) (s : PlainStored) : Type 0 where
  pub place : Place
  pub has : Contains ts place
  pub calls : callee stored place.2 place.1 ≡ Some s

-- those of the nodes that it calls, or one that was found before
module _ (stored : List PlainStored) (h : PlainGraph) where
  abbrev Leads : ℕ → List Place → Type 0
  Leads count ts = (s : PlainStored) → CallsAt stored ts s → Chained stored h count s

  place_cases : (t : Place) (ts : List Place) (s : PlainStored) → CallsAt stored (t ∷ ts) s
      → (callee stored t.2 t.1 ≡ Some s) ⊎ CallsAt stored ts s
  place_cases t ts s c = elim (there_cases t ts c.place c.has) as (λ _. (callee stored t.2 t.1 ≡ Some s) ⊎ CallsAt stored ts s) [
    | inl same ↦ inl (ap (λ (u : Place). callee stored u.2 u.1) same ∙ c.calls)
    | inr there ↦ inr (record { place = c.place; has = there; calls = c.calls })
  ]

  leads_more : (count : ℕ) (t : Place) (ts : List Place) → ((s : PlainStored) → callee stored t.2 t.1 ≡ Some s → Chained stored h count s)
      → Leads count ts → Leads count (t ∷ ts)
  leads_more count t ts here later s c = elim (place_cases t ts s c) as (λ _. Chained stored h count s) [
    | inl own ↦ here s own
    | inr other ↦ later s other
  ]

  leads_head : (count : ℕ) (t : Place) (ts : List Place) → Leads count (t ∷ ts) → (s : PlainStored) → callee stored t.2 t.1 ≡ Some s
      → Chained stored h count s
  leads_head count t ts each s is = each s (record { place = t; has = in_first t ts t refl; calls = is })

  leads_tail : (count : ℕ) (t : Place) (ts : List Place) → Leads count (t ∷ ts) → Leads count ts
  leads_tail count t ts each s c = each s (record { place = c.place; has = later_there t ts c.place c.has; calls = c.calls })

  put_leads : (before : Bool) (count : ℕ) (t u : Place) (us : List Place)
      → ((s : PlainStored) → callee stored t.2 t.1 ≡ Some s → Chained stored h count s) → Leads count (u ∷ us)
      → Leads count (put_place t us) → Leads count (if before then u ∷ put_place t us else t ∷ u ∷ us)
  put_leads true count t u us here each later = leads_more count u (put_place t us) (leads_head count u us each) later
  put_leads false count t u us here each later = leads_more count t (u ∷ us) here each

  leads_put : (count : ℕ) (t : Place) (us : List Place)
      → ((s : PlainStored) → callee stored t.2 t.1 ≡ Some s → Chained stored h count s) → Leads count us → Leads count (put_place t us)
  leads_put count t [] here each = leads_more count t [] here each
  leads_put count t (u ∷ us) here each =
      put_leads (is_name_before u.0 t.0) count t u us here each (leads_put count t us here (leads_tail count u us each))

  leads_puts : (count : ℕ) (ts us : List Place) → Leads count ts → Leads count us → Leads count (put_places ts us)
  leads_puts count [] us each found = found
  leads_puts count (t ∷ ts) us each found =
      leads_puts count ts (put_place t us) (leads_tail count t ts each) (leads_put count t us (leads_head count t ts each) found)

  under_calls : (call : List ℕ) (ts : List Place) (s : PlainStored) → CallsAt stored (under_places call ts) s → CallsAt stored ts s
  under_calls call [] s c = absurd (none_there c.place c.has)
  under_calls call (t ∷ ts) s c =
      elim (place_cases (under_id call t.0, t.1, t.2) (under_places call ts) s c) as (λ _. CallsAt stored (t ∷ ts) s) [
        | inl own ↦ record { place = t; has = in_first t ts t refl; calls = own }
        | inr other ↦
            let later = under_calls call ts s other in
            record { place = later.place; has = later_there t ts later.place later.has; calls = later.calls }
      ]

  node_at : (ns : Nodes) (s : PlainStored) → CallsAt stored (places_of ns) s
      → (k : PlainNode) × Contains (each_node ns) k × (callee stored k.namespace k.process_id ≡ Some s)
  node_at no_nodes s c = absurd (none_there c.place c.has)
  node_at (node id p namespace args rest) s c =
      let n : PlainNode = record { id = id; process_id = p; namespace = namespace; arguments = args } in
      elim (place_cases (id, p, namespace) (places_of rest) s c)
      as (λ _. (k : PlainNode) × Contains (n ∷ each_node rest) k × (callee stored k.namespace k.process_id ≡ Some s)) [
        | inl own ↦ (n, in_first n (each_node rest) n refl, own)
        | inr other ↦
            let later = node_at rest s other in
            (later.0, later_there n (each_node rest) later.0 later.1, later.2)
      ]

  first_leads : Leads 0 (places_of (cleared_graph h).nodes)
  first_leads s c =
      let k = node_at h.nodes s (subst (λ (ts : List Place). CallsAt stored ts s) (places_of-cleared (ids_of h.nodes) h.nodes) c) in
      first k.1 (record { caller = k.0; holds = itself; calls = k.2 })

  opened_leads : (count : ℕ) (t : Place) (o : Option PlainStored) → callee stored t.2 t.1 ≡ o
      → ((s : PlainStored) → callee stored t.2 t.1 ≡ Some s → Chained stored h count s)
      → Leads (suc count) (opened_places t (option_map cleared_stored o))
  opened_leads count t None is here s c =
      elim (place_cases t [] s c) as (λ _. Chained stored h (suc count) s) [
        | inl own ↦ let both : None ≡ Some s = sym is ∙ own in absurd cc
        | inr other ↦ absurd (none_there other.place other.has)
      ]
  opened_leads count t (Some called) is here s c =
      let k = node_at called.graph.nodes s
      (subst (λ (ts : List Place). CallsAt stored ts s) (places_of-cleared (ids_of called.graph.nodes) called.graph.nodes)
      (under_calls t.0 (places_of (cleared_stored called).graph.nodes) s c)) in
      next (here called is) k.1 (record { caller = k.0; holds = itself; calls = k.2 })

  round_leads : (count : ℕ) (ts found : List Place) → Leads count ts → Leads (suc count) found
      → Leads (suc count) (round_places (map cleared_stored stored) ts found)
  round_leads count [] found each before = before
  round_leads count (t ∷ ts) found each before =
      round_leads count ts (put_places (opened_places t (callee (map cleared_stored stored) t.2 t.1)) found)
      (leads_tail count t ts each)
      (leads_puts (suc count) (opened_places t (callee (map cleared_stored stored) t.2 t.1)) found
      (subst (λ (o : Option PlainStored). Leads (suc count) (opened_places t o)) (sym (callee_cleared stored t.2 t.1))
      (opened_leads count t (callee stored t.2 t.1) refl (leads_head count t ts each)))
      before)

  -- to each node of the graph itself that calls a stored process after so many rounds
  chain_leads : (times : ℕ) → Leads times (places_of (expanded_by times stored h).nodes)
  chain_leads zero = first_leads
  chain_leads (suc times) =
      let ns = (expanded_by times stored h).nodes in
      subst (λ (ts : List Place). Leads (suc times) ts) (sym (places_of-round (map cleared_stored stored) ns ns no_nodes))
      (round_leads times (places_of ns) [] (chain_leads times) (λ s c. absurd (none_there c.place c.has)))

-- ---- no chain is longer than there are stored processes

reaches_on : (stored : List PlainStored) (u s t : PlainStored) (n : PlainNode) → ReachesProcess stored u s
    → Contains (each_node s.graph.nodes) n → Calls stored n t → ReachesProcess stored u t
reaches_on stored u s t n (calls has_first one) has call = onwards has_first one (calls has call)
reaches_on stored u s t n (onwards {t = v} has_first one rest) has call =
    onwards has_first one (reaches_on stored v s t n rest has call)

calls_reach_on : (stored : List PlainStored) (m : PlainNode) (s t : PlainStored) (n : PlainNode) → CallsReach stored m s
    → Contains (each_node s.graph.nodes) n → Calls stored n t → CallsReach stored m t
calls_reach_on stored m s t n (directly one) has call = onwards one (calls has call)
calls_reach_on stored m s t n (onwards {called = v} one rest) has call =
    onwards one (reaches_on stored v s t n rest has call)

equivalence : IsEquivalence same_name
equivalence = record {
  refl = same_name_refl;
  symm = same_name-turned;
  congr = λ x y z is. ap (λ n. same_name n z) (sym (same_name_is x y is));
}

tells : (a b : List ℕ) → Decides (same_name a b) (a ≡ b)
tells a b = (λ is. sym (same_name_is a b is), λ is. subst (λ n. same_name a n ≡ true) is (same_name_refl a))

got : {X : Type 0} (xs : List X) (k : ℕ) (x : X) → k < length xs → slice_index_or xs k x ≡ x → slice_get xs k ≡ Some x
got [] k x below is = absurd (omega arith)
got (y ∷ xs) zero x below is = ap Some is
got (y ∷ xs) (suc k) x below is = got xs k x (omega arith) is

abbrev ids : List PlainStored → List (List ℕ)
ids us = map (λ (u : PlainStored). u.id) us

length-ids : (us : List PlainStored) → length (ids us) ≡ length us
length-ids [] = refl
length-ids (u ∷ us) = ap suc (length-ids us)

-- where a chain begins
begins : (stored : List PlainStored) (g : PlainGraph) (count : ℕ) (s : PlainStored) → Chained stored g count s
    → (n : PlainNode) × (Contains (each_node g.nodes) n) × CallsReach stored n s
begins stored g count s (first {n = n} has call) = (n, has, directly call)
begins stored g count s (next {count = k} {n = n} {s = v} chain has call) =
    let start = begins stored g k v chain in
    (start.0, start.1, calls_reach_on stored start.0 v s n start.2 has call)

-- what a node reaches that another brings, that one reaches
held_reaches : (stored : List PlainStored) (n k : PlainNode) (g : PlainGraph) (s : PlainStored)
    → Contains (callbacks_named n.arguments) g → Contains (each_node g.nodes) k → CallsReach stored k s → CallsReach stored n s
held_reaches stored n k g s is_callback has (directly one) =
    directly (record { caller = one.caller; holds = by_callback is_callback has one.holds; calls = one.calls })
held_reaches stored n k g s is_callback has (onwards one rest) =
    onwards (record { caller = one.caller; holds = by_callback is_callback has one.holds; calls = one.calls }) rest

called_reaches : (stored : List PlainStored) (n k : PlainNode) (called s : PlainStored)
    → callee stored n.namespace n.process_id ≡ Some called → Contains (each_node called.graph.nodes) k → CallsReach stored k s
    → CallsReach stored n s
called_reaches stored n k called s is has (directly one) =
    onwards (record { caller = n; holds = itself; calls = is }) (calls has one)
called_reaches stored n k called s is has (onwards one rest) =
    onwards (record { caller = n; holds = itself; calls = is }) (onwards has one rest)

brought_reaches : (stored : List PlainStored) (b c : Bool) (n m : PlainNode) (s : PlainStored) → Brings stored b n c m
    → CallsReach stored m s → CallsReach stored n s
brought_reaches stored b c n m s itself reaches = reaches
brought_reaches stored b c n m s (by_callback {k = k} {g = g} is_callback has rest) reaches =
    held_reaches stored n k g s is_callback has (brought_reaches stored true c k m s rest reaches)
brought_reaches stored b c n m s (by_call {k = k} {called = called} is has rest) reaches =
    called_reaches stored n k called s is has (brought_reaches stored b c k m s rest reaches)

module _ (stored : List PlainStored) (g : PlainGraph) (stored_valid : AreValidStored stored)
    (not_itself : (count : ℕ) (s : PlainStored) → Chained stored g count s → ReachesProcess stored s s → ⊥) where
  at_index : (i j : ℕ) (u t : PlainStored) → slice_get stored i ≡ Some u → slice_get stored j ≡ Some t → u.id ≡ t.id → u ≡ t
  at_index i j u t is_u is_t same_id =
      elim (cases_lt i j) as (λ _. u ≡ t) [
        | inl below ↦ absurd (stored_valid.differ i j u t below is_u is_t same_id)
        | inr above ↦ elim (cases_lt j i) as (λ _. u ≡ t) [
          | inl below ↦ absurd (stored_valid.differ j i t u below is_t is_u (sym same_id))
          | inr also ↦
              let one : i ≡ j = omega arith in
              let both : Some u ≡ Some t = sym is_u ∙ (ap (slice_get stored) one ∙ is_t) in
              cc
        ]
      ]

  one_of_id : (u t : PlainStored) → Contains stored u → Contains stored t → u.id ≡ t.id → u ≡ t
  one_of_id u t has_u has_t same_id =
      at_index has_u.0 has_t.0 u t (got stored has_u.0 u has_u.1 has_u.2) (got stored has_t.0 t has_t.1 has_t.2) same_id

  called_stored : (n : PlainNode) (t : PlainStored) → Calls stored n t → Contains stored t
  called_stored n t call = callee_in stored call.caller.namespace call.caller.process_id t call.calls

  -- the stored processes along a chain
  along : (count : ℕ) (s : PlainStored) → Chained stored g count s → List PlainStored
  along count s (first has call) = s ∷ []
  along count s (next chain has call) = s ∷ along _ _ chain

  length-along : (count : ℕ) (s : PlainStored) (chain : Chained stored g count s) → length (along count s chain) ≡ suc count
  unfolding along
  length-along count s (first has call) = refl
  length-along count s (next chain has call) = ap suc (length-along _ _ chain)

  along_stored : (count : ℕ) (s : PlainStored) (chain : Chained stored g count s) (u : PlainStored)
      → Contains (along count s chain) u → Contains stored u
  unfolding along
  along_stored count s (first {n = n} has call) u is =
      elim (there_cases s [] u is) as (λ _. Contains stored u) [
        | inl one ↦ subst (λ x. Contains stored x) one (called_stored n s call)
        | inr there ↦ absurd (none_there u there)
      ]
  along_stored count s (next {count = k} {n = n} {s = v} chain has call) u is =
      elim (there_cases s (along k v chain) u is) as (λ _. Contains stored u) [
        | inl one ↦ subst (λ x. Contains stored x) one (called_stored n s call)
        | inr there ↦ along_stored k v chain u there
      ]

  along_reaches : (count : ℕ) (s : PlainStored) (chain : Chained stored g count s) (u : PlainStored)
      → Contains (along count s chain) u → (u ≡ s) ⊎ ReachesProcess stored u s
  unfolding along
  along_reaches count s (first has call) u is =
      elim (there_cases s [] u is) as (λ _. (u ≡ s) ⊎ ReachesProcess stored u s) [
        | inl one ↦ inl (sym one)
        | inr there ↦ absurd (none_there u there)
      ]
  along_reaches count s (next {count = k} {n = n} {s = v} chain has call) u is =
      elim (there_cases s (along k v chain) u is) as (λ _. (u ≡ s) ⊎ ReachesProcess stored u s) [
        | inl one ↦ inl (sym one)
        | inr there ↦ elim (along_reaches k v chain u there) as (λ _. (u ≡ s) ⊎ ReachesProcess stored u s) [
          | inl last ↦ inr (subst (λ x. ReachesProcess stored x s) (sym last) (calls has call))
          | inr reaches ↦ inr (reaches_on stored u v s n reaches has call)
        ]
      ]

  -- a stored process that a chain leads on to is none of those before it
  new_one : (k : ℕ) (v s : PlainStored) (n : PlainNode) (chain : Chained stored g k v) → Contains (each_node v.graph.nodes) n
      → Calls stored n s → (u : PlainStored) → Contains (along k v chain) u → u.id ≡ s.id → ⊥
  new_one k v s n chain has call u there same_id =
      let one : u ≡ s = one_of_id u s (along_stored k v chain u there) (called_stored n s call) same_id in
      let reaches : ReachesProcess stored u s =
      elim (along_reaches k v chain u there) as (λ _. ReachesProcess stored u s) [
        | inl last ↦ subst (λ x. ReachesProcess stored x s) (sym last) (calls has call)
        | inr reaches ↦ reaches_on stored u v s n reaches has call
      ] in
      not_itself (suc k) s (next chain has call) (subst (λ x. ReachesProcess stored x s) one reaches)

  differs_by : (a b : List ℕ) (is_same : Bool) → same_name a b ≡ is_same → (b ≡ a → ⊥) → is_same ≡ false
  differs_by a b true is differ = absurd (differ (same_name_is a b is))
  differs_by a b false is differ = refl

  all_differ : (s : PlainStored) (us : List PlainStored) → ((u : PlainStored) → Contains us u → u.id ≡ s.id → ⊥)
      → AllByRecursion (λ y. same_name s.id y ≡ false) (ids us)
  all_differ s [] differ = tt
  all_differ s (u ∷ us) differ = (
    differs_by s.id u.id (same_name s.id u.id) refl (differ u (in_first u us u refl)),
    all_differ s us (λ x has. differ x (later_there u us x has)),
  )

  distinct : (count : ℕ) (s : PlainStored) (chain : Chained stored g count s) → IsDistinct same_name (ids (along count s chain))
  unfolding along IsDistinct
  distinct count s (first has call) = (tt, tt)
  distinct count s (next {count = k} {n = n} {s = v} chain has call) =
      (all_differ s (along k v chain) (new_one k v s n chain has call), distinct k v chain)

  among_ids : (us : List PlainStored) → ((u : PlainStored) → Contains us u → Contains stored u) → (q : List ℕ)
      → is_member same_name (ids us) q ≡ true → is_member same_name (ids stored) q ≡ true
  among_ids us each q is =
      let from = in_map (λ (u : PlainStored). u.id) us q ((is_member-Decides tells (ids us) q).0 is) in
      (is_member-Decides tells (ids stored) q).1
      (subst (λ x. Contains (ids stored) x) from.is (map_there (λ (u : PlainStored). u.id) stored from.of (each from.of from.has)))

  pub no_long_chain : (s : PlainStored) → Chained stored g (length stored) s → ⊥
  no_long_chain s chain =
      let us = along (length stored) s chain in
      let fits = length-le_from_is_member equivalence (ids us) (ids stored) (distinct (length stored) s chain)
      (among_ids us (along_stored (length stored) s chain)) in
      let many = length-along (length stored) s chain in
      let us_ids = length-ids us in
      let stored_ids = length-ids stored in
      omega arith

  no_call : (o : Option PlainStored) → ((s : PlainStored) → o ≡ Some s → ⊥) → option_map cleared_stored o ≡ None
  no_call None never = refl
  no_call (Some s) never = absurd (never s refl)

  none_called : (ts : List Place) → Leads stored g (length stored) ts → NoCalls (map cleared_stored stored) ts
  none_called [] each = tt
  none_called (t ∷ ts) each = (
    callee_cleared stored t.2 t.1
        ∙ no_call (callee stored t.2 t.1) (λ s is. no_long_chain s (leads_head stored g (length stored) t ts each s is)),
    none_called ts (leads_tail stored g (length stored) t ts each),
  )

  -- after as many rounds as there are stored processes no node of the graph itself calls one
  pub none_left : NoCalls (map cleared_stored stored) (places_of (expanded_by (length stored) stored g).nodes)
  none_left = none_called (places_of (expanded_by (length stored) stored g).nodes) (chain_leads stored g (length stored))

-- so many rounds or more give as many nodes, where no call is left after them
count_after : (stored : List PlainStored) (h : PlainGraph) (times : ℕ)
    → NoCalls (map cleared_stored stored) (places_of (expanded_by (length stored) stored h).nodes)
    → NoCalls (map cleared_stored stored) (places_of (expanded_by times stored h).nodes)
    → node_count (expanded_by times stored h).nodes ≡ node_count (expanded_by (length stored) stored h).nodes
count_after stored h times none none_there =
    let cleared = map cleared_stored stored in
    elim (cases_lt times (length stored))
    as (λ _. node_count (expanded_by times stored h).nodes ≡ node_count (expanded_by (length stored) stored h).nodes) [
      | inl below ↦ sym (settled_after cleared (cleared_graph h) times (length stored) (omega arith) none_there).count
      | inr above ↦ (settled_after cleared (cleared_graph h) (length stored) times (omega arith) none).count
    ]

-- ---- after all rounds

module _ (stored : List PlainStored) (g : PlainGraph) (stored_valid : AreValidStored stored)
    (faultless : (code : Code) (node : List ℕ) → ¬ StandsWithStored stored g code node) where
  none_recurs : (n : PlainNode) (s : PlainStored) → Contains (each_node g.nodes) n → CallsReach stored n s → ReachesProcess stored s s → ⊥
  none_recurs n s has reaches itself_again = faultless _ _ (process_recursive has reaches itself_again)

  main_none : NoCalls (map cleared_stored stored) (places_of (expanded_by (length stored) stored g).nodes)
  main_none =
      none_left stored g stored_valid (λ count s chain reaches.
      let start = begins stored g count s chain in
      none_recurs start.0 s start.1 start.2 reaches)

  stands_there : (in_callback : Bool) (n : PlainNode) (stands : Bool) → stands_in stored in_callback n ≡ stands
      → Brought stored g in_callback n.namespace n.process_id → stands ≡ true
  stands_there in_callback n true is brought = refl
  stands_there in_callback n false is brought =
      let same_node : stands_in stored in_callback brought.node ≡ stands_in stored in_callback n =
      ap (λ x. stands_in stored in_callback (record { id = n.id; process_id = brought.node.process_id; namespace = x; arguments = n.arguments })) brought.same_namespace
      ∙ ap (λ x. stands_in stored in_callback (record { id = n.id; process_id = x; namespace = n.namespace; arguments = n.arguments })) brought.same_process in
      let fits = holds_fitting stored brought.node && calls_fitting stored brought.node in
      absurd (faultless _ _ (process_unsupported brought.has brought.brings (ap (λ b. b && fits) (same_node ∙ is))))

  module _ (no_call : nodes_call stored (expanded stored g).nodes ≡ false) (valid : IsValidGraph g) where
    in_order : IsInOrder (Brought stored g) (Formed stored g) false (expanded stored g)
    in_order = expanded_in_order stored g stored_valid most_rounds valid

    none_within : (in_callback : Bool) (scope : List (List ℕ)) (nodes : Nodes) (result : ℕ)
        → IsScopedWithin in_callback scope nodes result false [] (expanded stored g).nodes (expanded stored g).result
        → (n : PlainNode) → Contains (each_node nodes) n → callee stored n.namespace n.process_id ≡ None
    none_within in_callback scope nodes result within n has =
        (node_uncalled stored nodes n
        (within_uncalled stored in_callback scope nodes result false [] (expanded stored g).nodes (expanded stored g).result within no_call)
        has).0

    -- each node calls a process of the catalogue that may stand where it does
    pub expanded-stands : EachObject (StandInCatalogue stored) (expanded stored g)
    expanded-stands in_callback scope nodes result within n has = (
      none_within in_callback scope nodes result within n has,
      stands_there in_callback n (stands_in stored in_callback n) refl
          (each_holding (Brought stored g) (Formed stored g) (expanded stored g) in_order in_callback scope nodes result within n has),
    )

    -- ---- sizes

    not_more : (count most : ℕ) → (most < count → ⊥) → count ≤ most
    not_more count most not_above =
        elim (cases_lt most count) as (λ _. count ≤ most) [
          | inl above ↦ absurd (not_above above)
          | inr within ↦ within
        ]

    cleared_none_in : (nodes : Nodes) → ((n : PlainNode) → Contains (each_node nodes) n → callee stored n.namespace n.process_id ≡ None)
        → NoCalls (map cleared_stored stored) (places_of nodes)
    cleared_none_in nodes none =
        no_calls_in (map cleared_stored stored) nodes
        (λ n has. callee_cleared stored n.namespace n.process_id ∙ ap (λ o. option_map cleared_stored o) (none n has))

    main_fits : node_count (expanded stored g).nodes ≤ most_nodes false
    main_fits =
        let few = not_more (node_count (expanded_by (length stored) stored g).nodes) most_main_nodes
        (λ above. faultless _ _ (graph_too_large above)) in
        let same = count_after stored g most_rounds main_none
        (cleared_none_in (expanded stored g).nodes
        (none_within false [] (expanded stored g).nodes (expanded stored g).result resolved_graphs.itself)) in
        omega arith

    callback_fits : (nodes : Nodes) → ((n : PlainNode) → Contains (each_node nodes) n → callee stored n.namespace n.process_id ≡ None)
        → Formed stored g (places_of nodes) → node_count nodes ≤ 64
    callback_fits nodes none is =
        let here_none = subst (λ ts. NoCalls (map cleared_stored stored) ts) is.is (cleared_none_in nodes none) in
        let there_none = none_left stored is.written stored_valid (λ count s chain reaches.
        let start = begins stored is.written count s chain in
        none_recurs is.from s is.has
        (brought_reaches stored false is.in_callback is.from is.node s is.brings
        (held_reaches stored is.node start.0 is.written s is.is_written start.1 start.2)) reaches) in
        let few = not_more (node_count (expanded_by (length stored) stored is.written).nodes) most_callback_nodes
        (λ above. faultless _ _ (callback_too_large is.has is.brings is.is_written above)) in
        let same_count : length (places_of nodes) ≡ length (places_of (expanded_by is.count stored is.written).nodes) =
        ap (λ (ts : List Place). length ts) is.is in
        let here = length-places_of nodes in
        let there = length-places_of (expanded_by is.count stored is.written).nodes in
        let later = count_after stored is.written is.count there_none here_none in
        omega arith

    pub expanded-fits : EachObject (λ in_callback nodes result. node_count nodes ≤ most_nodes in_callback) (expanded stored g)
    expanded-fits in_callback scope nodes result within =
        elim (each_formed (Brought stored g) (Formed stored g) (expanded stored g) in_order in_callback scope nodes result within)
        as (λ _. node_count nodes ≤ most_nodes in_callback) [
          | inl main ↦
              subst (λ b. node_count nodes ≤ most_nodes b) (sym main.1)
              (subst (λ ns. node_count ns ≤ most_nodes false) (sym main.0) main_fits)
          | inr formed ↦
              subst (λ b. node_count nodes ≤ most_nodes b) (sym formed.1)
              (callback_fits nodes (none_within in_callback scope nodes result within) formed.0)
        ]

    -- ---- the graph that a graph without a fault resolves to

    pub resolved-without_fault : IsResolved (resolved stored g)
    resolved-without_fault =
        resolved-is stored g faultless no_call (expanded_by-ordered stored g stored_valid most_rounds valid) expanded-fits expanded-stands
