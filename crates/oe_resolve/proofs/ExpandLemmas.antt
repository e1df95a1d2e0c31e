-- Expanding round by round.
use Rattle.std.proofs.Common.{◌≡◌, ℕ, zero, suc, ◌+◌, ◌-◌, ◌<◌, ◌≤◌, ◌⊎◌, inl, inr, Bool, true, false, List, [], Option, Some, None, is_some, option_map, Contains, map, refl, sym, ap, ◌∙◌, subst, true≢false, arith}
use Rattle.oe_dims.specs.Names.{names_rise}
use Rattle.oe_graph.specs.Codes.{phase_of}
use Rattle.oe_graph.specs.Faults.{least, IsLeastFault}
use Rattle.oe_graph.specs.Plain.{plain_graph}
use Rattle.oe_graph.specs.Printed.{ids_of}
use Rattle.oe_graph.specs.Resolved as resolved
use Rattle.oe_graph.specs.Tree.{Nodes, PlainGraph, PlainNode, PlainStored}
use Rattle.oe_graph.specs.declared.code.Code.{Code}
use Rattle.oe_graph.specs.declared.fault.Fault.{Fault}
use Rattle.oe_graph.specs.declared.tree.Graph.{Graph}
use Rattle.oe_graph.proofs.LeastLemmas.{IsLeastFault-iff, IsLeastFault-least, Either}
use Rattle.oe_calls.specs.HasCall.{nodes_call}
use Rattle.oe_calls.specs.Calls.{callee}
use Rattle.oe_resolve.specs.Expansion.{IsNameFault, IsExpansion, IsEarly, IsSettled}
use Rattle.oe_calls.specs.Faults.{StandsWithStored}
use Rattle.oe_resolve.specs.NameFaults as name_faults
use Rattle.oe_resolve.specs.NameFaults.{IdsRise, IsInside, HasFault, OfItself, OfObject}
use Rattle.oe_calls.specs.Rounds.{round, expanded_by, expanded, cleared_stored, cleared_graph, most_rounds}
use Rattle.oe_calls.specs.Sizes.{IsWithinLimits}
use Rattle.oe_graph.specs.Valid.{IsValidGraph, AreValidStored}
use Rattle.oe_calls.proofs.CountLemmas.{callee_cleared}
use Rattle.oe_resolve.proofs.ExpansionLemmas.{Brought, Formed, expanded_in_order}
use Rattle.oe_resolve.proofs.ClearedLemmas.{cleared_same}
use Rattle.oe_calls.proofs.OrderLemmas.{each_ordered, valid_in_order}
use Rattle.oe_calls.proofs.SettledLemmas.{settled}
use Rattle.oe_resolve.proofs.StandingLemmas.{early_stands, last_stands, InRound, earlier, last_round, in_round}

-- ---- ids rise in each round

record Within (inner : Nodes) (outer_in_callback : Bool) (outer_scope : List (List ℕ)) (outer : Nodes) (outer_result : ℕ) : Type 0 where
  pub in_callback : Bool
  pub scope : List (List ℕ)
  pub result : ℕ
  pub within : resolved.IsScopedWithin in_callback scope inner result outer_in_callback outer_scope outer outer_result

within_of : (inner outer : Nodes) (in_callback : Bool) (scope : List (List ℕ)) (result : ℕ) → IsInside inner outer
    → Within inner in_callback scope outer result
within_of inner outer in_callback scope result name_faults.itself =
    record { in_callback = in_callback; scope = scope; result = result; within = resolved.itself }
within_of inner outer in_callback scope result (name_faults.deeper {n = n} {g = g} there has rest) =
    let w = within_of inner g.nodes true (resolved.scope_inside n scope) g.result rest in
    record { in_callback = w.in_callback; scope = w.scope; result = w.result; within = resolved.inside there has w.within }

module _ (stored : List PlainStored) (g : PlainGraph) (stored_valid : AreValidStored stored) (valid : IsValidGraph g) where
  pub rise_by : (times : ℕ) → IdsRise (expanded_by times stored g).nodes
  rise_by times inner inside =
      let h = expanded_by times stored g in
      let w = within_of inner h.nodes false [] h.result inside in
      (each_ordered (Brought stored g) (Formed stored g) h (expanded_in_order stored g stored_valid times valid)
      w.in_callback w.scope inner w.result w.within).ids_rise

  -- ---- rounds that change nothing

  leaf_by : (o : Option PlainStored) → is_some o ≡ false → option_map cleared_stored o ≡ None
  leaf_by None is = refl
  leaf_by (Some s) is = absurd (true≢false is)

  leaf : (namespace : Option (List ℕ)) (p : List ℕ) → is_some (callee stored namespace p) ≡ false
      → callee (map cleared_stored stored) namespace p ≡ None
  leaf namespace p is = callee_cleared stored namespace p ∙ leaf_by (callee stored namespace p) is

  -- where no call is left
  pub settled_by : (times more : ℕ) → nodes_call stored (expanded_by times stored g).nodes ≡ false
      → expanded_by (times + more) stored g ≡ expanded_by times stored g
  settled_by times zero is = let same : times + 0 ≡ times = omega arith in ap (λ k. expanded_by k stored g) same
  settled_by times (suc more) is =
      let next : times + suc more ≡ suc (times + more) = omega arith in
      ap (λ k. expanded_by k stored g) next
      ∙ ap (round (map cleared_stored stored)) (settled_by times more is)
      ∙ settled stored (map cleared_stored stored) leaf (Brought stored g) (Formed stored g) false (expanded_by times stored g) is
      (expanded_in_order stored g stored_valid times valid)

-- in a graph as it is written too
pub rise_of : (g : PlainGraph) → IsValidGraph g → IdsRise g.nodes
rise_of g valid inner inside =
    let w = within_of inner g.nodes false [] g.result inside in
    let order = valid_in_order (λ in_callback namespace p. Unit {0}) (λ places. Unit {0}) false g valid (λ k has. tt)
    (λ k has h there. (tt, λ j m at holds. (tt, λ i calls. tt))) in
    (each_ordered (λ in_callback namespace p. Unit {0}) (λ places. Unit {0}) g order w.in_callback w.scope inner w.result w.within).ids_rise

-- ---- the least fault so far

module _ (stored : List PlainStored) (g : PlainGraph) where
  pub early_none : IsLeastFault (IsEarly stored g 0) None
  early_none = λ f e. let below = e.below in absurd (omega arith)

  early_into : (times : ℕ) (f : Fault) → Either (IsEarly stored g times) (λ h. OfObject stored false h [] [] (expanded_by times stored g).nodes) f
      → IsEarly stored g (times + 1) f
  early_into times f (inl e) = let below = e.below in record { round = e.round; below = omega arith; has = e.has }
  early_into times f (inr has) = record { round = times; below = omega arith; has = has }

  round_cases : (k n : ℕ) → k < n + 1 → (k < n) ⊎ (k ≡ n)
  round_cases k zero below = inr (omega arith)
  round_cases zero (suc n) below = inl (omega arith)
  round_cases (suc k) (suc n) below = elim (round_cases k n (omega arith)) [ inl less ↦ inl (omega arith) | inr is ↦ inr (omega arith) ]

  early_out_by : (times round : ℕ) (f : Fault) → OfObject stored false f [] [] (expanded_by round stored g).nodes
      → (round < times) ⊎ (round ≡ times)
      → Either (IsEarly stored g times) (λ h. OfObject stored false h [] [] (expanded_by times stored g).nodes) f
  early_out_by times round f has (inl below) = inl (record { round = round; below = below; has = has })
  early_out_by times round f has (inr is) = inr (subst (λ k. OfObject stored false f [] [] (expanded_by k stored g).nodes) is has)

  pub early_more : (times : ℕ) (fault found : Option Fault) → IsLeastFault (IsEarly stored g times) fault
      → IsLeastFault (λ f. OfObject stored false f [] [] (expanded_by times stored g).nodes) found
      → IsLeastFault (IsEarly stored g (times + 1)) (least fault found)
  early_more times fault found early is =
      IsLeastFault-iff (Either (IsEarly stored g times) (λ f. OfObject stored false f [] [] (expanded_by times stored g).nodes))
      (IsEarly stored g (times + 1)) (least fault found) (early_into times)
      (λ f e. early_out_by times e.round f e.has (round_cases e.round times e.below))
      (IsLeastFault-least (IsEarly stored g times) (λ f. OfObject stored false f [] [] (expanded_by times stored g).nodes) fault found early is)

  -- ---- all rounds

  later_fault : (scope : List (List ℕ)) (nodes : Nodes) (n : PlainNode) (code : Code) → HasFault stored false scope nodes n code
      → HasFault stored true scope nodes n code
  later_fault scope nodes n code (name_faults.argument_unknown same there absent) = name_faults.argument_unknown same there absent
  later_fault scope nodes n code (name_faults.process_parameter_missing same there default optional absent) =
      name_faults.process_parameter_missing same there default optional absent
  later_fault scope nodes n code (name_faults.parameter_unknown is there absent) = absurd (true≢false (sym is))
  later_fault scope nodes n code (name_faults.node_unknown there absent) = name_faults.node_unknown there absent
  later_fault scope nodes n code (name_faults.graph_cycle is leads) = absurd (true≢false (sym is))

  later : (f : Fault) (at : List ℕ) (scope : List (List ℕ)) (nodes : Nodes) → OfObject stored false f at scope nodes
      → OfObject stored true f at scope nodes
  later f at scope nodes (name_faults.by_itself {n = n} there own) =
      name_faults.by_itself there (record { at = own.at; has = later_fault scope nodes n f.code own.has })
  later f at scope nodes (name_faults.inside there none argument callback of) = name_faults.inside there none argument callback (later f _ _ _ of)

  phase_by : (last : Bool) (scope : List (List ℕ)) (nodes : Nodes) (n : PlainNode) (code : Code) → HasFault stored last scope nodes n code
      → phase_of code ≡ 4
  phase_by last scope nodes n code (name_faults.argument_unknown same there absent) = refl
  phase_by last scope nodes n code (name_faults.process_parameter_missing same there default optional absent) = refl
  phase_by last scope nodes n code (name_faults.parameter_unknown is there absent) = refl
  phase_by last scope nodes n code (name_faults.node_unknown there absent) = refl
  phase_by last scope nodes n code (name_faults.graph_cycle is leads) = refl

  phase : (last : Bool) (f : Fault) (at : List ℕ) (scope : List (List ℕ)) (nodes : Nodes) → OfObject stored last f at scope nodes
      → phase_of f.code ≡ 4
  phase last f at scope nodes (name_faults.by_itself {n = n} there own) = phase_by last scope nodes n f.code own.has
  phase last f at scope nodes (name_faults.inside there none argument callback of) = phase last f _ _ _ of

  module _ (after : PlainGraph) (fault found : Option Fault) (is : IsSettled stored g after fault) where
    pub all_rounds : after ≡ expanded stored g
    all_rounds =
        let few = is.few in
        let enough : is.times + (most_rounds - is.times) ≡ most_rounds = omega arith in
        sym (is.settled (most_rounds - is.times)) ∙ ap (λ k. expanded_by k stored g) enough

    pub all_within : IsWithinLimits (expanded stored g)
    all_within = subst (λ (h : PlainGraph). IsWithinLimits h) all_rounds is.within

    pub all_none : nodes_call stored (expanded stored g).nodes ≡ false
    all_none = subst (λ (h : PlainGraph). nodes_call stored h.nodes ≡ false) all_rounds is.none_left

    abbrev LastFault : Fault → Type 0
    LastFault f = OfObject stored true f [] [] after.nodes

    stands_all : (f : Fault) → Either (IsEarly stored g is.times) LastFault f → IsNameFault stored g f
    stands_all f (inl e) =
        (phase false f [] [] (expanded_by e.round stored g).nodes e.has, early_stands stored g e.round f e.has)
    stands_all f (inr has) = (
      phase true f [] [] after.nodes has,
      last_stands stored g f (subst (λ (h : PlainGraph). OfObject stored true f [] [] h.nodes) all_rounds has),
    )

    past_or_early : (k n : ℕ) → (k < n) ⊎ (n ≤ k)
    past_or_early k zero = inr (omega arith)
    past_or_early zero (suc n) = inl (omega arith)
    past_or_early (suc k) (suc n) = elim (past_or_early k n) [ inl less ↦ inl (omega arith) | inr past ↦ inr (omega arith) ]

    round_found : (f : Fault) (k : ℕ) → OfObject stored false f [] [] (expanded_by k stored g).nodes → (k < is.times) ⊎ (is.times ≤ k)
        → Either (IsEarly stored g is.times) LastFault f
    round_found f k has (inl below) = inl (record { round = k; below = below; has = has })
    round_found f k has (inr past) =
        let enough : is.times + (k - is.times) ≡ k = omega arith in
        let same : expanded_by k stored g ≡ after =
        ap (λ j. expanded_by j stored g) (sym enough) ∙ is.settled (k - is.times) in
        inr (later f [] [] after.nodes (subst (λ (h : PlainGraph). OfObject stored false f [] [] h.nodes) same has))

    found_all : (f : Fault) → InRound stored g f → Either (IsEarly stored g is.times) LastFault f
    found_all f (earlier k has) = round_found f k has (past_or_early k is.times)
    found_all f (last_round has) = inr (subst (λ (h : PlainGraph). OfObject stored true f [] [] h.nodes) (sym all_rounds) has)

    pub all_faults : IsLeastFault LastFault found → IsLeastFault (IsNameFault stored g) (least fault found)
    all_faults last =
        IsLeastFault-iff (Either (IsEarly stored g is.times) LastFault) (IsNameFault stored g) (least fault found) stands_all
        (λ f stands. found_all f (in_round stored g f.code f.node stands.1 stands.0))
        (IsLeastFault-least (IsEarly stored g is.times) LastFault fault found is.early last)

none_by : (P : Fault → Type 0) (o : Option Fault) → IsLeastFault P o → is_some o ≡ false → (f : Fault) → ¬ P f
none_by P None least none = least
none_by P (Some f) least none = absurd (true≢false none)

-- a graph that calls no stored process and has no fault of names is its own expansion
pub itself_expanded : (stored : List PlainStored) (g : Graph) (o : Option Fault) → AreValidStored stored → IsValidGraph (plain_graph g)
    → IsWithinLimits (plain_graph g)
    → nodes_call stored (plain_graph g).nodes ≡ false → IsLeastFault (λ f. OfObject stored true f [] [] (plain_graph g).nodes) o
    → is_some o ≡ false → IsExpansion stored (plain_graph g) (g, None)
itself_expanded stored written o stored_valid valid within no_call least none =
    let g = plain_graph written in
    let faultless = none_by (λ f. OfObject stored true f [] [] g.nodes) o least none in
    let same = cleared_same stored true g no_call faultless in
    let is : IsSettled stored g g None = record {
      times = 0;
      is = sym same;
      settled = λ more.
          settled_by stored g stored_valid valid 0 more (subst (λ (h : PlainGraph). nodes_call stored h.nodes ≡ false) (sym same) no_call)
          ∙ same;
      few = omega arith;
      early = early_none stored g;
      none_left = no_call;
      within = within;
    } in
    record {
      graph = all_rounds stored g g None None is;
      fault = all_faults stored g g None None is faultless;
      none_left = all_none stored g g None None is;
      within = all_within stored g g None None is;
    }
