use Rattle.std.proofs.Common.{◌≡◌, ◌<◌, ◌≤◌, ◌+◌, ℕ, zero, suc, true, false, List, [], length, map, refl, sym, ap, ◌∙◌, subst, arith}
use Rattle.std.proofs.lemmas.List.{length-map}
use Rattle.std.proofs.lemmas.Result.{IfOk-weaker}
use Rattle.oe_graph.specs.Faults.{IsLeastFault}
use Rattle.oe_graph.specs.Plain.{plain_graph, plain_stored}
use Rattle.oe_graph.specs.Tree.{PlainGraph, PlainStored}
use Rattle.oe_calls.specs.HasCall.{nodes_call}
use Rattle.oe_resolve.specs.Expansion.{IsEarly, IsExpansion, IsSettled}
use Rattle.oe_resolve.specs.NameFaults.{IdsRise, OfObject}
use Rattle.oe_calls.specs.Rounds as rounds
use Rattle.oe_calls.specs.Rounds.{expanded_by, cleared_graph, most_rounds}
use Rattle.oe_calls.specs.Sizes.{IsWithinLimits}
use Rattle.oe_resolve.proofs.ExpandLemmas.{rise_by, early_none, early_more, settled_by}
use Rattle.oe_calls.proofs.SizeLemmas.{cleared_within}
use Rattle.oe_resolve.proofs.expand.Goals as goal

pub loop-times-init : goal.loop-times-init
loop-times-init c = (
  omega arith,
  c.in_ok-first.ensures,
  early_none (map plain_stored c.args.stored.now) (plain_graph c.args.graph.now),
  λ below. absurd (omega arith),
  subst (λ (h : PlainGraph). IsWithinLimits h) (sym c.in_ok-first.ensures) (cleared_within (plain_graph c.args.graph.now) c.requires.within),
)

pub names_fault-requires : goal.names_fault-requires
names_fault-requires c =
    let stored = map plain_stored c.args.stored.now in
    let g = plain_graph c.args.graph.now in
    record {
      rise = subst (λ (h : PlainGraph). IdsRise h.nodes) (sym c.loop-times.invariant.1)
          (rise_by stored g c.requires.stored_valid c.requires.graph_valid c.loop-times.times);
    }

most_of : (times : ℕ) → times ≤ 1048576 → times ≤ most_rounds
unfolding most_rounds
most_of times few = few

-- a later graph comes of a call in the first
first_calls : (stored : List PlainStored) (g h : PlainGraph) (times : ℕ) → h ≡ expanded_by times stored g
    → (0 < times → nodes_call stored (cleared_graph g).nodes ≡ true) → nodes_call stored h.nodes ≡ true
    → nodes_call stored (cleared_graph g).nodes ≡ true
first_calls stored g h zero is before here = subst (λ (k : PlainGraph). nodes_call stored k.nodes ≡ true) is here
first_calls stored g h (suc times) is before here = before (omega arith)

pub loop-times-preserved : goal.loop-times-preserved
loop-times-preserved c =
    let stored = map plain_stored c.args.stored.now in
    let g = plain_graph c.args.graph.now in
    let times = c.loop-times.times in
    let called = first_calls stored g (plain_graph c.loop-times.expanded) times c.loop-times.invariant.1 c.loop-times.invariant.3
    (sym c.has_call.ensures ∙ c.if-has_call.true) in
    let cleared = c.in_ok-cleared.ensures (subst (λ (h : PlainGraph). nodes_call stored h.nodes ≡ true) (sym c.in_ok-first.ensures) called) in
    let next : suc times ≡ times + 1 = omega arith in (
      omega (arith, c.loop-times-test.true),
      c.in_ok-expanded.ensures.graph
          ∙ ap (λ xs. rounds.round (map plain_stored xs) (plain_graph c.loop-times.expanded)) c.as_slice.ensures.value
          ∙ ap (λ xs. rounds.round xs (plain_graph c.loop-times.expanded)) cleared
          ∙ ap (rounds.round (map rounds.cleared_stored stored)) c.loop-times.invariant.1
          ∙ ap (λ k. expanded_by k stored g) next,
      subst (IsLeastFault (IsEarly stored g (times + 1))) (sym c.least-fault.ensures)
          (early_more stored g times c.loop-times.fault c.in_ok-found.found c.loop-times.invariant.2
          (subst (λ (h : PlainGraph). IsLeastFault (λ f. OfObject stored false f [] [] h.nodes) c.in_ok-found.found) c.loop-times.invariant.1 c.in_ok-found.ensures)),
      λ below. called,
      c.in_ok-expanded.ensures.within,
    )

pub judge_last-requires : goal.judge_last-requires
judge_last-requires c =
    let stored = map plain_stored c.args.stored.now in
    let g = plain_graph c.args.graph.now in
    record {
      rise = subst (λ (h : PlainGraph). IdsRise h.nodes) (sym c.loop-times.invariant.1)
          (rise_by stored g c.requires.stored_valid c.requires.graph_valid c.loop-times.times);
    }

pub returns : goal.returns
returns c =
    let stored = map plain_stored c.args.stored.now in
    let g = plain_graph c.args.graph.now in
    let after = plain_graph c.loop-times.expanded in
    let times = c.loop-times.times in
    let none : nodes_call stored after.nodes ≡ false = sym c.has_call-2.ensures ∙ c.if-has_call-2.false in
    let is : IsSettled stored g after c.loop-times.fault = record {
      times = times;
      is = c.loop-times.invariant.1;
      settled = λ more.
          settled_by stored g c.requires.stored_valid c.requires.graph_valid times more
          (subst (λ (h : PlainGraph). nodes_call stored h.nodes ≡ false) c.loop-times.invariant.1 none)
          ∙ sym c.loop-times.invariant.1;
      few = most_of times c.loop-times.invariant.0;
      none_left = none;
      early = c.loop-times.invariant.2;
      within = c.loop-times.invariant.4;
    } in
    IfOk-weaker c.judge_last.result _ (IsExpansion stored g) (λ r each. each g is) c.judge_last.ensures
