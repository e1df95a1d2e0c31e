use Rattle.std.proofs.Common.{◌≡◌, ℕ, ◌<◌, ◌≤◌, ◌+◌, ◌||◌, Bool, true, false, eqb, List, ◌∷◌, [], length, get_or, take, refl, sym, ap, ◌∙◌, inl, inr, arith}
use Rattle.std.specs.List.{Contains}
use Rattle.std.proofs.lemmas.Bool.{eq-eqb, eqb-true, or_left, or_right, or_cases, cases_lt}
use Rattle.std.proofs.lemmas.List.{get_or_read, length-take}
use Rattle.oe_order.specs.Graph.{Node, graph_of, arguments, IsInRun, in_run, IsAcyclic, RefersWithin}
use Rattle.oe_order.specs.Order.{contains}
use Rattle.oe_order.specs.Marks.{IsMarked}
use Rattle.oe_order.proofs.Graphs.{length-graph_of, arguments-graph_of}
use Rattle.oe_order.proofs.Lists.{bool_iff, contains-at, contains-index, kept_index, contains-to, or_false}
use Rattle.oe_order.proofs.Reach.{IsInRun-push, IsInRun-within, in_run-sound, in_run-complete, closed_has}
use Rattle.std.proofs.lemmas.List.Sums.{count_by-le-length}
use Rattle.oe_order.proofs.run.members.Invariants.{Searches}
use Rattle.oe_order.proofs.run.members.Goals as goal

Searches-begin : (nodes : List Node) (last : ℕ) (found : List ℕ) (marks : List Bool) → length marks ≡ length nodes → IsMarked marks found →
    ((n : ℕ) → contains found n ≡ contains (last ∷ []) n) → Searches nodes last 0 found marks
Searches-begin nodes last found marks long marked has = record {
  len = long;
  marked = marked;
  begun = has last ∙ or_left (eqb last last) false (eq-eqb last last refl);
  sound = λ n e. inl (sym (eqb-true last n (sym (or_false (eqb last n)) ∙ sym (has n) ∙ e)));
  behind = omega arith;
  closed = λ k a h. absurd (omega arith);
}

Searches-more : (nodes : List Node) (last done : ℕ) (found new named : List ℕ) (marks after : List Bool) → Searches nodes last done found marks →
    done < length found → arguments nodes (get_or found done 0) ≡ named → length after ≡ length marks → IsMarked after new →
    ((n : ℕ) → contains new n ≡ contains found n || contains named n) → take (length found) new ≡ found →
    Searches nodes last (done + 1) new after
Searches-more nodes last done found new named marks after s h is long marked has kept = record {
  len = long ∙ s.len;
  marked = marked;
  begun = has last ∙ or_left (contains found last) (contains named last) s.begun;
  sound = λ n e. elim (or_cases (contains found n) (contains named n) (sym (has n) ∙ e)) [
    | inl q ↦ s.sound n q
    | inr q ↦ IsInRun-push nodes last (get_or found done 0) n (s.sound (get_or found done 0) (contains-at found done 0 h))
        (contains-to (arguments nodes (get_or found done 0)) n (ap (λ ys. contains ys n) is ∙ q))
  ];
  behind = omega (arith, ap length kept, length-take (length found) new);
  closed = λ k a lt q. elim (cases_lt k done) [
    | inl lt' ↦ has a ∙ or_left (contains found a) (contains named a)
        (s.closed k a lt' (ap (λ m. contains (arguments nodes m) a) (sym (kept_index found new k kept (omega arith))) ∙ q))
    | inr ge ↦ has a ∙ or_right (contains found a) (contains named a) (let same : k ≡ done = omega arith in
        ap (λ ys. contains ys a) (sym is) ∙ ap (λ m. contains (arguments nodes m) a) (sym (ap (λ i. get_or found i 0) same) ∙ sym (kept_index found new k kept (omega arith))) ∙ q)
  ];
}

Searches-all : (nodes : List Node) (last done : ℕ) (found : List ℕ) (marks : List Bool) → IsAcyclic nodes → RefersWithin nodes → last < length nodes →
    Searches nodes last done found marks → length found ≤ done → (n : ℕ) → get_or marks n false ≡ in_run nodes last n
Searches-all nodes last done found marks acyclic w l s all n =
    bool_iff (get_or marks n false) (in_run nodes last n)
    (λ e. in_run-complete nodes last n acyclic w l (s.sound n (sym (s.marked.same n) ∙ e)))
    (λ e. s.marked.same n ∙ has (in_run-sound nodes last n e))
  where
    closed : (m a : ℕ) → contains found m ≡ true → contains (arguments nodes m) a ≡ true → contains found a ≡ true
    closed m a e q = let at = contains-index found m e in
        s.closed at.0 a (omega (arith, at.1)) (ap (λ i. contains (arguments nodes i) a) at.2 ∙ q)

    has : IsInRun nodes last n → contains found n ≡ true
    has (inl e) = ap (contains found) e ∙ s.begun
    has (inr r) = closed_has found closed r s.begun

found_within : (nodes : List Node) (last done n : ℕ) (found : List ℕ) (marks : List Bool) → RefersWithin nodes → last < length nodes →
    Searches nodes last done found marks → contains found n ≡ true → n < length nodes
found_within nodes last done n found marks w l s e = IsInRun-within nodes last n w l (s.sound n e)

pub loop-done-init : goal.loop-done-init
loop-done-init c =
    let e = c.in_ok-mark_new.ensures in
    Searches-begin (graph_of c.args.nodes.now) c.args.last _ _ (e.len ∙ omega (arith, length-graph_of c.args.nodes.now, c.in_ok-marks.ensures.len, c.in_ok-marks.marks.ok.0)) e.marked (λ n. e.found n ∙ ap (λ ys. contains ys n || contains (c.args.last ∷ []) n) c.in_ok-found.ensures.items)

pub bounds-nodes-index : goal.bounds-nodes-index
bounds-nodes-index c =
    let xs = c.loop-done.found.items in
    let in' : c.loop-done.done < length xs = omega (arith, c.len.ensures, c.loop-done-test.true, c.loop-done.found.ok.0) in
    let is : c.index.result.now ≡ get_or xs c.loop-done.done 0 = get_or_read xs c.loop-done.done c.index.result.now in' c.index.ensures 0 in
    let h : get_or xs c.loop-done.done 0 < length (graph_of c.args.nodes.now) = found_within (graph_of c.args.nodes.now) c.args.last c.loop-done.done _ xs c.loop-done.marks.items c.requires.named (omega (arith, c.requires.last_named, length-graph_of c.args.nodes.now)) c.loop-done.invariant (contains-at xs c.loop-done.done 0 in') in
    omega (arith, length-graph_of c.args.nodes.now)

pub mark_new-requires-in-loop-done-clause-within : goal.mark_new-requires-in-loop-done-clause-within
mark_new-requires-in-loop-done-clause-within c = λ n e.
    let xs = c.loop-done.found.items in
    let nodes = graph_of c.args.nodes.now in
    let in' : c.loop-done.done < length xs = omega (arith, c.len.ensures, c.loop-done-test.true, c.loop-done.found.ok.0) in
    let is : c.index.result.now ≡ get_or xs c.loop-done.done 0 = get_or_read xs c.loop-done.done c.index.result.now in' c.index.ensures 0 in
    let h : get_or xs c.loop-done.done 0 < length nodes = found_within nodes c.args.last c.loop-done.done _ xs c.loop-done.marks.items c.requires.named (omega (arith, c.requires.last_named, length-graph_of c.args.nodes.now)) c.loop-done.invariant (contains-at xs c.loop-done.done 0 in') in
    let named : arguments nodes c.index.result.now ≡ c.as_slice.result.now = arguments-graph_of c.args.nodes.now c.index.result.now c.index-nodes-index.result (omega (arith, length-graph_of c.args.nodes.now)) c.index-nodes-index.is ∙ sym c.as_slice.ensures.value in
    let has : Contains (arguments nodes c.index.result.now) n = contains-to (arguments nodes c.index.result.now) n (ap (λ ys. contains ys n) named ∙ e) in
    let lt : n < length nodes = c.requires.named _ n has in
    omega (arith, c.loop-done.invariant.len)

pub loop-done-smaller : goal.loop-done-smaller
loop-done-smaller c =
    let m = c.loop-done.invariant in
    omega (arith, c.len.ensures, c.loop-done-test.true, c.loop-done.found.ok.0, m.marked.once, m.len, count_by-le-length (λ (b : Bool). b) c.loop-done.marks.items, length-graph_of c.args.nodes.now)

pub loop-done-preserved : goal.loop-done-preserved
loop-done-preserved c =
    let xs = c.loop-done.found.items in
    let nodes = graph_of c.args.nodes.now in
    let in' : c.loop-done.done < length xs = omega (arith, c.len.ensures, c.loop-done-test.true, c.loop-done.found.ok.0) in
    let is : c.index.result.now ≡ get_or xs c.loop-done.done 0 = get_or_read xs c.loop-done.done c.index.result.now in' c.index.ensures 0 in
    let h : get_or xs c.loop-done.done 0 < length nodes = found_within nodes c.args.last c.loop-done.done _ xs c.loop-done.marks.items c.requires.named (omega (arith, c.requires.last_named, length-graph_of c.args.nodes.now)) c.loop-done.invariant (contains-at xs c.loop-done.done 0 in') in
    let named : arguments nodes c.index.result.now ≡ c.as_slice.result.now = arguments-graph_of c.args.nodes.now c.index.result.now c.index-nodes-index.result (omega (arith, length-graph_of c.args.nodes.now)) c.index-nodes-index.is ∙ sym c.as_slice.ensures.value in
    let e = c.in_ok-mark_new-2.ensures in
    Searches-more nodes c.args.last c.loop-done.done xs _ c.as_slice.result.now c.loop-done.marks.items _ c.loop-done.invariant in' (ap (arguments nodes) (sym is) ∙ named) e.len e.marked e.found e.kept

pub returns-clause-marks : goal.returns-clause-marks
returns-clause-marks c =
    Searches-all (graph_of c.args.nodes.now) c.args.last c.loop-done.done c.loop-done.found.items c.loop-done.marks.items c.requires.acyclic c.requires.named (omega (arith, c.requires.last_named, length-graph_of c.args.nodes.now)) c.loop-done.invariant (omega (arith, c.len.ensures, c.loop-done-test.false, c.loop-done.found.ok.0))

pub returns-clause-len : goal.returns-clause-len
returns-clause-len c = omega (arith, c.loop-done.invariant.len, length-graph_of c.args.nodes.now)
