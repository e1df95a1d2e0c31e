use Rattle.std.proofs.Common.{◌≡◌, ◌≢◌, ℕ, ◌-◌, ◌<◌, ◌≤◌, ◌&&◌, ◌||◌, not, eqb, Bool, true, false, List, Option, Some, None, length, get_or, set, refl, sym, ap, ◌∙◌, subst, inl, inr, arith}
use Rattle.std.specs.List.{slice_get}
use Rattle.std.specs.BinaryHeap.{heap_items}
use Rattle.std.specs.declared.cmp.Reverse.{Reverse}
use Rattle.std.proofs.lemmas.Bool.{cases_eq, eqb-true, eq-eqb}
use Rattle.std.proofs.lemmas.List.{get_or_read, get_or-set_same, get_or-set_other, length-set}
use Rattle.oe_order.specs.Graph.{Node, graph_of, arguments}
use Rattle.oe_order.specs.Order.{contains}
use Rattle.oe_order.specs.declared.Links.{Links}
use Rattle.oe_order.specs.Waiting.{IsKept, IsQueue, is_wanted}
use Rattle.oe_order.proofs.Graphs.{length-graph_of, arguments-graph_of}
use Rattle.oe_order.proofs.Gets.{get_some}
use Rattle.oe_order.proofs.Lists.{clash, contains-to}
use Rattle.oe_order.proofs.Pools.{marked_within}
use Rattle.oe_order.proofs.Kept.{IsKept-same, IsKept-unchain, IsKept-pass, Unchained, minus-same}
use Rattle.oe_order.proofs.Queues.{sum_falls, HasPassed-more, back_again}
use Rattle.oe_order.proofs.listing.Queue.release.Invariants.{Releases, to_pass}
use Rattle.oe_order.proofs.listing.Queue.release.Goals as goal

module _ (nodes : List Node) (x u : ℕ) (members0 members standing0 standing : List Bool) (steps0 steps : List ℕ) (first next : List (Option ℕ)) (passed : List ℕ) (ready : List (Reverse ℕ))
    (r : Releases nodes x members0 members standing0 standing steps0 steps first next passed ready) (stands : get_or standing x false ≡ true) (head : get_or first x None ≡ Some u) where
  x_within : x < length nodes
  x_within = omega (arith, marked_within standing x stands, r.queue.standing_len)

  out : Unchained nodes first next passed ready (is_wanted nodes members standing) x u
  out = IsKept-unchain nodes first next passed ready (is_wanted nodes members standing) x u r.queue.keeping x_within head

  u_within : u < length nodes
  u_within = r.queue.keeping.within u out.was

  -- the argument that it waits for stands, so it passes that one at least
  passes_on : (v : ℕ) → get_or passed u 0 ≤ v → ((a : ℕ) → slice_get (arguments nodes u) v ≡ Some a → get_or standing a false ≡ false) → get_or passed u 0 < v
  passes_on v up lacks' = elim (cases_eq (get_or passed u 0) v) [
    | inl e ↦ clash (get_or standing x false) stands (lacks' x (ap (slice_get (arguments nodes u)) (sym e) ∙ out.for))
    | inr ne ↦ omega arith
  ]

  falls : (v : ℕ) → get_or passed u 0 ≤ v → ((a : ℕ) → slice_get (arguments nodes u) v ≡ Some a → get_or standing a false ≡ false) → to_pass nodes (set passed u v) < to_pass nodes passed
  falls v up lacks' =
      let same : get_or (set passed u v) u 0 ≡ v = get_or-set_same passed u v 0 (omega (arith, u_within, r.queue.keeping.passes)) in
      sum_falls (λ n. length (arguments nodes n) - get_or (set passed u v) n 0) (λ n. length (arguments nodes n) - get_or passed n 0) 0 (length nodes) u
      (λ k. elim (cases_eq k u) [
        | inl e ↦ omega (arith, ap (λ m. get_or (set passed u v) m 0) e, ap (λ m. get_or passed m 0) e, same)
        | inr ne ↦ omega (arith, get_or-set_other passed u k v 0 ne)
      ])
      (omega arith) (omega (arith, u_within)) (omega (arith, same, passes_on v up lacks', get_some (arguments nodes u) (get_or passed u 0) x out.for))

  Releases-more : (v : ℕ) (members2 standing2 : List Bool) (steps2 : List ℕ) (first2 next2 : List (Option ℕ)) (passed2 : List ℕ) (ready2 : List (Reverse ℕ)) →
      get_or passed u 0 ≤ v →
      ((k : ℕ) → get_or passed u 0 ≤ k → k < v → k < length (arguments nodes u) → get_or standing (get_or (arguments nodes u) k 0) false ≡ true) →
      ((a : ℕ) → slice_get (arguments nodes u) v ≡ Some a → get_or standing a false ≡ false) →
      ((kept : ℕ → Bool) → kept u ≡ false → IsKept nodes kept (set first x (get_or next u None)) next (set passed u v) ready →
      IsKept nodes (λ n. kept n || eqb n u) first2 next2 passed2 ready2) →
      ((a : ℕ) → slice_get (arguments nodes u) (get_or (set passed u v) u 0) ≢ Some a → get_or first2 a None ≡ get_or (set first x (get_or next u None)) a None) →
      members2 ≡ members → standing2 ≡ standing → steps2 ≡ steps → passed2 ≡ set passed u v →
      Releases nodes x members0 members2 standing0 standing2 steps0 steps2 first2 next2 passed2 ready2
  Releases-more v members2 standing2 steps2 first2 next2 passed2 ready2 up stand lacks' kept others m s t p =
      let wanted = is_wanted nodes members standing in
      let gone : (wanted u && not (eqb u u)) ≡ false = minus-same (wanted u) (eqb u u) (eq-eqb u u refl) in
      let in' : u < length passed = omega (arith, u_within, r.queue.keeping.passes) in
      let back : IsKept nodes (λ n. (wanted n && not (eqb n u)) || eqb n u) first2 next2 passed2 ready2 =
      kept (λ n. wanted n && not (eqb n u)) gone (IsKept-pass nodes (set first x (get_or next u None)) next passed ready (λ n. wanted n && not (eqb n u)) u v out.now gone) in
      let again : IsKept nodes wanted first2 next2 passed2 ready2 =
      IsKept-same nodes first2 next2 passed2 ready2 (λ n. (wanted n && not (eqb n u)) || eqb n u) wanted (λ n. back_again (wanted n) (eqb n u) (λ e. ap wanted (eqb-true n u e) ∙ out.was)) back in
      let queue : IsQueue nodes wanted members standing steps first2 next2 passed2 ready2 = record {
        marked = r.queue.marked;
        partial = r.queue.partial;
        passing = subst (λ ps. (n k : ℕ) → k < get_or ps n 0 → k < length (arguments nodes n) → get_or standing (get_or (arguments nodes n) k 0) false ≡ true) (sym p) (HasPassed-more nodes standing passed u v r.queue.passing in' stand);
        keeping = again;
        standing_len = r.queue.standing_len;
        members_len = r.queue.members_len;
      } in
      record {
        queue = subst (λ ms. IsQueue nodes (is_wanted nodes ms standing2) ms standing2 steps2 first2 next2 passed2 ready2) (sym m)
            (subst (λ ss. IsQueue nodes (is_wanted nodes members ss) members ss steps2 first2 next2 passed2 ready2) (sym s)
            (subst (λ ts. IsQueue nodes wanted members standing ts first2 next2 passed2 ready2) (sym t) queue));
        released = λ a ne e.
            let e' : get_or standing a false ≡ true = ap (λ ss. get_or ss a false) (sym s) ∙ e in
            others a (λ q. clash (get_or standing a false) e' (lacks' a (ap (slice_get (arguments nodes u)) (sym (get_or-set_same passed u v 0 in')) ∙ q)))
            ∙ get_or-set_other first x a (get_or next u None) None ne ∙ r.released a ne e';
        same_members = m ∙ r.same_members;
        same_standing = s ∙ r.same_standing;
        same_steps = t ∙ r.same_steps;
      }

pub index-requires-in-Some : goal.index-requires-in-Some
index-requires-in-Some c =
    let q = c.loop-waiting.self in
    let nodes = graph_of c.args.nodes.now in
    let x = c.args.node in
    let u = c.in-Some.waiting in
    let i = c.loop-waiting.invariant in
    let st : get_or q.standing.items x false ≡ true = ap (λ ss. get_or ss x false) i.same_standing ∙ c.requires.releasing.stands in
    let xin : x < length q.first.items = omega (arith, marked_within q.standing.items x st, i.queue.standing_len, i.queue.keeping.firsts) in
    let head : get_or q.first.items x None ≡ Some u = sym (get_or_read q.first.items x c.index.result.now xin c.index.ensures None) ∙ c.in-Some.is in
    let h : u < length nodes = u_within _ _ u _ _ _ _ _ _ _ _ _ _ i st head in
    omega (arith, i.queue.keeping.nexts, q.next.ok.0)

pub bounds-nodes-waiting : goal.bounds-nodes-waiting
bounds-nodes-waiting c =
    let q = c.loop-waiting.self in
    let nodes = graph_of c.args.nodes.now in
    let x = c.args.node in
    let u = c.in-Some.waiting in
    let i = c.loop-waiting.invariant in
    let st : get_or q.standing.items x false ≡ true = ap (λ ss. get_or ss x false) i.same_standing ∙ c.requires.releasing.stands in
    let xin : x < length q.first.items = omega (arith, marked_within q.standing.items x st, i.queue.standing_len, i.queue.keeping.firsts) in
    let head : get_or q.first.items x None ≡ Some u = sym (get_or_read q.first.items x c.index.result.now xin c.index.ensures None) ∙ c.in-Some.is in
    let h : u < length nodes = u_within _ _ u _ _ _ _ _ _ _ _ _ _ i st head in
    omega (arith, length-graph_of c.args.nodes.now)

pub index-passed-requires : goal.index-passed-requires
index-passed-requires c =
    let q = c.loop-waiting.self in
    let nodes = graph_of c.args.nodes.now in
    let x = c.args.node in
    let u = c.in-Some.waiting in
    let i = c.loop-waiting.invariant in
    let st : get_or q.standing.items x false ≡ true = ap (λ ss. get_or ss x false) i.same_standing ∙ c.requires.releasing.stands in
    let xin : x < length q.first.items = omega (arith, marked_within q.standing.items x st, i.queue.standing_len, i.queue.keeping.firsts) in
    let head : get_or q.first.items x None ≡ Some u = sym (get_or_read q.first.items x c.index.result.now xin c.index.ensures None) ∙ c.in-Some.is in
    let h : u < length nodes = u_within _ _ u _ _ _ _ _ _ _ _ _ _ i st head in
    omega (arith, i.queue.keeping.passes, q.passed.ok.0)

pub first_missing-requires : goal.first_missing-requires
first_missing-requires c =
    let q = c.loop-waiting.self in
    let nodes = graph_of c.args.nodes.now in
    let x = c.args.node in
    let u = c.in-Some.waiting in
    let i = c.loop-waiting.invariant in
    let st : get_or q.standing.items x false ≡ true = ap (λ ss. get_or ss x false) i.same_standing ∙ c.requires.releasing.stands in
    let xin : x < length q.first.items = omega (arith, marked_within q.standing.items x st, i.queue.standing_len, i.queue.keeping.firsts) in
    let head : get_or q.first.items x None ≡ Some u = sym (get_or_read q.first.items x c.index.result.now xin c.index.ensures None) ∙ c.in-Some.is in
    let h : u < length nodes = u_within _ _ u _ _ _ _ _ _ _ _ _ _ i st head in
    let args : arguments nodes u ≡ c.as_slice-arguments.result.now = arguments-graph_of c.args.nodes.now u c.index-nodes-waiting.result (omega (arith, length-graph_of c.args.nodes.now)) c.index-nodes-waiting.is ∙ ap (λ (z : Links). z.arguments.items) c.index-nodes-waiting.is ∙ sym c.as_slice-arguments.ensures.value in
    record {
      within = λ n g.
          let lt : n < length nodes = c.requires.named u n (contains-to (arguments nodes u) n (ap (λ ys. contains ys n) args ∙ g)) in
          omega (arith, i.queue.standing_len, ap length c.as_slice.ensures.value);
    }

pub index_mut-requires-in-Some : goal.index_mut-requires-in-Some
index_mut-requires-in-Some c =
    let q = c.loop-waiting.self in
    let nodes = graph_of c.args.nodes.now in
    let x = c.args.node in
    let u = c.in-Some.waiting in
    let i = c.loop-waiting.invariant in
    let st : get_or q.standing.items x false ≡ true = ap (λ ss. get_or ss x false) i.same_standing ∙ c.requires.releasing.stands in
    let xin : x < length q.first.items = omega (arith, marked_within q.standing.items x st, i.queue.standing_len, i.queue.keeping.firsts) in
    let head : get_or q.first.items x None ≡ Some u = sym (get_or_read q.first.items x c.index.result.now xin c.index.ensures None) ∙ c.in-Some.is in
    let h : u < length nodes = u_within _ _ u _ _ _ _ _ _ _ _ _ _ i st head in
    omega (arith, i.queue.keeping.passes, q.passed.ok.0)

pub park-requires-clause-passes : goal.park-requires-clause-passes
park-requires-clause-passes c =
    let q = c.loop-waiting.self in
    let nodes = graph_of c.args.nodes.now in
    let x = c.args.node in
    let u = c.in-Some.waiting in
    let i = c.loop-waiting.invariant in
    let st : get_or q.standing.items x false ≡ true = ap (λ ss. get_or ss x false) i.same_standing ∙ c.requires.releasing.stands in
    let xin : x < length q.first.items = omega (arith, marked_within q.standing.items x st, i.queue.standing_len, i.queue.keeping.firsts) in
    let head : get_or q.first.items x None ≡ Some u = sym (get_or_read q.first.items x c.index.result.now xin c.index.ensures None) ∙ c.in-Some.is in
    let h : u < length nodes = u_within _ _ u _ _ _ _ _ _ _ _ _ _ i st head in
    omega (arith, i.queue.keeping.passes, length-set q.passed.items u c.first_missing.result)

pub park-requires-clause-nexts : goal.park-requires-clause-nexts
park-requires-clause-nexts c =
    let q = c.loop-waiting.self in
    let nodes = graph_of c.args.nodes.now in
    let x = c.args.node in
    let u = c.in-Some.waiting in
    let i = c.loop-waiting.invariant in
    let st : get_or q.standing.items x false ≡ true = ap (λ ss. get_or ss x false) i.same_standing ∙ c.requires.releasing.stands in
    let xin : x < length q.first.items = omega (arith, marked_within q.standing.items x st, i.queue.standing_len, i.queue.keeping.firsts) in
    let head : get_or q.first.items x None ≡ Some u = sym (get_or_read q.first.items x c.index.result.now xin c.index.ensures None) ∙ c.in-Some.is in
    let h : u < length nodes = u_within _ _ u _ _ _ _ _ _ _ _ _ _ i st head in
    omega (arith, i.queue.keeping.nexts)

pub park-requires-clause-within : goal.park-requires-clause-within
park-requires-clause-within c =
    let q = c.loop-waiting.self in
    let nodes = graph_of c.args.nodes.now in
    let x = c.args.node in
    let u = c.in-Some.waiting in
    let i = c.loop-waiting.invariant in
    let st : get_or q.standing.items x false ≡ true = ap (λ ss. get_or ss x false) i.same_standing ∙ c.requires.releasing.stands in
    let xin : x < length q.first.items = omega (arith, marked_within q.standing.items x st, i.queue.standing_len, i.queue.keeping.firsts) in
    let head : get_or q.first.items x None ≡ Some u = sym (get_or_read q.first.items x c.index.result.now xin c.index.ensures None) ∙ c.in-Some.is in
    let h : u < length nodes = u_within _ _ u _ _ _ _ _ _ _ _ _ _ i st head in
    let args : arguments nodes u ≡ c.as_slice-arguments.result.now = arguments-graph_of c.args.nodes.now u c.index-nodes-waiting.result (omega (arith, length-graph_of c.args.nodes.now)) c.index-nodes-waiting.is ∙ ap (λ (z : Links). z.arguments.items) c.index-nodes-waiting.is ∙ sym c.as_slice-arguments.ensures.value in
    λ n g.
    let lt : n < length nodes = c.requires.named u n (contains-to (arguments nodes u) n (ap (λ ys. contains ys n) args ∙ g)) in
    omega (arith, i.queue.keeping.firsts, length-set q.first.items x c.index-in-Some.result.now)

pub loop-waiting-smaller : goal.loop-waiting-smaller
loop-waiting-smaller c =
    let q = c.loop-waiting.self in
    let nodes = graph_of c.args.nodes.now in
    let x = c.args.node in
    let u = c.in-Some.waiting in
    let i = c.loop-waiting.invariant in
    let st : get_or q.standing.items x false ≡ true = ap (λ ss. get_or ss x false) i.same_standing ∙ c.requires.releasing.stands in
    let xin : x < length q.first.items = omega (arith, marked_within q.standing.items x st, i.queue.standing_len, i.queue.keeping.firsts) in
    let head : get_or q.first.items x None ≡ Some u = sym (get_or_read q.first.items x c.index.result.now xin c.index.ensures None) ∙ c.in-Some.is in
    let h : u < length nodes = u_within _ _ u _ _ _ _ _ _ _ _ _ _ i st head in
    let args : arguments nodes u ≡ c.as_slice-arguments.result.now = arguments-graph_of c.args.nodes.now u c.index-nodes-waiting.result (omega (arith, length-graph_of c.args.nodes.now)) c.index-nodes-waiting.is ∙ ap (λ (z : Links). z.arguments.items) c.index-nodes-waiting.is ∙ sym c.as_slice-arguments.ensures.value in
    let ps = q.passed.items in
    let was : c.index-passed.result.now ≡ get_or ps u 0 = get_or_read ps u c.index-passed.result.now (omega (arith, i.queue.keeping.passes)) c.index-passed.ensures 0 in
    let e = c.first_missing.ensures in
    let up : get_or ps u 0 ≤ c.first_missing.result = omega (arith, e.onwards) in
    let ss : c.as_slice.result.now ≡ q.standing.items = c.as_slice.ensures.value in
    let lacks' : (a : ℕ) → slice_get (arguments nodes u) c.first_missing.result ≡ Some a → get_or q.standing.items a false ≡ false =
    λ a g. ap (λ ys. get_or ys a false) (sym ss) ∙ e.lacks a (ap (λ ys. slice_get ys c.first_missing.result) (sym args) ∙ g) in
    subst (λ qs. to_pass nodes qs < to_pass nodes ps) (sym c.in_ok-park.ensures.passed)
    (falls _ _ u _ _ _ _ _ _ _ _ _ _ i st head c.first_missing.result up lacks')

pub loop-waiting-preserved : goal.loop-waiting-preserved
loop-waiting-preserved c =
    let q = c.loop-waiting.self in
    let nodes = graph_of c.args.nodes.now in
    let x = c.args.node in
    let u = c.in-Some.waiting in
    let i = c.loop-waiting.invariant in
    let st : get_or q.standing.items x false ≡ true = ap (λ ss. get_or ss x false) i.same_standing ∙ c.requires.releasing.stands in
    let xin : x < length q.first.items = omega (arith, marked_within q.standing.items x st, i.queue.standing_len, i.queue.keeping.firsts) in
    let head : get_or q.first.items x None ≡ Some u = sym (get_or_read q.first.items x c.index.result.now xin c.index.ensures None) ∙ c.in-Some.is in
    let h : u < length nodes = u_within _ _ u _ _ _ _ _ _ _ _ _ _ i st head in
    let args : arguments nodes u ≡ c.as_slice-arguments.result.now = arguments-graph_of c.args.nodes.now u c.index-nodes-waiting.result (omega (arith, length-graph_of c.args.nodes.now)) c.index-nodes-waiting.is ∙ ap (λ (z : Links). z.arguments.items) c.index-nodes-waiting.is ∙ sym c.as_slice-arguments.ensures.value in
    let ps = q.passed.items in
    let was : c.index-passed.result.now ≡ get_or ps u 0 = get_or_read ps u c.index-passed.result.now (omega (arith, i.queue.keeping.passes)) c.index-passed.ensures 0 in
    let e = c.first_missing.ensures in
    let up : get_or ps u 0 ≤ c.first_missing.result = omega (arith, e.onwards) in
    let ss : c.as_slice.result.now ≡ q.standing.items = c.as_slice.ensures.value in
    let lacks' : (a : ℕ) → slice_get (arguments nodes u) c.first_missing.result ≡ Some a → get_or q.standing.items a false ≡ false =
    λ a g. ap (λ ys. get_or ys a false) (sym ss) ∙ e.lacks a (ap (λ ys. slice_get ys c.first_missing.result) (sym args) ∙ g) in
    let f : c.index-in-Some.result.now ≡ get_or q.next.items u None = get_or_read q.next.items u c.index-in-Some.result.now (omega (arith, i.queue.keeping.nexts)) c.index-in-Some.ensures None in
    let p = c.in_ok-park.ensures in
    Releases-more nodes x u _ _ _ _ _ _ _ _ _ _ i st head c.first_missing.result _ _ _ _ _ _ _ up
    (λ k lo hi lt. ap (λ ys. get_or q.standing.items (get_or ys k 0) false) args ∙ ap (λ ys. get_or ys (get_or c.as_slice-arguments.result.now k 0) false) (sym ss)
    ∙ e.stand k (omega arith) hi (omega (arith, ap length args)))
    lacks'
    (λ kept out k. p.kept nodes kept args h out (subst (λ o. IsKept nodes kept (set q.first.items x o) q.next.items (set ps u c.first_missing.result) (heap_items q.ready)) (sym f) k))
    (λ a ne. p.others a (λ g. ne (ap (λ ys. slice_get ys (get_or (set ps u c.first_missing.result) u 0)) args ∙ g)) ∙ ap (λ o. get_or (set q.first.items x o) a None) f)
    p.members p.standing p.steps p.passed

pub returns-clause-between : goal.returns-clause-between
returns-clause-between c =
    let q = c.loop-waiting.self in
    let x = c.args.node in
    let i = c.loop-waiting.invariant in
    let st : get_or q.standing.items x false ≡ true = ap (λ ss. get_or ss x false) i.same_standing ∙ c.requires.releasing.stands in
    let xin : x < length q.first.items = omega (arith, marked_within q.standing.items x st, i.queue.standing_len, i.queue.keeping.firsts) in
    record {
      wanted = i.queue;
      released = λ a e. elim (cases_eq a x) [
        | inl s ↦ ap (λ n. get_or q.first.items n None) s ∙ sym (get_or_read q.first.items x c.index.result.now xin c.index.ensures None) ∙ c.in_default.is
        | inr ne ↦ i.released a ne e
      ];
    }
