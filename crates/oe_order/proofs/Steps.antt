-- What is ready, what comes next, and that all of the run stands in the end.
use Rattle.std.proofs.Common.{◌≡◌, ℕ, zero, suc, ◌+◌, ◌<◌, ◌≤◌, Bool, true, false, eqb, ◌&&◌, not, List, [], ◌∷◌, length, get_or, set, Option, Some, None, refl, sym, ap, ◌∙◌, subst, inl, inr, arith}
use Rattle.std.specs.List.{Contains, list_all, slice_get}
use Rattle.std.specs.Option.{is_none}
use Rattle.std.specs.List.Sorted.{IsPermutation}
use Rattle.std.specs.Ordering.{nat_cmp}
use Rattle.std.specs.BinaryHeap.{IsHeap, IsUpperBound}
use Rattle.std.specs.declared.cmp.Reverse.{Reverse}
use Rattle.std.proofs.lemmas.Bool.{cases_lt, false≢true, false_from_ne_true, and_parts, and_from, eq-eqb}
use Rattle.std.proofs.lemmas.List.{length-set}
use Rattle.std.proofs.lemmas.List.Sums.{count_by-le-length}
use Rattle.oe_order.specs.Graph.{Node, arguments, is_load, IsAcyclic, RefersWithin, IsInRun}
use Rattle.oe_order.specs.Order.{contains, is_ready, next_of, IsListing}
use Rattle.oe_order.specs.Waiting.{IsKept, IsQueue, IsPartial, AllReleased, is_wanted, lacks, is_for, IsChain, marked_nodes}
use Rattle.oe_order.proofs.Gets.{get_at, get_is, get_some}
use Rattle.oe_order.proofs.Lists.{one_if, bool_split, contains-at, contains-index, contains-from, contains-to}
use Rattle.oe_order.proofs.Reach.{IsPath, IsPath-none, IsPath-push, IsPath-short, IsInRun-push, IsInRun-within}
use Rattle.oe_order.proofs.Pools.{marked_within, count-set_true}
use Rattle.oe_order.proofs.Kept.{ready_times, no_chain, IsKept-pop, least_of}
use Rattle.oe_order.proofs.Queues.{is_wanted-from, is_wanted-to}
use Rattle.oe_order.proofs.Nexts.{list_all-from, list_all-to, list_all-fails, next_of-first, next_of-none, next_of-not_ready, contains-marked_from}

-- the tests of a node that is ready
ready_parts : (nodes : List Node) (steps : List ℕ) (n : ℕ) → is_ready nodes steps n ≡ true → (contains steps n ≡ false) × (list_all (contains steps) (arguments nodes n) ≡ true)
ready_parts nodes steps n e = let w = and_parts (not (contains steps n)) (list_all (contains steps) (arguments nodes n)) e in (turn (contains steps n) w.0, w.1)
  where
    turn : (b : Bool) → not b ≡ true → b ≡ false
    turn true e = sym e
    turn false e = refl

pub ready_from : (nodes : List Node) (steps : List ℕ) (n : ℕ) → contains steps n ≡ false → list_all (contains steps) (arguments nodes n) ≡ true → is_ready nodes steps n ≡ true
ready_from nodes steps n a b = and_from (not (contains steps n)) (list_all (contains steps) (arguments nodes n)) (ap not a) b

past_none : (xs : List ℕ) (i : ℕ) → slice_get xs i ≡ None → length xs ≤ i
past_none xs i e = elim (cases_lt i (length xs)) [
  | inl h ↦ absurd (none (sym (get_at xs i h) ∙ e))
  | inr h ↦ h
]
  where
    none : {a : ℕ} → Some a ≡ None → ⊥
    none e = cc

module _ (nodes : List Node) (members standing : List Bool) (steps : List ℕ) (first next : List (Option ℕ)) (passed : List ℕ) (ready : List (Reverse ℕ))
    (q : IsQueue nodes (is_wanted nodes members standing) members standing steps first next passed ready) (released : AllReleased standing first) where
  -- a wanted node all of whose arguments stand is in the heap
  ready_in : (n : ℕ) → is_wanted nodes members standing n ≡ true → list_all (contains steps) (arguments nodes n) ≡ true → 0 < ready_times ready n
  ready_in n w all = by_lack (lacks nodes passed n) refl
    where
      by_lack : (o : Option ℕ) → lacks nodes passed n ≡ o → 0 < ready_times ready n
      by_lack None e = omega (arith, q.keeping.queued n, ap one_if (ap (λ b. b && is_none (lacks nodes passed n)) w ∙ ap is_none e))
      by_lack (Some a) e =
          let i = get_or passed n 0 in
          let here : contains (arguments nodes n) a ≡ true = ap (contains (arguments nodes n)) (sym (get_is (arguments nodes n) i a e)) ∙ contains-at (arguments nodes n) i 0 (get_some (arguments nodes n) i a e) in
          let stands : get_or standing a false ≡ true = q.marked.same a ∙ list_all-to (contains steps) (arguments nodes n) a all here in
          let in' : a < length nodes = omega (arith, marked_within standing a stands, q.standing_len) in
          let none = no_chain next (q.keeping.chains a) n (subst (λ o. IsChain next o (q.keeping.chains a)) (released a stands) (q.keeping.chained a in')) in
          absurd (omega (arith, none, q.keeping.waiting n a, ap one_if (ap (λ b. b && is_for (lacks nodes passed n) a) w ∙ ap (λ o. is_for o a) e ∙ eq-eqb a a refl)))

  -- a ready member of the run is in the heap, once the load nodes stand
  ready_member : ((n : ℕ) → get_or members n false ≡ true → is_load nodes n ≡ true → contains steps n ≡ true) → (n : ℕ) → get_or members n false ≡ true → is_ready nodes steps n ≡ true → 0 < ready_times ready n
  ready_member loads n m e =
      let w = ready_parts nodes steps n e in
      let free : is_load nodes n ≡ false = false_from_ne_true (is_load nodes n) (λ l. false≢true (sym w.0 ∙ loads n m l)) in
      ready_in n (is_wanted-from nodes members standing n m free (q.marked.same n ∙ w.0)) w.1

  -- nothing is ready where the heap is empty
  pub none_next : ((n : ℕ) → get_or members n false ≡ true → is_load nodes n ≡ true → contains steps n ≡ true) → ((n : ℕ) → ready_times ready n ≡ 0) →
      next_of nodes (marked_nodes members (length nodes)) steps ≡ None
  none_next loads empty = next_of-none nodes members steps (λ m h. false_from_ne_true (is_ready nodes steps m) (λ e. omega (arith, empty m, ready_member loads m h e)))

  -- a node that comes out of the heap comes next
  pub record Next (r : Reverse ℕ) (after : List (Reverse ℕ)) : Type 0 where
    pub member : get_or members r.0 false ≡ true
    pub no_load : is_load nodes r.0 ≡ false
    pub comes : get_or standing r.0 false ≡ false
    pub arguments_stand : (a : ℕ) → contains (arguments nodes r.0) a ≡ true → contains steps a ≡ true
    pub kept : IsKept nodes (λ n. is_wanted nodes members standing n && not (eqb n r.0)) first next passed after
    pub is_next : next_of nodes (marked_nodes members (length nodes)) steps ≡ Some r.0
    pub room : length steps < length nodes

  pub next-pop : ((n : ℕ) → get_or members n false ≡ true → is_load nodes n ≡ true → contains steps n ≡ true) → (r : Reverse ℕ) (after : List (Reverse ℕ)) →
      IsPermutation ready (r ∷ after) → IsHeap (λ (x y : Reverse ℕ). nat_cmp y.0 x.0) after → IsUpperBound (λ (x y : Reverse ℕ). nat_cmp y.0 x.0) r ready → Next r after
  next-pop loads r after moved heap top =
      let x = r.0 in
      let p = IsKept-pop nodes first next passed ready (is_wanted nodes members standing) r after q.keeping moved heap in
      let w = is_wanted-to nodes members standing x p.was in
      let all : (a : ℕ) → contains (arguments nodes x) a ≡ true → contains steps a ≡ true =
      λ a e. let at = contains-index (arguments nodes x) a e in
      sym (q.marked.same a) ∙ ap (λ b. get_or standing b false) (sym at.2) ∙ q.passing x at.0 (omega (arith, at.1, past_none (arguments nodes x) (get_or passed x 0) p.for)) at.1 in
      let new' : contains steps x ≡ false = sym (q.marked.same x) ∙ w.comes in
      let in' : x < length nodes = q.keeping.within x p.was in
      record {
        member = w.member;
        no_load = w.no_load;
        comes = w.comes;
        arguments_stand = all;
        kept = p.now;
        is_next = next_of-first nodes members steps x in' w.member (ready_from nodes steps x new' (list_all-from (contains steps) (arguments nodes x) all))
            (λ m lt h. false_from_ne_true (is_ready nodes steps m) (λ e. omega (arith, least_of r ready m top (ready_member loads m h e))));
        room = omega (arith, q.marked.once, q.standing_len, count-set_true standing x (omega (arith, q.standing_len)) w.comes, count_by-le-length (λ (b : Bool). b) (set standing x true), length-set standing x true);
      }

-- once no node of the run is ready, all of them stand
all_stand : (nodes : List Node) (last : ℕ) (run steps : List ℕ) → IsAcyclic nodes → RefersWithin nodes → last < length nodes →
    ((n : ℕ) → IsInRun nodes last n → contains run n ≡ true) → next_of nodes run steps ≡ None →
    (most : ℕ) (path : List ℕ) (n : ℕ) → IsPath nodes path n → length nodes ≤ most + length path → IsInRun nodes last n → contains steps n ≡ false → ⊥
all_stand nodes last run steps acyclic w l has none zero path n p m r e =
    omega (arith, IsPath-short nodes path n acyclic (IsInRun-within nodes last n w l r) p)
all_stand nodes last run steps acyclic w l has none (suc most) path n p m r e =
    let waits : list_all (contains steps) (arguments nodes n) ≡ false =
    false_from_ne_true (list_all (contains steps) (arguments nodes n)) (λ all. false≢true (sym (next_of-not_ready nodes run steps n none (has n r)) ∙ ready_from nodes steps n e all)) in
    let a = list_all-fails (contains steps) (arguments nodes n) waits in
    let h : Contains (arguments nodes n) a.0 = contains-to (arguments nodes n) a.0 a.1 in
    all_stand nodes last run steps acyclic w l has none most (n ∷ path) a.0 (IsPath-push nodes path n a.0 acyclic (IsInRun-within nodes last n w l r) p h) (omega arith)
    (IsInRun-push nodes last n a.0 r h) a.2

pub IsListing-from : (nodes : List Node) (last : ℕ) (members : List Bool) (steps : List ℕ) → IsAcyclic nodes → RefersWithin nodes → last < length nodes →
    ((n : ℕ) → get_or members n false ≡ true → IsInRun nodes last n) → ((n : ℕ) → IsInRun nodes last n → get_or members n false ≡ true) →
    IsPartial nodes members steps → next_of nodes (marked_nodes members (length nodes)) steps ≡ None → IsListing nodes last steps
IsListing-from nodes last members steps acyclic w l sound complete p none = record {
  once = p.once;
  members = λ n. (
    (λ h. sound n (p.member n (contains-from steps n h))),
    (λ r. contains-to steps n (elim (bool_split (contains steps n)) [
      | inl t ↦ t
      | inr f ↦ absurd (all_stand nodes last (marked_nodes members (length nodes)) steps acyclic w l
          (λ n r. contains-marked_from members (length nodes) n (IsInRun-within nodes last n w l r) (complete n r)) none (length nodes) [] n (IsPath-none nodes n) (omega arith) r f)
    ])),
  );
  arguments_first = λ j a h free e. p.arguments_first j a h free (contains-from (arguments nodes (get_or steps j 0)) a e);
}
