-- What holds between two steps of the order, from the start on.
use Rattle.std.proofs.Common.{◌≡◌, ℕ, zero, suc, ◌+◌, ◌<◌, ◌≤◌, Bool, true, false, eqb, ltb, ◌||◌, ◌&&◌, not, List, [], ◌∷◌, ◌++◌, length, get_or, set, replicate, Option, None, refl, sym, ap, ◌∙◌, subst, inl, inr, arith}
use Rattle.std.specs.List.{range_with_len, sum_by}
use Rattle.std.specs.Ordering.{nat_cmp}
use Rattle.std.specs.BinaryHeap.{IsHeap}
use Rattle.std.specs.declared.cmp.Reverse.{Reverse}
use Rattle.std.proofs.lemmas.Bool.{cases_eq, cases_lt, false≢true, eq-eqb, ne_eqb, eqb-true, or_right, or_cases, lt-ltb, le-ltb}
use Rattle.std.proofs.lemmas.List.{get_or-set_same, get_or-set_other, get_or_append_left, get_or_at, length-set, length_push, length-replicate}
use Rattle.std.proofs.lemmas.List.Sums.{sum_by-cons}
use Rattle.oe_order.specs.Graph.{Node, arguments, is_load}
use Rattle.oe_order.specs.Order.{contains}
use Rattle.oe_order.specs.Marks.{IsMarked}
use Rattle.oe_order.specs.Waiting.{IsKept, IsQueue, IsPartial, HasPassed, is_wanted}
use Rattle.oe_order.proofs.Lists.{clash, contains-at, contains-index, contains-push, IsMarked-none, IsMarked-set, IsMarked-count, or_swap}
use Rattle.oe_order.proofs.Kept.{IsKept-same, ready_times, minus-same, minus-other, or-none}

none_at : (count a : ℕ) → get_or (replicate count (let n : Option ℕ = None in n)) a None ≡ None
none_at zero a = refl
none_at (suc n) zero = refl
none_at (suc n) (suc a) = none_at n a

abbrev pub zeros : ℕ → List ℕ
zeros count = replicate count 0

zero_at : (count n : ℕ) → get_or (zeros count) n 0 ≡ 0
zero_at zero n = refl
zero_at (suc k) zero = refl
zero_at (suc k) (suc n) = zero_at k n

pub IsQueue-none : (nodes : List Node) (members standing : List Bool) (steps : List ℕ) (first next : List (Option ℕ)) (passed : List ℕ) (ready : List (Reverse ℕ)) (count : ℕ) →
    length nodes ≡ count → length members ≡ count → standing ≡ replicate count false → steps ≡ [] → first ≡ replicate count None → length next ≡ count →
    passed ≡ zeros count → ready ≡ [] → IsHeap (λ (x y : Reverse ℕ). nat_cmp y.0 x.0) ready →
    IsQueue nodes (λ n. false) members standing steps first next passed ready
IsQueue-none nodes members standing steps first next passed ready count n m s t f x p r heap = record {
  marked = subst (λ ys. IsMarked standing ys) (sym t) (subst (λ ms. IsMarked ms []) (sym s) (IsMarked-none count));
  partial = record {
    once = λ i j h g. absurd (omega (arith, ap length t));
    member = λ k e. absurd (false≢true (sym (ap (λ ys. contains ys k) t) ∙ e));
    arguments_first = λ j a h. absurd (omega (arith, ap length t));
  };
  passing = λ i k h. absurd (omega (arith, ap (λ ys. get_or ys i 0) p, zero_at count i));
  keeping = record {
    chains = λ a. [];
    chained = λ a h. ap (λ ys. get_or ys a None) f ∙ none_at count a;
    waiting = λ i a. refl;
    queued = λ i. ap (λ rs. ready_times rs i) r;
    least_first = heap;
    within = λ i h. absurd (false≢true h);
    firsts = ap length f ∙ length-replicate count None ∙ sym n;
    nexts = x ∙ sym n;
    passes = ap length p ∙ length-replicate count 0 ∙ sym n;
  };
  standing_len = ap length s ∙ length-replicate count false ∙ sym n;
  members_len = m ∙ sym n;
}

-- a sum falls where one part falls and no part rises
pub sum_falls : (f g : ℕ → ℕ) (a n u : ℕ) → ((k : ℕ) → f k ≤ g k) → a ≤ u → u < a + n → f u < g u → sum_by f (range_with_len a n) < sum_by g (range_with_len a n)
sum_falls f g a zero u le low high less = absurd (omega arith)
sum_falls f g a (suc n) u le low high less =
    let left = sum_by-cons f a (range_with_len (a + 1) n) in
    let right = sum_by-cons g a (range_with_len (a + 1) n) in
    elim (cases_eq a u) [
      | inl e ↦ let h : f a < g a = subst (λ k. f k < g k) (sym e) less in omega (arith, left, right, h, sum_no_more f g (a + 1) n le)
      | inr ne ↦ let h : u < (a + 1) + n = omega arith in let l : a + 1 ≤ u = omega arith in omega (arith, left, right, le a, sum_falls f g (a + 1) n u le l h less)
    ]
  where
    sum_no_more : (f g : ℕ → ℕ) (a n : ℕ) → ((k : ℕ) → f k ≤ g k) → sum_by f (range_with_len a n) ≤ sum_by g (range_with_len a n)
    sum_no_more f g a zero le = omega arith
    sum_no_more f g a (suc n) le = omega (arith, sum_by-cons f a (range_with_len (a + 1) n), sum_by-cons g a (range_with_len (a + 1) n), le a, sum_no_more f g (a + 1) n le)

-- a node that waited passes what stands
pub HasPassed-more : (nodes : List Node) (standing : List Bool) (passed : List ℕ) (u v : ℕ) → HasPassed nodes standing passed → u < length passed →
    ((k : ℕ) → get_or passed u 0 ≤ k → k < v → k < length (arguments nodes u) → get_or standing (get_or (arguments nodes u) k 0) false ≡ true) →
    HasPassed nodes standing (set passed u v)
HasPassed-more nodes standing passed u v h in' stand = λ n k lt short. elim (cases_eq n u) [
  | inl e ↦ (let at : get_or (set passed u v) n 0 ≡ v = ap (λ m. get_or (set passed u v) m 0) e ∙ get_or-set_same passed u v 0 in' in
      subst (λ m. get_or standing (get_or (arguments nodes m) k 0) false ≡ true) (sym e)
      (elim (cases_lt k (get_or passed u 0)) [
        | inl less ↦ h u k less (subst (λ m. k < length (arguments nodes m)) e short)
        | inr more ↦ stand k more (omega (arith, at)) (subst (λ m. k < length (arguments nodes m)) e short)
      ]))
  | inr ne ↦ h n k (subst (λ m. k < m) (get_or-set_other passed u n v 0 ne) lt) short
]

-- a node that came out of a chain and went on is kept as before
pub back_again : (a b : Bool) → (b ≡ true → a ≡ true) → a ≡ (a && not b) || b
back_again true true h = refl
back_again true false h = refl
back_again false true h = h refl
back_again false false h = refl

-- the kept nodes are kept in another way
pub IsQueue-with : (nodes : List Node) (kept kept' : ℕ → Bool) (members standing : List Bool) (steps : List ℕ) (first next first' next' : List (Option ℕ)) (passed : List ℕ) (ready ready' : List (Reverse ℕ)) →
    IsQueue nodes kept members standing steps first next passed ready → IsKept nodes kept' first' next' passed ready' → IsQueue nodes kept' members standing steps first' next' passed ready'
IsQueue-with nodes kept kept' members standing steps first next first' next' passed ready ready' q k = record {
  marked = q.marked;
  partial = q.partial;
  passing = q.passing;
  keeping = k;
  standing_len = q.standing_len;
  members_len = q.members_len;
}

-- what stands still stands once one more does
still_stands : (standing : List Bool) (x k : ℕ) → x < length standing → get_or standing k false ≡ true → get_or (set standing x true) k false ≡ true
still_stands standing x k h e = elim (cases_eq k x) [
  | inl q ↦ ap (λ m. get_or (set standing x true) m false) q ∙ get_or-set_same standing x true false h
  | inr ne ↦ get_or-set_other standing x k true false ne ∙ e
]

IsPartial-push : (nodes : List Node) (members : List Bool) (steps : List ℕ) (x : ℕ) → IsPartial nodes members steps → contains steps x ≡ false → get_or members x false ≡ true →
    (is_load nodes x ≡ false → (a : ℕ) → contains (arguments nodes x) a ≡ true → contains steps a ≡ true) → IsPartial nodes members (steps ++ x ∷ [])
IsPartial-push nodes members steps x p new' member args =
    let old_at : (i : ℕ) → i < length steps → get_or (steps ++ x ∷ []) i 0 ≡ get_or steps i 0 = λ i h. get_or_append_left steps (x ∷ []) 0 i h in
    let new_at : (i : ℕ) → i ≡ length steps → get_or (steps ++ x ∷ []) i 0 ≡ x = λ i e. get_or_at steps x [] 0 i (sym e) in
    let long = length_push steps x in
    record {
      once = λ i j h g e. elim (cases_lt j (length steps)) [
        | inl lt ↦ p.once i j h lt (sym (old_at i (omega arith)) ∙ e ∙ old_at j lt)
        | inr ge ↦ clash (contains steps x) (ap (contains steps) (sym (sym (old_at i (omega (arith, long))) ∙ e ∙ new_at j (omega (arith, long)))) ∙ contains-at steps i 0 (omega (arith, long))) new'
      ];
      member = λ n e. elim (or_cases (contains steps n) (eqb x n) (sym (contains-push steps x n) ∙ e)) [
        | inl q ↦ p.member n q
        | inr q ↦ ap (λ m. get_or members m false) (sym (eqb-true x n q)) ∙ member
      ];
      arguments_first = λ j a h free e. elim (cases_lt j (length steps)) [
        | inl lt ↦ (let w = p.arguments_first j a lt (ap (is_load nodes) (sym (old_at j lt)) ∙ free) (ap (λ m. contains (arguments nodes m) a) (sym (old_at j lt)) ∙ e) in
            (w.0, w.1, old_at w.0 (omega (arith, w.1)) ∙ w.2))
        | inr ge ↦ (let at = new_at j (omega (arith, long)) in
            let w = contains-index steps a (args (ap (is_load nodes) (sym at) ∙ free) a (ap (λ m. contains (arguments nodes m) a) (sym at) ∙ e)) in
            (w.0, omega (arith, w.1), old_at w.0 w.1 ∙ w.2))
      ];
    }

-- a node is put behind those that stand
pub IsQueue-append : (nodes : List Node) (members standing : List Bool) (steps : List ℕ) (first next : List (Option ℕ)) (passed : List ℕ) (ready : List (Reverse ℕ)) (x : ℕ) (after : List ℕ) →
    IsQueue nodes (λ n. is_wanted nodes members standing n && not (eqb n x)) members standing steps first next passed ready → get_or members x false ≡ true →
    get_or standing x false ≡ false → (is_load nodes x ≡ false → (a : ℕ) → contains (arguments nodes x) a ≡ true → contains steps a ≡ true) → x < length nodes →
    after ≡ steps ++ x ∷ [] →
    IsQueue nodes (is_wanted nodes members (set standing x true)) members (set standing x true) after first next passed ready
IsQueue-append nodes members standing steps first next passed ready x after q member comes args in' is =
    let h : x < length standing = omega (arith, in', q.standing_len) in
    let new' : contains steps x ≡ false = sym (q.marked.same x) ∙ comes in
    subst (λ ts. IsQueue nodes (is_wanted nodes members (set standing x true)) members (set standing x true) ts first next passed ready) (sym is) (record {
      marked = record {
        same = λ n. IsMarked-set standing steps x n q.marked h ∙ or_swap (eqb x n) (contains steps n) ∙ sym (contains-push steps x n);
        once = IsMarked-count standing steps x q.marked h new' ∙ sym (length_push steps x);
      };
      partial = IsPartial-push nodes members steps x q.partial new' member args;
      passing = λ n k lt short. still_stands standing x (get_or (arguments nodes n) k 0) h (q.passing n k lt short);
      keeping = IsKept-same nodes first next passed ready (λ n. is_wanted nodes members standing n && not (eqb n x)) (is_wanted nodes members (set standing x true)) (λ n. elim (cases_eq n x) [
        | inl e ↦ none (get_or members n false) (is_load nodes n) (get_or (set standing x true) n false) (ap (λ m. get_or (set standing x true) m false) e ∙ get_or-set_same standing x true false h)
            ∙ sym (minus-same (is_wanted nodes members standing n) (eqb n x) (eq-eqb n x e))
        | inr ne ↦ ap (λ b. get_or members n false && (not (is_load nodes n) && not b)) (get_or-set_other standing x n true false ne)
            ∙ sym (minus-other (is_wanted nodes members standing n) (eqb n x) (ne_eqb n x ne))
      ]) q.keeping;
      standing_len = length-set standing x true ∙ q.standing_len;
      members_len = q.members_len;
    })
  where
    none : (m l s : Bool) → s ≡ true → m && (not l && not s) ≡ false
    none true true s e = refl
    none true false s e = ap not e
    none false l s e = refl

-- the kept nodes below one more index
pub kept_more : (kept : ℕ → Bool) (i n : ℕ) → kept i ≡ true → ltb n (i + 1) && kept n ≡ (ltb n i && kept n) || eqb n i
kept_more kept i n e = elim (cases_eq n i) [
  | inl q ↦ ap (λ b. b && kept n) (lt-ltb n (i + 1) (omega arith)) ∙ ap kept q ∙ e ∙ sym (or_right (ltb n i && kept n) (eqb n i) (eq-eqb n i q))
  | inr ne ↦ ap (λ b. b && kept n) (same_below i n ne) ∙ sym (or-none (ltb n i && kept n) (eqb n i) (ne_eqb n i ne))
]
  where
    same_below : (i n : ℕ) → (n ≡ i → ⊥) → ltb n (i + 1) ≡ ltb n i
    same_below i n ne = elim (cases_lt n i) [
      | inl lt ↦ lt-ltb n (i + 1) (omega arith) ∙ sym (lt-ltb n i lt)
      | inr ge ↦ le-ltb n (i + 1) (omega arith) ∙ sym (le-ltb n i ge)
    ]

pub kept_no_more : (kept : ℕ → Bool) (i n : ℕ) → kept i ≡ false → ltb n (i + 1) && kept n ≡ ltb n i && kept n
kept_no_more kept i n e = elim (cases_eq n i) [
  | inl q ↦ ap (λ b. ltb n (i + 1) && b) (ap kept q ∙ e) ∙ second (ltb n (i + 1)) ∙ sym (ap (λ b. ltb n i && b) (ap kept q ∙ e) ∙ second (ltb n i))
  | inr ne ↦ ap (λ b. b && kept n) (elim (cases_lt n i) [
    | inl lt ↦ lt-ltb n (i + 1) (omega arith) ∙ sym (lt-ltb n i lt)
    | inr ge ↦ le-ltb n (i + 1) (omega arith) ∙ sym (le-ltb n i ge)
  ])
]
  where
    second : (b : Bool) → b && false ≡ false
    second true = refl
    second false = refl

-- a wanted node, by its parts
pub is_wanted-from : (nodes : List Node) (members standing : List Bool) (n : ℕ) → get_or members n false ≡ true → is_load nodes n ≡ false → get_or standing n false ≡ false →
    is_wanted nodes members standing n ≡ true
is_wanted-from nodes members standing n m l s = ap (λ b. b && (not (is_load nodes n) && not (get_or standing n false))) m ∙ ap (λ b. not b && not (get_or standing n false)) l ∙ ap not s

pub record Wanted (nodes : List Node) (members standing : List Bool) (n : ℕ) : Type 0 where
  pub member : get_or members n false ≡ true
  pub no_load : is_load nodes n ≡ false
  pub comes : get_or standing n false ≡ false

pub is_wanted-to : (nodes : List Node) (members standing : List Bool) (n : ℕ) → is_wanted nodes members standing n ≡ true → Wanted nodes members standing n
is_wanted-to nodes members standing n e = record {
  member = one (get_or members n false) (is_load nodes n) (get_or standing n false) e;
  no_load = two (get_or members n false) (is_load nodes n) (get_or standing n false) e;
  comes = three (get_or members n false) (is_load nodes n) (get_or standing n false) e;
}
  where
    one : (m l s : Bool) → m && (not l && not s) ≡ true → m ≡ true
    one true l s e = refl
    one false l s e = e

    two : (m l s : Bool) → m && (not l && not s) ≡ true → l ≡ false
    two true true s e = absurd (false≢true e)
    two true false s e = refl
    two false l s e = absurd (false≢true e)

    three : (m l s : Bool) → m && (not l && not s) ≡ true → s ≡ false
    three true true s e = absurd (false≢true e)
    three true false true e = absurd (false≢true e)
    three true false false e = refl
    three false l s e = absurd (false≢true e)

pub is_wanted-member : (nodes : List Node) (members standing : List Bool) (n : ℕ) → get_or members n false ≡ false → is_wanted nodes members standing n ≡ false
is_wanted-member nodes members standing n e = ap (λ b. b && (not (is_load nodes n) && not (get_or standing n false))) e

pub is_wanted-load : (nodes : List Node) (members standing : List Bool) (n : ℕ) → is_load nodes n ≡ true → is_wanted nodes members standing n ≡ false
is_wanted-load nodes members standing n e = ap (λ b. get_or members n false && (not b && not (get_or standing n false))) e ∙ second (get_or members n false)
  where
    second : (b : Bool) → b && false ≡ false
    second true = refl
    second false = refl

-- a node that is not kept is none the less when it is left out
pub without_load : (kept : ℕ → Bool) (n i : ℕ) → kept i ≡ false → kept n && not (eqb n i) ≡ kept n
without_load kept n i out = elim (cases_eq n i) [
  | inl e ↦ gone (kept n) (not (eqb n i)) (ap kept e ∙ out)
  | inr ne ↦ minus-other (kept n) (eqb n i) (ne_eqb n i ne)
]
  where
    gone : (a b : Bool) → a ≡ false → a && b ≡ a
    gone true b e = absurd (false≢true (sym e))
    gone false b e = refl
