-- The chains that nodes wait in and the heap of the ready: a node goes in, comes out, and goes on.
use Rattle.std.proofs.Common.{◌≡◌, ℕ, ◌+◌, ◌<◌, ◌≤◌, Bool, true, false, cond, eqb, ◌||◌, ◌&&◌, not, List, [], ◌∷◌, length, get_or, set, Option, Some, None, refl, sym, ap, ◌∙◌, subst, inl, inr, arith}
use Rattle.std.specs.List.{count_by, slice_get}
use Rattle.std.specs.List.Sorted.{IsPermutation}
use Rattle.std.specs.Option.{is_none}
use Rattle.std.specs.Ordering.{nat_cmp, is_lt}
use Rattle.std.specs.BinaryHeap.{IsHeap, IsUpperBound}
use Rattle.std.specs.declared.cmp.Reverse.{Reverse}
use Rattle.std.specs.declared.cmp.Ordering.TheVariants.{Less, Equal, Greater}
use Rattle.std.proofs.lemmas.Bool.{cases_eq, cases_lt, false≢true, eq-eqb, ne_eqb, eqb-true, or_right, or_cases, lt-ltb}
use Rattle.std.proofs.lemmas.List.{get_or-set_same, get_or-set_other, length-set}
use Rattle.std.proofs.lemmas.List.Sums.{sum_by-cons}
use Rattle.std.proofs.lemmas.List.Sorted.{sum_by_pushed, sum_by_popped}
use Rattle.oe_order.specs.Graph.{Node, arguments}
use Rattle.oe_order.specs.Order.{contains}
use Rattle.oe_order.specs.Waiting.{IsChain, lacks, is_for, IsKept}
use Rattle.oe_order.proofs.Lists.{clash, one_if}

-- how often a list has n
abbrev pub times : List ℕ → ℕ → ℕ
times xs n = count_by (λ m. eqb m n) xs

-- how often the ready have n
abbrev pub ready_times : List (Reverse ℕ) → ℕ → ℕ
ready_times ready n = count_by (λ (r : Reverse ℕ). eqb r.0 n) ready

pub times-cons : (x : ℕ) (xs : List ℕ) (n : ℕ) → times (x ∷ xs) n ≡ one_if (eqb x n) + times xs n
times-cons x xs n = sum_by-cons (λ m. one_if (eqb m n)) x xs

pub contains-none : (xs : List ℕ) (n : ℕ) → times xs n ≡ 0 → contains xs n ≡ false
contains-none [] n e = refl
contains-none (x ∷ xs) n e = elim (cases_eq x n) [
  | inl q ↦ absurd (omega (arith, times-cons x xs n, ap one_if (eq-eqb x n q)))
  | inr ne ↦ ap (λ b. b || contains xs n) (ne_eqb x n ne) ∙ contains-none xs n (omega (arith, times-cons x xs n, ap one_if (ne_eqb x n ne)))
]

-- a chain that the changed node is not in stays
IsChain-set : (next : List (Option ℕ)) (first : Option ℕ) (ns : List ℕ) (k : ℕ) (v : Option ℕ) → contains ns k ≡ false → IsChain next first ns → IsChain (set next k v) first ns
IsChain-set next first [] k v absent h = h
IsChain-set next first (n ∷ ns) k v absent h =
    let w = apart (eqb n k) (contains ns k) absent in
    let other : get_or (set next k v) n None ≡ get_or next n None = get_or-set_other next k n v None (λ e. clash (eqb n k) (eq-eqb n k e) w.0) in
    (h.0, omega (arith, h.1, length-set next k v), subst (λ f. IsChain (set next k v) f ns) (sym other) (IsChain-set next (get_or next n None) ns k v w.1 h.2))
  where
    apart : (a b : Bool) → a || b ≡ false → (a ≡ false) × (b ≡ false)
    apart true b e = absurd (false≢true (sym e))
    apart false b e = (refl, e)

IsChain-first : (next : List (Option ℕ)) (f g : Option ℕ) (ns : List ℕ) → f ≡ g → IsChain next g ns → IsChain next f ns
IsChain-first next f g ns e h = subst (λ o. IsChain next o ns) (sym e) h

-- a chain that begins with u is u and a chain behind it
record Begins (next : List (Option ℕ)) (u : ℕ) (ns : List ℕ) : Type 0 where
  rest : List ℕ
  is : ns ≡ u ∷ rest
  chain : IsChain next (get_or next u None) rest

begins : (next : List (Option ℕ)) (u : ℕ) (ns : List ℕ) → IsChain next (Some u) ns → Begins next u ns
begins next u [] h = absurd (cc)
begins next u (n ∷ ns) h =
    let e : u ≡ n = let q = h.0 in cc in
    record { rest = ns; is = ap (λ m. m ∷ ns) (sym e); chain = IsChain-first next (get_or next u None) (get_or next n None) ns (ap (λ m. get_or next m None) e) h.2 }

-- an empty chain has no node
pub no_chain : (next : List (Option ℕ)) (ns : List ℕ) (n : ℕ) → IsChain next None ns → times ns n ≡ 0
no_chain next [] n h = refl
no_chain next (m ∷ ms) n h = let q = h.0 in absurd (cc)

is_for-same : (o : Option ℕ) (a : ℕ) → o ≡ Some a → is_for o a ≡ true
is_for-same o a e = ap (λ p. is_for p a) e ∙ eq-eqb a a refl

is_for-other : (o : Option ℕ) (a b : ℕ) → o ≡ Some a → (a ≡ b → ⊥) → is_for o b ≡ false
is_for-other o a b e ne = ap (λ p. is_for p b) e ∙ ne_eqb a b ne

is_for-to : (o : Option ℕ) (a : ℕ) → is_for o a ≡ true → o ≡ Some a
is_for-to None a e = absurd (false≢true e)
is_for-to (Some b) a e = ap Some (eqb-true b a e)

-- the number at a test of two parts
one_both : (a b : Bool) → a ≡ true → b ≡ true → one_if (a && b) ≡ 1
one_both true true p q = refl
one_both true false p q = absurd (false≢true q)
one_both false b p q = absurd (false≢true p)

one_left : (a b : Bool) → a ≡ false → one_if (a && b) ≡ 0
one_left true b p = absurd (false≢true (sym p))
one_left false b p = refl

one_right : (a b : Bool) → b ≡ false → one_if (a && b) ≡ 0
one_right true b p = ap one_if p
one_right false b p = refl

pub from_one : (a b : Bool) → 0 < one_if (a && b) → (a ≡ true) × (b ≡ true)
from_one true true h = (refl, refl)
from_one true false h = absurd (omega arith)
from_one false b h = absurd (omega arith)

pub minus-other : (a b : Bool) → b ≡ false → a && not b ≡ a
minus-other true b e = ap not e
minus-other false b e = refl

pub minus-same : (a b : Bool) → b ≡ true → a && not b ≡ false
minus-same true b e = ap not e
minus-same false b e = refl

pub or-none : (a b : Bool) → b ≡ false → a || b ≡ a
or-none true b e = refl
or-none false b e = e

module _ (nodes : List Node) (first next : List (Option ℕ)) (passed : List ℕ) (ready : List (Reverse ℕ)) where
  pub IsKept-same : (p q : ℕ → Bool) → ((n : ℕ) → q n ≡ p n) → IsKept nodes p first next passed ready → IsKept nodes q first next passed ready
  IsKept-same p q e k = record {
    chains = k.chains;
    chained = k.chained;
    waiting = λ n a. k.waiting n a ∙ ap (λ b. one_if (b && is_for (lacks nodes passed n) a)) (sym (e n));
    queued = λ n. k.queued n ∙ ap (λ b. one_if (b && is_none (lacks nodes passed n))) (sym (e n));
    least_first = k.least_first;
    within = λ n h. k.within n (sym (e n) ∙ h);
    firsts = k.firsts;
    nexts = k.nexts;
    passes = k.passes;
  }

  -- the first node of a chain comes out of it
  pub record Unchained (kept : ℕ → Bool) (x u : ℕ) : Type 0 where
    pub was : kept u ≡ true
    pub for : lacks nodes passed u ≡ Some x
    pub now : IsKept nodes (λ n. kept n && not (eqb n u)) (set first x (get_or next u None)) next passed ready

  pub IsKept-unchain : (kept : ℕ → Bool) (x u : ℕ) → IsKept nodes kept first next passed ready → x < length nodes → get_or first x None ≡ Some u → Unchained kept x u
  IsKept-unchain kept x u k h e =
      let b = begins next u (k.chains x) (IsChain-first next (Some u) (get_or first x None) (k.chains x) (sym e) (k.chained x h)) in
      let counted : (n : ℕ) → times (k.chains x) n ≡ one_if (eqb u n) + times b.rest n = λ n. ap (λ ns. times ns n) b.is ∙ times-cons u b.rest n in
      let both = from_one (kept u) (is_for (lacks nodes passed u) x) (omega (arith, counted u, k.waiting u x, ap one_if (eq-eqb u u refl))) in
      let for' : lacks nodes passed u ≡ Some x = is_for-to (lacks nodes passed u) x both.1 in
      record {
        was = both.0;
        for = for';
        now = record {
          chains = λ a. cond (eqb a x) b.rest (k.chains a);
          chained = λ a g. elim (cases_eq a x) [
            | inl q ↦ subst (λ ns. IsChain next (get_or (set first x (get_or next u None)) a None) ns) (sym (ap (λ t. cond t b.rest (k.chains a)) (eq-eqb a x q)))
                (IsChain-first next _ (get_or next u None) b.rest (ap (λ m. get_or (set first x (get_or next u None)) m None) q ∙ get_or-set_same first x (get_or next u None) None (omega (arith, k.firsts))) b.chain)
            | inr ne ↦ subst (λ ns. IsChain next (get_or (set first x (get_or next u None)) a None) ns) (sym (ap (λ t. cond t b.rest (k.chains a)) (ne_eqb a x ne)))
                (IsChain-first next _ (get_or first a None) (k.chains a) (get_or-set_other first x a (get_or next u None) None ne) (k.chained a g))
          ];
          waiting = λ n a. elim (cases_eq a x) [
            | inl q ↦ ap (λ t. times (cond t b.rest (k.chains a)) n) (eq-eqb a x q) ∙ subst (λ m. times b.rest n ≡ one_if ((kept n && not (eqb n u)) && is_for (lacks nodes passed n) m)) (sym q) (elim (cases_eq n u) [
              | inl s ↦ (let z : times b.rest n ≡ 0 = omega (arith, counted n, k.waiting n x, ap one_if (eq-eqb u n (sym s)), ap one_if (ap (λ m. kept m && is_for (lacks nodes passed m) x) s), one_both (kept u) (is_for (lacks nodes passed u) x) both.0 both.1) in z)
                  ∙ sym (one_left (kept n && not (eqb n u)) (is_for (lacks nodes passed n) x) (minus-same (kept n) (eqb n u) (eq-eqb n u s)))
              | inr s ↦ (let z : times b.rest n ≡ times (k.chains x) n = omega (arith, counted n, ap one_if (ne_eqb u n (λ t. s (sym t)))) in z)
                  ∙ k.waiting n x ∙ ap (λ c. one_if (c && is_for (lacks nodes passed n) x)) (sym (minus-other (kept n) (eqb n u) (ne_eqb n u s)))
            ])
            | inr ne ↦ ap (λ t. times (cond t b.rest (k.chains a)) n) (ne_eqb a x ne) ∙ k.waiting n a ∙ elim (cases_eq n u) [
              | inl s ↦ one_right (kept n) (is_for (lacks nodes passed n) a) (ap (λ m. is_for (lacks nodes passed m) a) s ∙ is_for-other (lacks nodes passed u) x a for' (λ t. ne (sym t)))
                  ∙ sym (one_left (kept n && not (eqb n u)) (is_for (lacks nodes passed n) a) (minus-same (kept n) (eqb n u) (eq-eqb n u s)))
              | inr s ↦ ap (λ c. one_if (c && is_for (lacks nodes passed n) a)) (sym (minus-other (kept n) (eqb n u) (ne_eqb n u s)))
            ]
          ];
          queued = λ n. k.queued n ∙ elim (cases_eq n u) [
            | inl s ↦ one_right (kept n) (is_none (lacks nodes passed n)) (ap (λ m. is_none (lacks nodes passed m)) s ∙ ap is_none for')
                ∙ sym (one_left (kept n && not (eqb n u)) (is_none (lacks nodes passed n)) (minus-same (kept n) (eqb n u) (eq-eqb n u s)))
            | inr s ↦ ap (λ c. one_if (c && is_none (lacks nodes passed n))) (sym (minus-other (kept n) (eqb n u) (ne_eqb n u s)))
          ];
          least_first = k.least_first;
          within = λ n g. k.within n (first_of (kept n) (not (eqb n u)) g);
          firsts = length-set first x (get_or next u None) ∙ k.firsts;
          nexts = k.nexts;
          passes = k.passes;
        };
      }
    where
      first_of : (a b : Bool) → a && b ≡ true → a ≡ true
      first_of true b e = refl
      first_of false b e = e

  -- a node that is not kept passes arguments
  pub IsKept-pass : (kept : ℕ → Bool) (u v : ℕ) → IsKept nodes kept first next passed ready → kept u ≡ false → IsKept nodes kept first next (set passed u v) ready
  IsKept-pass kept u v k out = record {
    chains = k.chains;
    chained = k.chained;
    waiting = λ n a. k.waiting n a ∙ elim (cases_eq n u) [
      | inl s ↦ one_left (kept n) (is_for (lacks nodes passed n) a) (ap kept s ∙ out) ∙ sym (one_left (kept n) (is_for (lacks nodes (set passed u v) n) a) (ap kept s ∙ out))
      | inr ne ↦ ap (λ p. one_if (kept n && is_for (slice_get (arguments nodes n) p) a)) (sym (get_or-set_other passed u n v 0 ne))
    ];
    queued = λ n. k.queued n ∙ elim (cases_eq n u) [
      | inl s ↦ one_left (kept n) (is_none (lacks nodes passed n)) (ap kept s ∙ out) ∙ sym (one_left (kept n) (is_none (lacks nodes (set passed u v) n)) (ap kept s ∙ out))
      | inr ne ↦ ap (λ p. one_if (kept n && is_none (slice_get (arguments nodes n) p))) (sym (get_or-set_other passed u n v 0 ne))
    ];
    least_first = k.least_first;
    within = k.within;
    firsts = k.firsts;
    nexts = k.nexts;
    passes = length-set passed u v ∙ k.passes;
  }

  -- a node goes to the front of a chain
  pub IsKept-wait : (kept : ℕ → Bool) (u a : ℕ) → IsKept nodes kept first next passed ready → kept u ≡ false → u < length nodes → a < length nodes →
      lacks nodes passed u ≡ Some a → IsKept nodes (λ n. kept n || eqb n u) (set first a (Some u)) (set next u (get_or first a None)) passed ready
  IsKept-wait kept u a k out in' in'' for =
      let next' = set next u (get_or first a None) in
      let absent : (b : ℕ) → contains (k.chains b) u ≡ false = λ b. contains-none (k.chains b) u (k.waiting u b ∙ one_left (kept u) (is_for (lacks nodes passed u) b) out) in
      record {
        chains = λ b. cond (eqb b a) (u ∷ k.chains a) (k.chains b);
        chained = λ b g. elim (cases_eq b a) [
          | inl q ↦ subst (λ ns. IsChain next' (get_or (set first a (Some u)) b None) ns) (sym (ap (λ t. cond t (u ∷ k.chains a) (k.chains b)) (eq-eqb b a q))) (
            ap (λ m. get_or (set first a (Some u)) m None) q ∙ get_or-set_same first a (Some u) None (omega (arith, k.firsts)),
            omega (arith, length-set next u (get_or first a None), k.nexts),
            IsChain-first next' (get_or next' u None) (get_or first a None) (k.chains a) (get_or-set_same next u (get_or first a None) None (omega (arith, k.nexts)))
                (IsChain-set next (get_or first a None) (k.chains a) u (get_or first a None) (absent a) (k.chained a in'')),
          )
          | inr ne ↦ subst (λ ns. IsChain next' (get_or (set first a (Some u)) b None) ns) (sym (ap (λ t. cond t (u ∷ k.chains a) (k.chains b)) (ne_eqb b a ne)))
              (IsChain-first next' _ (get_or first b None) (k.chains b) (get_or-set_other first a b (Some u) None ne)
              (IsChain-set next (get_or first b None) (k.chains b) u (get_or first a None) (absent b) (k.chained b g)))
        ];
        waiting = λ n b. elim (cases_eq b a) [
          | inl q ↦ ap (λ t. times (cond t (u ∷ k.chains a) (k.chains b)) n) (eq-eqb b a q) ∙ times-cons u (k.chains a) n ∙ ap (λ m. one_if (eqb u n) + m) (k.waiting n a)
              ∙ subst (λ m. one_if (eqb u n) + one_if (kept n && is_for (lacks nodes passed n) a) ≡ one_if ((kept n || eqb n u) && is_for (lacks nodes passed n) m)) (sym q) (elim (cases_eq n u) [
                | inl s ↦ (let z : one_if (eqb u n) + one_if (kept n && is_for (lacks nodes passed n) a) ≡ 1 = omega (arith, ap one_if (eq-eqb u n (sym s)), one_left (kept n) (is_for (lacks nodes passed n) a) (ap kept s ∙ out)) in z)
                    ∙ sym (one_both (kept n || eqb n u) (is_for (lacks nodes passed n) a) (or_right (kept n) (eqb n u) (eq-eqb n u s)) (ap (λ m. is_for (lacks nodes passed m) a) s ∙ is_for-same (lacks nodes passed u) a for))
                | inr s ↦ (let z : one_if (eqb u n) + one_if (kept n && is_for (lacks nodes passed n) a) ≡ one_if (kept n && is_for (lacks nodes passed n) a) = omega (arith, ap one_if (ne_eqb u n (λ t. s (sym t)))) in z)
                    ∙ ap (λ c. one_if (c && is_for (lacks nodes passed n) a)) (sym (or-none (kept n) (eqb n u) (ne_eqb n u s)))
              ])
          | inr ne ↦ ap (λ t. times (cond t (u ∷ k.chains a) (k.chains b)) n) (ne_eqb b a ne) ∙ k.waiting n b ∙ elim (cases_eq n u) [
            | inl s ↦ one_left (kept n) (is_for (lacks nodes passed n) b) (ap kept s ∙ out)
                ∙ sym (one_right (kept n || eqb n u) (is_for (lacks nodes passed n) b) (ap (λ m. is_for (lacks nodes passed m) b) s ∙ is_for-other (lacks nodes passed u) a b for (λ t. ne (sym t))))
            | inr s ↦ ap (λ c. one_if (c && is_for (lacks nodes passed n) b)) (sym (or-none (kept n) (eqb n u) (ne_eqb n u s)))
          ]
        ];
        queued = λ n. k.queued n ∙ elim (cases_eq n u) [
          | inl s ↦ one_left (kept n) (is_none (lacks nodes passed n)) (ap kept s ∙ out)
              ∙ sym (one_right (kept n || eqb n u) (is_none (lacks nodes passed n)) (ap (λ m. is_none (lacks nodes passed m)) s ∙ ap is_none for))
          | inr s ↦ ap (λ c. one_if (c && is_none (lacks nodes passed n))) (sym (or-none (kept n) (eqb n u) (ne_eqb n u s)))
        ];
        least_first = k.least_first;
        within = λ n g. elim (or_cases (kept n) (eqb n u) g) [ inl q ↦ k.within n q | inr q ↦ omega (arith, eqb-true n u q) ];
        firsts = length-set first a (Some u) ∙ k.firsts;
        nexts = length-set next u (get_or first a None) ∙ k.nexts;
        passes = k.passes;
      }

  -- a node that lacks nothing becomes ready
  pub IsKept-ready : (kept : ℕ → Bool) (u : ℕ) (r : Reverse ℕ) (after : List (Reverse ℕ)) → IsKept nodes kept first next passed ready → kept u ≡ false → u < length nodes →
      lacks nodes passed u ≡ None → r.0 ≡ u → IsPermutation (r ∷ ready) after → IsHeap (λ (x y : Reverse ℕ). nat_cmp y.0 x.0) after →
      IsKept nodes (λ n. kept n || eqb n u) first next passed after
  IsKept-ready kept u r after k out in' for is moved heap =
      let counted : (n : ℕ) → ready_times after n ≡ one_if (eqb u n) + ready_times ready n =
      λ n. sum_by_pushed (λ (q : Reverse ℕ). one_if (eqb q.0 n)) r ready after moved ∙ ap (λ m. one_if (eqb m n) + ready_times ready n) is in
      record {
        chains = k.chains;
        chained = k.chained;
        waiting = λ n a. k.waiting n a ∙ elim (cases_eq n u) [
          | inl s ↦ one_left (kept n) (is_for (lacks nodes passed n) a) (ap kept s ∙ out)
              ∙ sym (one_right (kept n || eqb n u) (is_for (lacks nodes passed n) a) (ap (λ m. is_for (lacks nodes passed m) a) s ∙ ap (λ o. is_for o a) for))
          | inr s ↦ ap (λ c. one_if (c && is_for (lacks nodes passed n) a)) (sym (or-none (kept n) (eqb n u) (ne_eqb n u s)))
        ];
        queued = λ n. counted n ∙ ap (λ m. one_if (eqb u n) + m) (k.queued n) ∙ elim (cases_eq n u) [
          | inl s ↦ (let z : one_if (eqb u n) + one_if (kept n && is_none (lacks nodes passed n)) ≡ 1 = omega (arith, ap one_if (eq-eqb u n (sym s)), one_left (kept n) (is_none (lacks nodes passed n)) (ap kept s ∙ out)) in z)
              ∙ sym (one_both (kept n || eqb n u) (is_none (lacks nodes passed n)) (or_right (kept n) (eqb n u) (eq-eqb n u s)) (ap (λ m. is_none (lacks nodes passed m)) s ∙ ap is_none for))
          | inr s ↦ (let z : one_if (eqb u n) + one_if (kept n && is_none (lacks nodes passed n)) ≡ one_if (kept n && is_none (lacks nodes passed n)) = omega (arith, ap one_if (ne_eqb u n (λ t. s (sym t)))) in z)
              ∙ ap (λ c. one_if (c && is_none (lacks nodes passed n))) (sym (or-none (kept n) (eqb n u) (ne_eqb n u s)))
        ];
        least_first = heap;
        within = λ n g. elim (or_cases (kept n) (eqb n u) g) [ inl q ↦ k.within n q | inr q ↦ omega (arith, eqb-true n u q) ];
        firsts = k.firsts;
        nexts = k.nexts;
        passes = k.passes;
      }

  -- a ready node comes out
  pub record Popped (kept : ℕ → Bool) (u : ℕ) (after : List (Reverse ℕ)) : Type 0 where
    pub was : kept u ≡ true
    pub for : lacks nodes passed u ≡ None
    pub now : IsKept nodes (λ n. kept n && not (eqb n u)) first next passed after

  pub IsKept-pop : (kept : ℕ → Bool) (r : Reverse ℕ) (after : List (Reverse ℕ)) → IsKept nodes kept first next passed ready → IsPermutation ready (r ∷ after) →
      IsHeap (λ (x y : Reverse ℕ). nat_cmp y.0 x.0) after → Popped kept r.0 after
  IsKept-pop kept r after k moved heap =
      let u = r.0 in
      let counted : (n : ℕ) → ready_times after n + one_if (eqb u n) ≡ ready_times ready n =
      λ n. sum_by_popped (λ (q : Reverse ℕ). one_if (eqb q.0 n)) r ready after moved in
      let both = from_one (kept u) (is_none (lacks nodes passed u)) (omega (arith, counted u, k.queued u, ap one_if (eq-eqb u u refl))) in
      let for' : lacks nodes passed u ≡ None = none_of (lacks nodes passed u) both.1 in
      record {
        was = both.0;
        for = for';
        now = record {
          chains = k.chains;
          chained = k.chained;
          waiting = λ n a. k.waiting n a ∙ elim (cases_eq n u) [
            | inl s ↦ one_right (kept n) (is_for (lacks nodes passed n) a) (ap (λ m. is_for (lacks nodes passed m) a) s ∙ ap (λ o. is_for o a) for')
                ∙ sym (one_left (kept n && not (eqb n u)) (is_for (lacks nodes passed n) a) (minus-same (kept n) (eqb n u) (eq-eqb n u s)))
            | inr s ↦ ap (λ c. one_if (c && is_for (lacks nodes passed n) a)) (sym (minus-other (kept n) (eqb n u) (ne_eqb n u s)))
          ];
          queued = λ n. elim (cases_eq n u) [
            | inl s ↦ (let z : ready_times after n ≡ 0 = omega (arith, counted n, k.queued n, ap one_if (eq-eqb u n (sym s)), ap one_if (ap (λ m. kept m && is_none (lacks nodes passed m)) s), one_both (kept u) (is_none (lacks nodes passed u)) both.0 both.1) in z)
                ∙ sym (one_left (kept n && not (eqb n u)) (is_none (lacks nodes passed n)) (minus-same (kept n) (eqb n u) (eq-eqb n u s)))
            | inr s ↦ (let z : ready_times after n ≡ ready_times ready n = omega (arith, counted n, ap one_if (ne_eqb u n (λ t. s (sym t)))) in z)
                ∙ k.queued n ∙ ap (λ c. one_if (c && is_none (lacks nodes passed n))) (sym (minus-other (kept n) (eqb n u) (ne_eqb n u s)))
          ];
          least_first = heap;
          within = λ n g. k.within n (first_of (kept n) (not (eqb n u)) g);
          firsts = k.firsts;
          nexts = k.nexts;
          passes = k.passes;
        };
      }
    where
      first_of : (a b : Bool) → a && b ≡ true → a ≡ true
      first_of true b e = refl
      first_of false b e = e

      none_of : (o : Option ℕ) → is_none o ≡ true → o ≡ None
      none_of None e = refl
      none_of (Some a) e = absurd (false≢true e)

-- the first of a heap is the least
pub least_of : (x : Reverse ℕ) (xs : List (Reverse ℕ)) (n : ℕ) → IsUpperBound (λ (x y : Reverse ℕ). nat_cmp y.0 x.0) x xs → 0 < ready_times xs n → x.0 ≤ n
least_of x [] n h c = absurd (omega arith)
least_of x (y ∷ ys) n h c = elim (cases_eq y.0 n) [
  | inl e ↦ elim (cases_lt y.0 x.0) [
    | inl lt ↦ absurd (false≢true (sym (h.0) ∙ ap is_lt (ap (λ b. cond b Less (cond (eqb y.0 x.0) Equal Greater)) (lt-ltb y.0 x.0 lt))))
    | inr ge ↦ omega (arith, e)
  ]
  | inr ne ↦ least_of x ys n h.1 (omega (arith, sum_by-cons (λ (r : Reverse ℕ). one_if (eqb r.0 n)) y ys, ap one_if (ne_eqb y.0 n ne)))
]
