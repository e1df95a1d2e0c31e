-- What a run has: paths of references, and that no path is longer than there are nodes.
use Rattle.std.proofs.Common.{◌≡◌, ℕ, zero, suc, ◌+◌, ◌<◌, ◌≤◌, Bool, true, false, eqb, List, [], ◌∷◌, length, refl, sym, subst, inl, inr, ◌⊎◌, arith}
use Rattle.std.specs.List.{Contains, list_any}
use Rattle.std.proofs.lemmas.Bool.{eqb-true, eq-eqb, or_cases, or_left, or_right, false≢true, false_from_ne_true}
use Rattle.oe_order.specs.Graph.{Node, arguments, Reaches, refers, onwards, IsAcyclic, IsInRun, RefersWithin, reaches_within, in_run}
use Rattle.oe_order.specs.Order.{contains}
use Rattle.oe_order.proofs.Lists.{contains-from, contains-to, Apart, length-apart}

pub list_any-from : (p : ℕ → Bool) (xs : List ℕ) (n : ℕ) → contains xs n ≡ true → p n ≡ true → list_any p xs ≡ true
list_any-from p [] n h e = h
list_any-from p (x ∷ xs) n h e = elim (or_cases (eqb x n) (contains xs n) h) [
  | inl k ↦ or_left (p x) (list_any p xs) (subst (λ m. p m ≡ true) (sym (eqb-true x n k)) e)
  | inr k ↦ or_right (p x) (list_any p xs) (list_any-from p xs n k e)
]

pub list_any-to : (p : ℕ → Bool) (xs : List ℕ) → list_any p xs ≡ true → (n : ℕ) × (contains xs n ≡ true) × (p n ≡ true)
list_any-to p [] h = absurd (false≢true h)
list_any-to p (x ∷ xs) h = elim (or_cases (p x) (list_any p xs) h) [
  | inl k ↦ (x, or_left (eqb x x) (contains xs x) (eq-eqb x x refl), k)
  | inr k ↦ let w = list_any-to p xs k in (w.0, or_right (eqb x w.0) (contains xs w.0) w.1, w.2)
]

pub Reaches-trans : {nodes : List Node} {a b c : ℕ} → Reaches nodes a b → Reaches nodes b c → Reaches nodes a c
Reaches-trans (refers h) r = onwards h r
Reaches-trans (onwards h q) r = onwards h (Reaches-trans q r)

-- one reference more
pub Reaches-push : {nodes : List Node} {a b c : ℕ} → Reaches nodes a b → Contains (arguments nodes b) c → Reaches nodes a c
Reaches-push r h = Reaches-trans r (refers h)

pub IsInRun-push : (nodes : List Node) (last n a : ℕ) → IsInRun nodes last n → Contains (arguments nodes n) a → IsInRun nodes last a
IsInRun-push nodes last n a (inl e) h = inr (refers (subst (λ m. Contains (arguments nodes m) a) e h))
IsInRun-push nodes last n a (inr r) h = inr (Reaches-push r h)

pub Reaches-within : {nodes : List Node} {a b : ℕ} → RefersWithin nodes → Reaches nodes a b → b < length nodes
Reaches-within {nodes} {a} w (refers h) = w a _ h
Reaches-within w (onwards h r) = Reaches-within w r

pub IsInRun-within : (nodes : List Node) (last n : ℕ) → RefersWithin nodes → last < length nodes → IsInRun nodes last n → n < length nodes
IsInRun-within nodes last n w l (inl e) = subst (λ m. m < length nodes) (sym e) l
IsInRun-within nodes last n w l (inr r) = Reaches-within w r

reaches_within-sound : (nodes : List Node) (most a b : ℕ) → reaches_within nodes most a b ≡ true → (b ≡ a) ⊎ Reaches nodes a b
unfolding reaches_within
reaches_within-sound nodes zero a b h = inl (sym (eqb-true a b h))
reaches_within-sound nodes (suc most) a b h =
    elim (or_cases (eqb a b) (list_any (λ c. reaches_within nodes most c b) (arguments nodes a)) h) [
      | inl e ↦ inl (sym (eqb-true a b e))
      | inr e ↦
          let w = list_any-to (λ c. reaches_within nodes most c b) (arguments nodes a) e in
          inr (step w.0 (contains-to (arguments nodes a) w.0 w.1) (reaches_within-sound nodes most w.0 b w.2))
    ]
  where
    step : (c : ℕ) → Contains (arguments nodes a) c → (b ≡ c) ⊎ Reaches nodes c b → Reaches nodes a b
    step c k (inl e) = refers (subst (λ m. Contains (arguments nodes a) m) (sym e) k)
    step c k (inr r) = onwards k r

-- a path to a: different nodes, each of which reaches a
pub record IsPath (nodes : List Node) (path : List ℕ) (a : ℕ) : Type 0 where
  pub apart : Apart path
  pub within : (k : ℕ) → contains path k ≡ true → k < length nodes
  pub reaches : (k : ℕ) → contains path k ≡ true → Reaches nodes k a

pub IsPath-none : (nodes : List Node) (a : ℕ) → IsPath nodes [] a
IsPath-none nodes a = record {
  apart = tt;
  within = λ k e. absurd (false≢true e);
  reaches = λ k e. absurd (false≢true e);
}

pub IsPath-new : (nodes : List Node) (path : List ℕ) (a : ℕ) → IsAcyclic nodes → IsPath nodes path a → contains path a ≡ false
IsPath-new nodes path a acyclic p = false_from_ne_true (contains path a) (λ e. acyclic a (p.reaches a e))

-- the path with its end, to an argument of the end
pub IsPath-push : (nodes : List Node) (path : List ℕ) (a b : ℕ) → IsAcyclic nodes → a < length nodes → IsPath nodes path a →
    Contains (arguments nodes a) b → IsPath nodes (a ∷ path) b
IsPath-push nodes path a b acyclic in' p h = record {
  apart = (IsPath-new nodes path a acyclic p, p.apart);
  within = λ k e. elim (or_cases (eqb a k) (contains path k) e) [
    | inl q ↦ subst (λ m. m < length nodes) (eqb-true a k q) in'
    | inr q ↦ p.within k q
  ];
  reaches = λ k e. elim (or_cases (eqb a k) (contains path k) e) [
    | inl q ↦ subst (λ m. Reaches nodes m b) (eqb-true a k q) (refers h)
    | inr q ↦ Reaches-push (p.reaches k q) h
  ];
}

pub IsPath-short : (nodes : List Node) (path : List ℕ) (a : ℕ) → IsAcyclic nodes → a < length nodes → IsPath nodes path a →
    suc (length path) ≤ length nodes
IsPath-short nodes path a acyclic in' p =
    length-apart (length nodes) (a ∷ path) (IsPath-new nodes path a acyclic p, p.apart) (λ k e. elim (or_cases (eqb a k) (contains path k) e) [
      | inl q ↦ subst (λ m. m < length nodes) (eqb-true a k q) in'
      | inr q ↦ p.within k q
    ])

reaches_within-refl : (nodes : List Node) (most a : ℕ) → reaches_within nodes most a a ≡ true
unfolding reaches_within
reaches_within-refl nodes zero a = eq-eqb a a refl
reaches_within-refl nodes (suc most) a = or_left (eqb a a) _ (eq-eqb a a refl)

-- what is reached is reached by fewer references than there are nodes
reaches_within-complete : {nodes : List Node} {a b : ℕ} (path : List ℕ) (most : ℕ) → IsAcyclic nodes → RefersWithin nodes → a < length nodes →
    IsPath nodes path a → length nodes ≤ most + length path → Reaches nodes a b → reaches_within nodes most a b ≡ true
unfolding reaches_within
reaches_within-complete {nodes} {a} {b} path zero acyclic w in' p m r =
    absurd (omega (arith, IsPath-short nodes path a acyclic in' p))
reaches_within-complete {nodes} {a} {b} path (suc most) acyclic w in' p m (refers h) =
    or_right (eqb a b) _ (list_any-from (λ c. reaches_within nodes most c b) (arguments nodes a) b (contains-from (arguments nodes a) b h) (reaches_within-refl nodes most b))
reaches_within-complete {nodes} {a} {b = c} path (suc most) acyclic w in' p m (onwards {b = b} h r) =
    or_right (eqb a c) _ (list_any-from (λ d. reaches_within nodes most d c) (arguments nodes a) b (contains-from (arguments nodes a) b h)
    (reaches_within-complete (a ∷ path) most acyclic w (w a b h) (IsPath-push nodes path a b acyclic in' p h) (omega arith) r))

pub in_run-sound : (nodes : List Node) (last n : ℕ) → in_run nodes last n ≡ true → IsInRun nodes last n
unfolding in_run
in_run-sound nodes last n h = reaches_within-sound nodes (length nodes) last n h

pub in_run-complete : (nodes : List Node) (last n : ℕ) → IsAcyclic nodes → RefersWithin nodes → last < length nodes →
    IsInRun nodes last n → in_run nodes last n ≡ true
unfolding in_run reaches_within
in_run-complete nodes last n acyclic w l (inl e) = subst (λ m. reaches_within nodes (length nodes) last m ≡ true) (sym e) (reaches_within-refl nodes (length nodes) last)
in_run-complete nodes last n acyclic w l (inr r) =
    reaches_within-complete [] (length nodes) acyclic w l (IsPath-none nodes last) (omega arith) r

-- a closed list of nodes has all that its nodes reach
pub closed_has : {nodes : List Node} {a b : ℕ} (found : List ℕ) →
    ((n c : ℕ) → contains found n ≡ true → contains (arguments nodes n) c ≡ true → contains found c ≡ true) →
    Reaches nodes a b → contains found a ≡ true → contains found b ≡ true
closed_has {nodes} {a} {b} found closed (refers h) e = closed a b e (contains-from (arguments nodes a) b h)
closed_has {nodes} {a} {b = c} found closed (onwards {b = b} h r) e =
    closed_has found closed r (closed a b e (contains-from (arguments nodes a) b h))
