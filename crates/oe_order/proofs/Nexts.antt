-- Lists of the nodes that pass a test, by index, and the first of them that passes another.
use Rattle.std.proofs.Common.{◌≡◌, ℕ, zero, suc, ◌+◌, ◌<◌, ◌≤◌, Bool, true, false, cond, eqb, ◌||◌, ◌&&◌, List, [], ◌∷◌, ◌++◌, length, get_or, Some, None, refl, sym, ap, ◌∙◌, inl, inr, ◌⊎◌, arith}
use Rattle.std.specs.List.{find, filter, range_with_len, list_all}
use Rattle.std.specs.Option.{option_to_list}
use Rattle.std.proofs.lemmas.Bool.{cases_eq, false≢true, eq-eqb, ne_eqb, eqb-true, or_left, or_right, or_cases, and_parts, and_cases}
use Rattle.std.proofs.lemmas.List.Elements.{filter-append}
use Rattle.oe_order.specs.Graph.{Node}
use Rattle.oe_order.specs.Order.{contains, is_ready, next_of, extend_order}
use Rattle.oe_order.specs.Waiting.{marked_nodes}
use Rattle.oe_order.proofs.Lists.{bool_split}

pub range-push : (a n : ℕ) → range_with_len a (suc n) ≡ range_with_len a n ++ (a + n) ∷ []
range-push a zero = ap (λ m. m ∷ []) (let q : a ≡ a + 0 = omega arith in q)
range-push a (suc n) = ap (λ ms. a ∷ ms) (range-push (a + 1) n ∙ ap (λ m. range_with_len (a + 1) n ++ m ∷ []) (let q : (a + 1) + n ≡ a + suc n = omega arith in q))

pub contains-range_to : (a n m : ℕ) → contains (range_with_len a n) m ≡ true → m < a + n
contains-range_to a zero m e = absurd (false≢true e)
contains-range_to a (suc n) m e = elim (or_cases (eqb a m) (contains (range_with_len (a + 1) n) m) e) [
  | inl q ↦ let s : a ≡ m = eqb-true a m q in omega arith
  | inr q ↦ omega (arith, contains-range_to (a + 1) n m q)
]

pub contains-range_from : (a n m : ℕ) → a ≤ m → m < a + n → contains (range_with_len a n) m ≡ true
contains-range_from a zero m low high = absurd (omega arith)
contains-range_from a (suc n) m low high = elim (cases_eq a m) [
  | inl q ↦ or_left (eqb a m) (contains (range_with_len (a + 1) n) m) (eq-eqb a m q)
  | inr ne ↦ or_right (eqb a m) (contains (range_with_len (a + 1) n) m) (contains-range_from (a + 1) n m (omega arith) (omega arith))
]

pub contains-filter : (p : ℕ → Bool) (xs : List ℕ) (n : ℕ) → contains (filter p xs) n ≡ contains xs n && p n
contains-filter p [] n = refl
contains-filter p (x ∷ xs) n = elim (bool_split (p x)) [
  | inl t ↦ ap (λ b. contains (cond b (x ∷ filter p xs) (filter p xs)) n) t ∙ ap (λ b. eqb x n || b) (contains-filter p xs n) ∙ elim (cases_eq x n) [
    | inl e ↦ here (eqb x n) (contains xs n) (p n) (ap p (sym e) ∙ t)
    | inr ne ↦ ap (λ b. b || (contains xs n && p n)) (ne_eqb x n ne) ∙ sym (ap (λ b. (b || contains xs n) && p n) (ne_eqb x n ne))
  ]
  | inr f ↦ ap (λ b. contains (cond b (x ∷ filter p xs) (filter p xs)) n) f ∙ contains-filter p xs n ∙ elim (cases_eq x n) [
    | inl e ↦ gone (contains xs n) (p n) (eqb x n || contains xs n) (ap p (sym e) ∙ f)
    | inr ne ↦ sym (ap (λ b. (b || contains xs n) && p n) (ne_eqb x n ne))
  ]
]
  where
    here : (a b c : Bool) → c ≡ true → a || (b && c) ≡ (a || b) && c
    here true b true e = refl
    here true b false e = sym e
    here false b c e = refl

    gone : (a c d : Bool) → c ≡ false → a && c ≡ d && c
    gone a true d e = absurd (false≢true (sym e))
    gone true false true e = refl
    gone true false false e = refl
    gone false false true e = refl
    gone false false false e = refl

pub contains-marked_to : (members : List Bool) (i n : ℕ) → contains (marked_nodes members i) n ≡ true → (n < i) × (get_or members n false ≡ true)
contains-marked_to members i n e =
    let w = and_parts (contains (range_with_len 0 i) n) (get_or members n false) (sym (contains-filter (λ n. get_or members n false) (range_with_len 0 i) n) ∙ e) in
    (omega (arith, contains-range_to 0 i n w.0), w.1)

pub contains-marked_from : (members : List Bool) (i n : ℕ) → n < i → get_or members n false ≡ true → contains (marked_nodes members i) n ≡ true
contains-marked_from members i n h e =
    contains-filter (λ n. get_or members n false) (range_with_len 0 i) n ∙ both (contains (range_with_len 0 i) n) (get_or members n false) (contains-range_from 0 i n (omega arith) (omega arith)) e
  where
    both : (a b : Bool) → a ≡ true → b ≡ true → a && b ≡ true
    both true b p q = q
    both false b p q = p

marked_nodes-more : (members : List Bool) (i : ℕ) → marked_nodes members (i + 1) ≡ marked_nodes members i ++ cond (get_or members i false) (i ∷ []) []
marked_nodes-more members i =
    let test : ℕ → Bool = λ n. get_or members n false in
    ap (λ n. filter test (range_with_len 0 n)) (let q : i + 1 ≡ suc i = omega arith in q)
    ∙ ap (filter test) (range-push 0 i ∙ ap (λ m. range_with_len 0 i ++ m ∷ []) (let q : 0 + i ≡ i = omega arith in q))
    ∙ filter-append test (range_with_len 0 i) (i ∷ [])

-- the load nodes, by one more index
pub loads-more : (load : ℕ → Bool) (members : List Bool) (i : ℕ) → get_or members i false ≡ true → load i ≡ true →
    filter load (marked_nodes members (i + 1)) ≡ filter load (marked_nodes members i) ++ i ∷ []
loads-more load members i m l =
    ap (filter load) (marked_nodes-more members i ∙ ap (λ b. marked_nodes members i ++ cond b (i ∷ []) []) m)
    ∙ filter-append load (marked_nodes members i) (i ∷ []) ∙ ap (λ b. filter load (marked_nodes members i) ++ cond b (i ∷ []) []) l

pub loads-same : (load : ℕ → Bool) (members : List Bool) (i : ℕ) → (get_or members i false ≡ false) ⊎ (load i ≡ false) →
    filter load (marked_nodes members (i + 1)) ≡ filter load (marked_nodes members i)
loads-same load members i (inl m) =
    ap (filter load) (marked_nodes-more members i ∙ ap (λ b. marked_nodes members i ++ cond b (i ∷ []) []) m ∙ nil (marked_nodes members i))
  where
    nil : (xs : List ℕ) → xs ++ [] ≡ xs
    nil [] = refl
    nil (x ∷ xs) = ap (λ ys. x ∷ ys) (nil xs)
loads-same load members i (inr l) =
    ap (filter load) (marked_nodes-more members i) ∙ filter-append load (marked_nodes members i) (cond (get_or members i false) (i ∷ []) [])
    ∙ ap (λ ys. filter load (marked_nodes members i) ++ ys) (none (get_or members i false)) ∙ nil (filter load (marked_nodes members i))
  where
    nil : (xs : List ℕ) → xs ++ [] ≡ xs
    nil [] = refl
    nil (x ∷ xs) = ap (λ ys. x ∷ ys) (nil xs)

    none : (b : Bool) → filter load (cond b (i ∷ []) []) ≡ []
    none true = ap (λ b. cond b (i ∷ []) []) l
    none false = refl

-- the first node that passes both tests
find-first : (p q : ℕ → Bool) (a n x : ℕ) → a ≤ x → x < a + n → q x ≡ true → p x ≡ true → ((m : ℕ) → m < x → q m ≡ true → p m ≡ false) →
    find p (filter q (range_with_len a n)) ≡ Some x
find-first p q a zero x low high qx px before = absurd (omega arith)
find-first p q a (suc n) x low high qx px before = elim (cases_eq a x) [
  | inl e ↦ ap (λ b. find p (cond b (a ∷ filter q (range_with_len (a + 1) n)) (filter q (range_with_len (a + 1) n)))) (ap q e ∙ qx)
      ∙ ap (λ b. cond b (Some a) (find p (filter q (range_with_len (a + 1) n)))) (ap p e ∙ px) ∙ ap Some e
  | inr ne ↦ elim (bool_split (q a)) [
    | inl t ↦ ap (λ b. find p (cond b (a ∷ filter q (range_with_len (a + 1) n)) (filter q (range_with_len (a + 1) n)))) t
        ∙ ap (λ b. cond b (Some a) (find p (filter q (range_with_len (a + 1) n)))) (before a (omega arith) t)
        ∙ find-first p q (a + 1) n x (omega arith) (omega arith) qx px before
    | inr f ↦ ap (λ b. find p (cond b (a ∷ filter q (range_with_len (a + 1) n)) (filter q (range_with_len (a + 1) n)))) f
        ∙ find-first p q (a + 1) n x (omega arith) (omega arith) qx px before
  ]
]

find-none : (p q : ℕ → Bool) (a n : ℕ) → ((m : ℕ) → q m ≡ true → p m ≡ false) → find p (filter q (range_with_len a n)) ≡ None
find-none p q a zero h = refl
find-none p q a (suc n) h = elim (bool_split (q a)) [
  | inl t ↦ ap (λ b. find p (cond b (a ∷ filter q (range_with_len (a + 1) n)) (filter q (range_with_len (a + 1) n)))) t
      ∙ ap (λ b. cond b (Some a) (find p (filter q (range_with_len (a + 1) n)))) (h a t) ∙ find-none p q (a + 1) n h
  | inr f ↦ ap (λ b. find p (cond b (a ∷ filter q (range_with_len (a + 1) n)) (filter q (range_with_len (a + 1) n)))) f ∙ find-none p q (a + 1) n h
]

-- none that stands in a list passes
pub find-none_at : (p : ℕ → Bool) (xs : List ℕ) (n : ℕ) → find p xs ≡ None → contains xs n ≡ true → p n ≡ false
find-none_at p [] n e h = absurd (false≢true h)
find-none_at p (x ∷ xs) n e h = elim (bool_split (p x)) [
  | inl t ↦ absurd (some (ap (λ b. cond b (Some x) (find p xs)) (sym t) ∙ e))
  | inr f ↦ elim (or_cases (eqb x n) (contains xs n) h) [
    | inl q ↦ ap p (sym (eqb-true x n q)) ∙ f
    | inr q ↦ find-none_at p xs n (ap (λ b. cond b (Some x) (find p xs)) (sym f) ∙ e) q
  ]
]
  where
    some : Some x ≡ None → ⊥
    some e = cc

pub next_of-first : (nodes : List Node) (members : List Bool) (steps : List ℕ) (x : ℕ) → x < length nodes → get_or members x false ≡ true → is_ready nodes steps x ≡ true →
    ((m : ℕ) → m < x → get_or members m false ≡ true → is_ready nodes steps m ≡ false) → next_of nodes (marked_nodes members (length nodes)) steps ≡ Some x
unfolding next_of
next_of-first nodes members steps x h m r before =
    find-first (is_ready nodes steps) (λ n. get_or members n false) 0 (length nodes) x (omega arith) (omega arith) m r before

pub next_of-none : (nodes : List Node) (members : List Bool) (steps : List ℕ) → ((m : ℕ) → get_or members m false ≡ true → is_ready nodes steps m ≡ false) →
    next_of nodes (marked_nodes members (length nodes)) steps ≡ None
unfolding next_of
next_of-none nodes members steps h = find-none (is_ready nodes steps) (λ n. get_or members n false) 0 (length nodes) h

pub next_of-not_ready : (nodes : List Node) (run steps : List ℕ) (n : ℕ) → next_of nodes run steps ≡ None → contains run n ≡ true → is_ready nodes steps n ≡ false
unfolding next_of
next_of-not_ready nodes run steps n e h = find-none_at (is_ready nodes steps) run n e h

pub extend_order-more : (nodes : List Node) (run steps : List ℕ) (times x : ℕ) → next_of nodes run steps ≡ Some x → extend_order nodes run (suc times) steps ≡ extend_order nodes run times (steps ++ x ∷ [])
unfolding extend_order
extend_order-more nodes run steps times x e = ap (λ o. extend_order nodes run times (steps ++ option_to_list o)) e

pub extend_order-done : (nodes : List Node) (run steps : List ℕ) (times : ℕ) → next_of nodes run steps ≡ None → extend_order nodes run times steps ≡ steps
unfolding extend_order
extend_order-done nodes run steps zero e = refl
extend_order-done nodes run steps (suc times) e =
    ap (λ o. extend_order nodes run times (steps ++ option_to_list o)) e ∙ ap (extend_order nodes run times) (nil steps) ∙ extend_order-done nodes run steps times e
  where
    nil : (xs : List ℕ) → xs ++ [] ≡ xs
    nil [] = refl
    nil (x ∷ xs) = ap (λ ys. x ∷ ys) (nil xs)

pub list_all-from : (p : ℕ → Bool) (xs : List ℕ) → ((a : ℕ) → contains xs a ≡ true → p a ≡ true) → list_all p xs ≡ true
list_all-from p [] h = refl
list_all-from p (x ∷ xs) h =
    ap (λ b. b && list_all p xs) (h x (or_left (eqb x x) (contains xs x) (eq-eqb x x refl))) ∙ list_all-from p xs (λ a e. h a (or_right (eqb x a) (contains xs a) e))

pub list_all-to : (p : ℕ → Bool) (xs : List ℕ) (a : ℕ) → list_all p xs ≡ true → contains xs a ≡ true → p a ≡ true
list_all-to p [] a e h = absurd (false≢true h)
list_all-to p (x ∷ xs) a e h = elim (or_cases (eqb x a) (contains xs a) h) [
  | inl q ↦ ap p (sym (eqb-true x a q)) ∙ (let w = and_parts (p x) (list_all p xs) e in w.0)
  | inr q ↦ list_all-to p xs a (let w = and_parts (p x) (list_all p xs) e in w.1) q
]

-- one that fails, where not all pass
pub list_all-fails : (p : ℕ → Bool) (xs : List ℕ) → list_all p xs ≡ false → (a : ℕ) × (contains xs a ≡ true) × (p a ≡ false)
list_all-fails p [] e = absurd (false≢true (sym e))
list_all-fails p (x ∷ xs) e = elim (and_cases (p x) (list_all p xs) e) [
  | inl q ↦ (x, or_left (eqb x x) (contains xs x) (eq-eqb x x refl), q)
  | inr q ↦ let w = list_all-fails p xs q in (w.0, or_right (eqb x w.0) (contains xs w.0) w.1, w.2)
]
