-- Membership in a list of nodes, marks, and how many different nodes there can be.
use Rattle.std.proofs.Common.{◌≡◌, ℕ, zero, suc, ◌+◌, ◌<◌, ◌≤◌, Bool, true, false, cond, eqb, ◌||◌, List, [], ◌∷◌, ◌++◌, length, get_or, set, take, replicate, refl, sym, ap, ◌∙◌, subst, inl, inr, ◌⊎◌, Vec, arith}
use Rattle.std.specs.List.{Contains, count_by}
use Rattle.std.proofs.lemmas.Bool.{cases_eq, eqb-true, eq-eqb, ne_eqb, or_cases, or_left, or_right, false≢true}
use Rattle.std.proofs.lemmas.List.{get_or-take, get_or-set_same, get_or-set_other, length-set, length-replicate, get_or_default}
use Rattle.std.proofs.lemmas.List.Sums.{sum_by-set, sum_by-cons, count_by-le-length}
use Rattle.oe_order.specs.Order.{contains}
use Rattle.oe_order.specs.Marks.{IsMarked}

-- the elements of a vector, as a function
abbrev pub items : {X Z : Type 0} → Vec X Z → List X
items v = v.items

-- what stands in a list still stands there behind which more was put
pub kept_index : (old new : List ℕ) (k : ℕ) → take (length old) new ≡ old → k < length old → get_or new k 0 ≡ get_or old k 0
kept_index old new k e h = sym (get_or-take (length old) new k 0 h) ∙ ap (λ ys. get_or ys k 0) e

pub bool_iff : (a b : Bool) → (a ≡ true → b ≡ true) → (b ≡ true → a ≡ true) → a ≡ b
bool_iff true b f g = sym (f refl)
bool_iff false true f g = g refl
bool_iff false false f g = refl

-- a test is true or false, by cases that a goal can be split on
pub bool_split : (b : Bool) → (b ≡ true) ⊎ (b ≡ false)
bool_split true = inl refl
bool_split false = inr refl

pub clash : {A : Type 0} (b : Bool) → b ≡ true → b ≡ false → A
clash b t f = absurd (false≢true (sym f ∙ t))

pub contains-append : (xs ys : List ℕ) (n : ℕ) → contains (xs ++ ys) n ≡ contains xs n || contains ys n
contains-append [] ys n = refl
contains-append (x ∷ xs) ys n =
    let e : contains (xs ++ ys) n ≡ contains xs n || contains ys n = contains-append xs ys n in
    or_regroup (eqb x n) (contains xs n) (contains ys n) (contains (xs ++ ys) n) e
  where
    or_regroup : (a b c d : Bool) → d ≡ b || c → a || d ≡ (a || b) || c
    or_regroup true b c d e = refl
    or_regroup false b c d e = e

pub or_false : (b : Bool) → b || false ≡ b
or_false true = refl
or_false false = refl

pub or_assoc : (a b c : Bool) → (a || b) || c ≡ a || (b || c)
or_assoc true b c = refl
or_assoc false b c = refl

pub or_swap : (a b : Bool) → a || b ≡ b || a
or_swap true true = refl
or_swap true false = refl
or_swap false true = refl
or_swap false false = refl

-- b adds nothing to a
pub or_same : (a b : Bool) → (b ≡ true → a ≡ true) → a ≡ a || b
or_same true b h = refl
or_same false true h = h refl
or_same false false h = refl

pub contains-push : (xs : List ℕ) (y n : ℕ) → contains (xs ++ y ∷ []) n ≡ contains xs n || eqb y n
contains-push xs y n = contains-append xs (y ∷ []) n ∙ ap (λ b. contains xs n || b) (or_false (eqb y n))

pub contains-at : (xs : List ℕ) (i d : ℕ) → i < length xs → contains xs (get_or xs i d) ≡ true
contains-at [] i d h = absurd (omega arith)
contains-at (x ∷ xs) zero d h = or_left (eqb x x) (contains xs x) (eq-eqb x x refl)
contains-at (x ∷ xs) (suc i) d h =
    or_right (eqb x (get_or xs i d)) (contains xs (get_or xs i d)) (contains-at xs i d (omega arith))

pub contains-index : (xs : List ℕ) (n : ℕ) → contains xs n ≡ true → (i : ℕ) × (i < length xs) × (get_or xs i 0 ≡ n)
contains-index [] n h = absurd (false≢true h)
contains-index (x ∷ xs) n h = elim (or_cases (eqb x n) (contains xs n) h) [
  | inl e ↦ (0, omega arith, eqb-true x n e)
  | inr e ↦ let at = contains-index xs n e in (suc at.0, omega (arith, at.1), at.2)
]

pub contains-from : (xs : List ℕ) (n : ℕ) → Contains xs n → contains xs n ≡ true
contains-from xs n h = subst (λ m. contains xs m ≡ true) h.2 (contains-at xs h.0 n h.1)

pub contains-to : (xs : List ℕ) (n : ℕ) → contains xs n ≡ true → Contains xs n
contains-to xs n h =
    let at = contains-index xs n h in
    (at.0, at.1, get_or_default xs at.0 n 0 at.1 ∙ at.2)

-- how many are marked
abbrev pub count : List Bool → ℕ
count marks = count_by (λ b. b) marks

abbrev pub one_if : Bool → ℕ
one_if b = cond b 1 0

-- a mark more
pub IsMarked-set : (marks : List Bool) (nodes : List ℕ) (x n : ℕ) → IsMarked marks nodes → x < length marks →
    get_or (set marks x true) n false ≡ eqb x n || contains nodes n
IsMarked-set marks nodes x n m h = elim (cases_eq n x) [
  | inl e ↦ subst (λ k. get_or (set marks x true) k false ≡ eqb x k || contains nodes k) (sym e)
      (get_or-set_same marks x true false h ∙ sym (or_left (eqb x x) (contains nodes x) (eq-eqb x x refl)))
  | inr ne ↦ get_or-set_other marks x n true false ne ∙ m.same n ∙ sym (ap (λ b. b || contains nodes n) (ne_eqb x n (λ e. ne (sym e))))
]

pub IsMarked-count : (marks : List Bool) (nodes : List ℕ) (x : ℕ) → IsMarked marks nodes → x < length marks → contains nodes x ≡ false →
    count_by (λ b. b) (set marks x true) ≡ length nodes + 1
IsMarked-count marks nodes x m h fresh =
    let s = sum_by-set one_if marks x true false h in
    let e : one_if (get_or marks x false) ≡ 0 = ap one_if (m.same x ∙ fresh) in
    let o = m.once in
    omega (arith, s, e, o)

-- the nodes of a list differ
abbrev pub Apart : List ℕ → Type 0
Apart [] = Unit {0}
Apart (x ∷ xs) = (contains xs x ≡ false) × Apart xs

-- different numbers below n are n at most
pub marks_of : ℕ → List ℕ → List Bool
marks_of n [] = replicate n false
marks_of n (x ∷ xs) = set (marks_of n xs) x true

pub length-marks_of : (n : ℕ) (xs : List ℕ) → length (marks_of n xs) ≡ n
unfolding marks_of
length-marks_of n [] = length-replicate n false
length-marks_of n (x ∷ xs) = length-set (marks_of n xs) x true ∙ length-marks_of n xs

no_marks : (n k : ℕ) → get_or (replicate n false) k false ≡ false
no_marks zero k = refl
no_marks (suc n) zero = refl
no_marks (suc n) (suc k) = no_marks n k

pub count-none : (n : ℕ) → count_by (λ b. b) (replicate n false) ≡ 0
count-none zero = refl
count-none (suc n) = omega (arith, sum_by-cons one_if false (replicate n false), count-none n)

pub IsMarked-none : (n : ℕ) → IsMarked (replicate n false) []
IsMarked-none n = record { same = no_marks n; once = count-none n }

pub IsMarked-marks_of : (n : ℕ) (xs : List ℕ) → Apart xs → ((k : ℕ) → contains xs k ≡ true → k < n) → IsMarked (marks_of n xs) xs
unfolding marks_of
IsMarked-marks_of n [] a h = IsMarked-none n
IsMarked-marks_of n (x ∷ xs) a h =
    let m = IsMarked-marks_of n xs a.1 (λ k e. h k (or_right (eqb x k) (contains xs k) e)) in
    let in' : x < length (marks_of n xs) = subst (λ w. x < w) (sym (length-marks_of n xs)) (h x (or_left (eqb x x) (contains xs x) (eq-eqb x x refl))) in
    record {
      same = λ k. IsMarked-set (marks_of n xs) xs x k m in';
      once = IsMarked-count (marks_of n xs) xs x m in' a.0 ∙ omega arith;
    }

pub length-apart : (n : ℕ) (xs : List ℕ) → Apart xs → ((k : ℕ) → contains xs k ≡ true → k < n) → length xs ≤ n
length-apart n xs a h =
    let m = IsMarked-marks_of n xs a h in
    let o = m.once in
    omega (arith, o, count_by-le-length (λ (b : Bool). b) (marks_of n xs), length-marks_of n xs)
