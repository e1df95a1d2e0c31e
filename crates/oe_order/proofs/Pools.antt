-- A slot that is taken, and marks that are counted.
use Rattle.std.proofs.Common.{◌≡◌, ℕ, suc, ◌+◌, ◌<◌, ◌≤◌, Bool, true, false, List, [], ◌∷◌, ◌++◌, length, get_or, set, refl, sym, ap, ◌∙◌, subst, inl, inr, arith}
use Rattle.std.proofs.lemmas.Bool.{cases_eq, cases_lt, false≢true}
use Rattle.std.proofs.lemmas.List.{get_or-set_same, get_or-set_other, get_or_past, get_or_append_left, get_or_at, length-set, length_push}
use Rattle.std.proofs.lemmas.List.Sums.{sum_by-set, sum_by-cons}
use Rattle.oe_order.specs.Pool.{IsPool}
use Rattle.oe_order.proofs.Lists.{count, one_if}

pub count-set_true : (held : List Bool) (i : ℕ) → i < length held → get_or held i false ≡ false → count (set held i true) ≡ count held + 1
count-set_true held i h e =
    let s = sum_by-set one_if held i true false h in
    let z : one_if (get_or held i false) ≡ 0 = ap one_if e in
    omega (arith, s, z)

pub count-set_false : (held : List Bool) (i : ℕ) → i < length held → get_or held i false ≡ true → count (set held i false) + 1 ≡ count held
count-set_false held i h e =
    let s = sum_by-set one_if held i false false h in
    let z : one_if (get_or held i false) ≡ 1 = ap one_if e in
    omega (arith, s, z)

-- what has a mark lies within
pub marked_within : (held : List Bool) (i : ℕ) → get_or held i false ≡ true → i < length held
marked_within held i e = elim (cases_lt i (length held)) [
  | inl h ↦ h
  | inr h ↦ absurd (false≢true (sym (get_or_past held i false h) ∙ e))
]

-- a list with one element changed, at that element and elsewhere
pub set_at : (xs : List ℕ) (i k v : ℕ) → i < length xs → k ≡ i → get_or (set xs i v) k 0 ≡ v
set_at xs i k v h e = ap (λ j. get_or (set xs i v) j 0) e ∙ get_or-set_same xs i v 0 h

other_held : (held : List Bool) (i k : ℕ) (b : Bool) → (k ≡ i → ⊥) → get_or (set held i b) k false ≡ true → get_or held k false ≡ true
other_held held i k b ne e = sym (get_or-set_other held i k b false ne) ∙ e

pub IsPool-take : (held : List Bool) (slots free rest : List ℕ) (n step slot : ℕ) → IsPool held slots free n → step < length held →
    get_or held step false ≡ false → free ≡ rest ++ slot ∷ [] → IsPool (set held step true) (set slots step slot) rest n
IsPool-take held slots free rest n step slot p in' was is =
    let long : length free ≡ length rest + 1 = ap length is ∙ length_push rest slot in
    let old_at : (k : ℕ) → k < length rest → get_or free k 0 ≡ get_or rest k 0 =
    λ k h. ap (λ ys. get_or ys k 0) is ∙ get_or_append_left rest (slot ∷ []) 0 k h in
    let last_at : get_or free (length rest) 0 ≡ slot = ap (λ ys. get_or ys (length rest) 0) is ∙ get_or_at rest slot [] 0 (length rest) refl in
    let in'' : step < length slots = omega (arith, p.each) in
    let here : (i : ℕ) → i ≡ step → get_or (set slots step slot) i 0 ≡ slot = λ i e. set_at slots step i slot in'' e in
    let there : (i : ℕ) → (i ≡ step → ⊥) → get_or (set slots step slot) i 0 ≡ get_or slots i 0 = λ i ne. get_or-set_other slots step i slot 0 ne in
    let free_slot : slot < n = subst (λ v. v < n) last_at (p.free_below (length rest) (omega arith)) in
    let away : (i : ℕ) → get_or held i false ≡ true → slot ≡ get_or slots i 0 → ⊥ =
    λ i e q. p.unused (length rest) i (omega arith) e (last_at ∙ q) in
    record {
      each = length-set slots step slot ∙ p.each ∙ sym (length-set held step true);
      below = λ i e. elim (cases_eq i step) [
        | inl q ↦ subst (λ v. v < n) (sym (here i q)) free_slot
        | inr ne ↦ subst (λ v. v < n) (sym (there i ne)) (p.below i (other_held held step i true ne e))
      ];
      apart = λ i j e d ne q. elim (cases_eq i step) [
        | inl a ↦ elim (cases_eq j step) [
          | inl b ↦ ne (a ∙ sym b)
          | inr b ↦ away j (other_held held step j true b d) (sym (here i a) ∙ q ∙ there j b)
        ]
        | inr a ↦ elim (cases_eq j step) [
          | inl b ↦ away i (other_held held step i true a e) (sym (here j b) ∙ sym q ∙ there i a)
          | inr b ↦ p.apart i j (other_held held step i true a e) (other_held held step j true b d) ne (sym (there i a) ∙ q ∙ there j b)
        ]
      ];
      free_below = λ k h. subst (λ v. v < n) (old_at k h) (p.free_below k (omega arith));
      free_apart = λ k m h g q. p.free_apart k m h (omega arith) (old_at k (omega arith) ∙ q ∙ sym (old_at m g));
      unused = λ k i h e q. elim (cases_eq i step) [
        | inl a ↦ p.free_apart k (length rest) h (omega arith) (old_at k h ∙ q ∙ here i a ∙ sym last_at)
        | inr a ↦ p.unused k i (omega arith) (other_held held step i true a e) (old_at k h ∙ q ∙ there i a)
      ];
      all = omega (arith, p.all, count-set_true held step in' was);
    }

-- a step more that holds a slot
pub count_grows : (held : List Bool) (i : ℕ) (after : List Bool) → after ≡ set held i true → i < length held → count held ≤ count after
count_grows held i after is h =
    let s = sum_by-set one_if held i true false h in
    let b : one_if (get_or held i false) ≤ 1 = at_most (get_or held i false) in
    omega (arith, s, ap count is)
  where
    at_most : (b : Bool) → one_if b ≤ 1
    at_most true = omega arith
    at_most false = omega arith

-- marks that stay count no less
pub count_more : (xs ys : List Bool) → length xs ≡ length ys → ((i : ℕ) → get_or xs i false ≡ true → get_or ys i false ≡ true) → count xs ≤ count ys
count_more [] [] e h = omega arith
count_more [] (y ∷ ys) e h = omega arith
count_more (x ∷ xs) [] e h = absurd (omega (arith, e))
count_more (x ∷ xs) (y ∷ ys) e h =
    let rest : count xs ≤ count ys = count_more xs ys (omega (arith, e)) (λ i. h (suc i)) in
    let here : one_if x ≤ one_if y = at_most x y (h 0) in
    omega (arith, sum_by-cons one_if x xs, sum_by-cons one_if y ys)
  where
    at_most : (x y : Bool) → (x ≡ true → y ≡ true) → one_if x ≤ one_if y
    at_most true y f = omega (arith, ap one_if (f refl))
    at_most false y f = omega arith

pub count_zero : (xs : List Bool) → ((i : ℕ) → get_or xs i false ≡ false) → count xs ≡ 0
count_zero [] h = refl
count_zero (x ∷ xs) h =
    let here : one_if x ≡ 0 = ap one_if (h 0) in
    omega (arith, sum_by-cons one_if x xs, count_zero xs (λ i. h (suc i)))
