-- The changed lists of a book, as the code finds an index and changes the list there. `show` gives the plain value.
use Rattle.std.proofs.Common.{◌≡◌, ℕ, zero, suc, ◌+◌, ◌<◌, Bool, true, false, cond, List, [], ◌∷◌, ◌++◌, length, get_or, map, set, Option, Some, None, refl, ap, sym, ◌∙◌, arith, inl, inr}
use Rattle.std.specs.Prelude.{find}
use Rattle.std.specs.List.{insert, remove, slice_get, list_any}
use Rattle.std.specs.Option.{option_map, option_and_then}
use Rattle.std.proofs.lemmas.Bool.{cases_Bool}
use Rattle.std.proofs.lemmas.Option.{same_Some}
use Rattle.oe_dims.specs.Indices.{index_where}
use Rattle.oe_jobs.specs.Changes.{at_first, put_first, put_before, without_first}

-- the index of a list without its first element
pub later_index : (index : Option ℕ) (i : ℕ) → option_map (λ n. n + 1) index ≡ Some (suc i) → index ≡ Some i
later_index None i e = cc
later_index (Some n) i e = let same : n + 1 ≡ suc i = cc in let n_is : n ≡ i = omega arith in ap Some n_is

pub not_first : (index : Option ℕ) → option_map (λ n. n + 1) index ≡ Some zero → ⊥
not_first None e = cc
not_first (Some n) e = let same : n + 1 ≡ 0 = cc in omega arith

pub no_index : (index : Option ℕ) → option_map (λ n. n + 1) index ≡ None → index ≡ None
no_index None e = refl
no_index (Some n) e = cc

-- no index where no element passes
pub index_none : {L : Type 0} (test : L → Bool) (xs : List L) → ((k : ℕ) (d : L) → k < length xs → test (get_or xs k d) ≡ false)
    → index_where test xs ≡ None
index_none test [] none = refl
index_none test (a ∷ xs) none =
    let first : test a ≡ false = none 0 a (omega arith) in
    let next = index_none test xs (λ k d h. none (suc k) d (omega arith)) in
    rw (first, next) refl

module _ {X Y : Type 0} (show : X → Y) (test : Y → Bool) where
  -- ---- what was found at an index

  pub change_at : (change : Y → Y) (xs : List X) (i : ℕ) (x v : X) → index_where (λ x. test (show x)) xs ≡ Some i
      → slice_get xs i ≡ Some x → show v ≡ change (show x) → map show (set xs i v) ≡ at_first test change (map show xs)
  change_at change [] i x v found at made = cc
  change_at change (a ∷ xs) zero x v found at made =
      let here : a ≡ x = same_Some _ _ at in
      elim (cases_Bool (test (show a))) [
        | inl t ↦ rw t (ap (λ y. y ∷ map show xs) (made ∙ ap (λ x. change (show x)) (sym here)))
        | inr f ↦ absurd (not_first (index_where (λ x. test (show x)) xs) (rw f at found))
      ]
  change_at change (a ∷ xs) (suc i) x v found at made =
      elim (cases_Bool (test (show a))) [
        | inl t ↦ let first : 0 ≡ suc i = same_Some _ _ (rw t at found) in absurd (omega arith)
        | inr f ↦
            let rest = change_at change xs i x v (later_index (index_where (λ x. test (show x)) xs) i (rw f at found)) at made in
            rw f (ap (λ ys. show a ∷ ys) rest)
      ]

  pub replace_at : (xs : List X) (i : ℕ) (v : X) → index_where (λ x. test (show x)) xs ≡ Some i
      → map show (set xs i v) ≡ at_first test (λ old. show v) (map show xs)
  replace_at [] i v found = cc
  replace_at (a ∷ xs) zero v found =
      elim (cases_Bool (test (show a))) [
        | inl t ↦ rw t refl
        | inr f ↦ absurd (not_first (index_where (λ x. test (show x)) xs) (rw f at found))
      ]
  replace_at (a ∷ xs) (suc i) v found =
      elim (cases_Bool (test (show a))) [
        | inl t ↦ let first : 0 ≡ suc i = same_Some _ _ (rw t at found) in absurd (omega arith)
        | inr f ↦
            let rest = replace_at xs i v (later_index (index_where (λ x. test (show x)) xs) i (rw f at found)) in
            rw f (ap (λ ys. show a ∷ ys) rest)
      ]

  -- an index depends on the plain values alone
  pub index_shown : (xs : List X) → index_where (λ x. test (show x)) xs ≡ index_where test (map show xs)
  index_shown [] = refl
  index_shown (a ∷ xs) = ap (λ index. cond (test (show a)) (Some 0) (option_map (λ n. n + 1) index)) (index_shown xs)

  pub put_at : (xs : List X) (i : ℕ) (v : X) → index_where (λ x. test (show x)) xs ≡ Some i
      → map show (set xs i v) ≡ put_first test (show v) (map show xs)
  put_at [] i v found = cc
  put_at (a ∷ xs) zero v found =
      elim (cases_Bool (test (show a))) [
        | inl t ↦ rw t refl
        | inr f ↦ absurd (not_first (index_where (λ x. test (show x)) xs) (rw f at found))
      ]
  put_at (a ∷ xs) (suc i) v found =
      elim (cases_Bool (test (show a))) [
        | inl t ↦ let first : 0 ≡ suc i = same_Some _ _ (rw t at found) in absurd (omega arith)
        | inr f ↦
            let rest = put_at xs i v (later_index (index_where (λ x. test (show x)) xs) i (rw f at found)) in
            rw f (ap (λ ys. show a ∷ ys) rest)
      ]

  pub remove_at : (xs : List X) (i : ℕ) → index_where (λ x. test (show x)) xs ≡ Some i
      → map show (remove xs i) ≡ without_first test (map show xs)
  remove_at [] i found = cc
  remove_at (a ∷ xs) zero found =
      elim (cases_Bool (test (show a))) [
        | inl t ↦ rw t refl
        | inr f ↦ absurd (not_first (index_where (λ x. test (show x)) xs) (rw f at found))
      ]
  remove_at (a ∷ xs) (suc i) found =
      elim (cases_Bool (test (show a))) [
        | inl t ↦ let first : 0 ≡ suc i = same_Some _ _ (rw t at found) in absurd (omega arith)
        | inr f ↦
            let rest = remove_at xs i (later_index (index_where (λ x. test (show x)) xs) i (rw f at found)) in
            rw f (ap (λ ys. show a ∷ ys) rest)
      ]

  pub insert_before : (xs : List X) (i : ℕ) (v : X) → index_where (λ x. test (show x)) xs ≡ Some i
      → map show (insert xs i v) ≡ put_before test (show v) (map show xs)
  insert_before [] i v found = cc
  insert_before (a ∷ xs) zero v found =
      elim (cases_Bool (test (show a))) [
        | inl t ↦ rw t refl
        | inr f ↦ absurd (not_first (index_where (λ x. test (show x)) xs) (rw f at found))
      ]
  insert_before (a ∷ xs) (suc i) v found =
      elim (cases_Bool (test (show a))) [
        | inl t ↦ let first : 0 ≡ suc i = same_Some _ _ (rw t at found) in absurd (omega arith)
        | inr f ↦
            let rest = insert_before xs i v (later_index (index_where (λ x. test (show x)) xs) i (rw f at found)) in
            rw f (ap (λ ys. show a ∷ ys) rest)
      ]

  -- a list has one that passes where an index was found
  pub any_at : (xs : List X) (i : ℕ) → index_where (λ x. test (show x)) xs ≡ Some i → list_any test (map show xs) ≡ true
  any_at [] i found = cc
  any_at (a ∷ xs) zero found =
      elim (cases_Bool (test (show a))) [
        | inl t ↦ rw t refl
        | inr f ↦ absurd (not_first (index_where (λ x. test (show x)) xs) (rw f at found))
      ]
  any_at (a ∷ xs) (suc i) found =
      elim (cases_Bool (test (show a))) [
        | inl t ↦ rw t refl
        | inr f ↦ rw f (any_at xs i (later_index (index_where (λ x. test (show x)) xs) i (rw f at found)))
      ]

  find_at : (xs : List X) (i : ℕ) → index_where (λ x. test (show x)) xs ≡ Some i → slice_get (map show xs) i ≡ find test (map show xs)
  find_at [] i found = cc
  find_at (a ∷ xs) zero found =
      elim (cases_Bool (test (show a))) [
        | inl t ↦ rw t refl
        | inr f ↦ absurd (not_first (index_where (λ x. test (show x)) xs) (rw f at found))
      ]
  find_at (a ∷ xs) (suc i) found =
      elim (cases_Bool (test (show a))) [
        | inl t ↦ let first : 0 ≡ suc i = same_Some _ _ (rw t at found) in absurd (omega arith)
        | inr f ↦ rw f (find_at xs i (later_index (index_where (λ x. test (show x)) xs) i (rw f at found)))
      ]

  find_none : (xs : List X) → index_where (λ x. test (show x)) xs ≡ None → None ≡ find test (map show xs)
  find_none [] none = refl
  find_none (a ∷ xs) none =
      elim (cases_Bool (test (show a))) [
        | inl t ↦ let some = rw t at none in cc
        | inr f ↦ rw f (find_none xs (no_index (index_where (λ x. test (show x)) xs) (rw f at none)))
      ]

  -- what is found stands at the index
  pub found_at : (xs : List X) (o : Option ℕ) → o ≡ index_where (λ x. test (show x)) xs
      → option_and_then (slice_get (map show xs)) o ≡ find test (map show xs)
  found_at xs (Some i) is = find_at xs i (sym is)
  found_at xs None is = find_none xs (sym is)

  -- ---- where none passes

  pub change_none : (change : Y → Y) (xs : List X) → index_where (λ x. test (show x)) xs ≡ None
      → map show xs ≡ at_first test change (map show xs)
  change_none change [] none = refl
  change_none change (a ∷ xs) none =
      elim (cases_Bool (test (show a))) [
        | inl t ↦ let some = rw t at none in cc
        | inr f ↦
            let rest = change_none change xs (no_index (index_where (λ x. test (show x)) xs) (rw f at none)) in
            rw f (ap (λ ys. show a ∷ ys) rest)
      ]

  pub put_none : (xs : List X) (v : X) → index_where (λ x. test (show x)) xs ≡ None
      → map show (xs ++ v ∷ []) ≡ put_first test (show v) (map show xs)
  put_none [] v none = refl
  put_none (a ∷ xs) v none =
      elim (cases_Bool (test (show a))) [
        | inl t ↦ let some = rw t at none in cc
        | inr f ↦
            let rest = put_none xs v (no_index (index_where (λ x. test (show x)) xs) (rw f at none)) in
            rw f (ap (λ ys. show a ∷ ys) rest)
      ]

  pub remove_none : (xs : List X) → index_where (λ x. test (show x)) xs ≡ None
      → map show xs ≡ without_first test (map show xs)
  remove_none [] none = refl
  remove_none (a ∷ xs) none =
      elim (cases_Bool (test (show a))) [
        | inl t ↦ let some = rw t at none in cc
        | inr f ↦
            let rest = remove_none xs (no_index (index_where (λ x. test (show x)) xs) (rw f at none)) in
            rw f (ap (λ ys. show a ∷ ys) rest)
      ]

  pub insert_none : (xs : List X) (v : X) → index_where (λ x. test (show x)) xs ≡ None
      → map show (xs ++ v ∷ []) ≡ put_before test (show v) (map show xs)
  insert_none [] v none = refl
  insert_none (a ∷ xs) v none =
      elim (cases_Bool (test (show a))) [
        | inl t ↦ let some = rw t at none in cc
        | inr f ↦
            let rest = insert_none xs v (no_index (index_where (λ x. test (show x)) xs) (rw f at none)) in
            rw f (ap (λ ys. show a ∷ ys) rest)
      ]

  pub any_none : (xs : List X) → index_where (λ x. test (show x)) xs ≡ None → list_any test (map show xs) ≡ false
  any_none [] none = refl
  any_none (a ∷ xs) none =
      elim (cases_Bool (test (show a))) [
        | inl t ↦ let some = rw t at none in cc
        | inr f ↦ rw f (any_none xs (no_index (index_where (λ x. test (show x)) xs) (rw f at none)))
      ]

-- an element that looks the same changes nothing that is seen
pub set_shown : {X Y : Type 0} (show : X → Y) (xs : List X) (i : ℕ) (x v : X) → slice_get xs i ≡ Some x → show v ≡ show x
    → map show (set xs i v) ≡ map show xs
set_shown show [] i x v at same = refl
set_shown show (a ∷ xs) zero x v at same =
    let here : a ≡ x = same_Some _ _ at in ap (λ y. y ∷ map show xs) (same ∙ ap show (sym here))
set_shown show (a ∷ xs) (suc i) x v at same = ap (λ ys. show a ∷ ys) (set_shown show xs i x v at same)

pub get_set : {X : Type 0} (xs : List X) (i : ℕ) (v : X) → i < length xs → slice_get (set xs i v) i ≡ Some v
get_set [] i v l = absurd (omega arith)
get_set (a ∷ xs) zero v l = refl
get_set (a ∷ xs) (suc i) v l = get_set xs i v (omega arith)

-- the element at an index within a list
pub get_within : {X : Type 0} (xs : List X) (i : ℕ) (d : X) → i < length xs → slice_get xs i ≡ Some (get_or xs i d)
get_within [] i d l = absurd (omega arith)
get_within (a ∷ xs) zero d l = refl
get_within (a ∷ xs) (suc i) d l = get_within xs i d (omega arith)
