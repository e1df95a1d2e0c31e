-- An element of a list, or none.
use Rattle.std.proofs.Common.{◌≡◌, ℕ, zero, suc, ◌<◌, ◌≤◌, List, [], ◌∷◌, Some, None, length, get_or, refl, arith}
use Rattle.std.specs.List.{slice_get}

pub get_some : (xs : List ℕ) (i a : ℕ) → slice_get xs i ≡ Some a → (i < length xs)
get_some [] i a e = absurd (cc)
get_some (x ∷ xs) zero a e = omega arith
get_some (x ∷ xs) (suc i) a e = let h : i < length xs = get_some xs i a e in omega arith

pub get_is : (xs : List ℕ) (i a : ℕ) → slice_get xs i ≡ Some a → (get_or xs i 0 ≡ a)
get_is [] i a e = absurd (cc)
get_is (x ∷ xs) zero a e = cc
get_is (x ∷ xs) (suc i) a e = get_is xs i a e

pub get_none : {A : Type 0} (xs : List ℕ) (i a : ℕ) → length xs ≤ i → slice_get xs i ≡ Some a → A
get_none xs i a h e = absurd (omega (arith, get_some xs i a e))

pub get_at : (xs : List ℕ) (i : ℕ) → i < length xs → slice_get xs i ≡ Some (get_or xs i 0)
get_at [] i h = absurd (omega arith)
get_at (x ∷ xs) zero h = refl
get_at (x ∷ xs) (suc i) h = get_at xs i (omega arith)

pub get_past : (xs : List ℕ) (i : ℕ) → length xs ≤ i → slice_get xs i ≡ None
get_past [] i h = refl
get_past (x ∷ xs) zero h = absurd (omega arith)
get_past (x ∷ xs) (suc i) h = get_past xs i (omega arith)
