-- The element of a list at an index.
use Rattle.std.proofs.Common.{◌≡◌, ℕ, zero, suc, ◌<◌, List, [], ◌∷◌, length, slice_get, slice_index_or, Contains, Option, Some, refl, sym, ap, ◌∙◌, arith}

pub get_below : {X : Type 0} (xs : List X) (i : ℕ) (x : X) → slice_get xs i ≡ Some x → i < length xs
get_below [] i x is = absurd cc
get_below (y ∷ xs) zero x is = omega arith
get_below (y ∷ xs) (suc i) x is = let below : i < length xs = get_below xs i x is in omega arith

get_contains : {X : Type 0} (xs : List X) (i : ℕ) (x : X) → slice_get xs i ≡ Some x → slice_index_or xs i x ≡ x
get_contains [] i x is = absurd cc
get_contains (y ∷ xs) zero x is = let same : y ≡ x = cc in same
get_contains (y ∷ xs) (suc i) x is = get_contains xs i x is

pub there_at : {X : Type 0} (xs : List X) (i : ℕ) (x : X) → slice_get xs i ≡ Some x → Contains xs x
there_at xs i x is = (i, get_below xs i x is, get_contains xs i x is)

pub record Index {X : Type 0} (xs : List X) (x : X) : Type 0 where
  pub index : ℕ
  pub is_there : slice_get xs index ≡ Some x

index_by : {X : Type 0} (xs : List X) (x : X) (k : ℕ) → k < length xs → slice_index_or xs k x ≡ x → slice_get xs k ≡ Some x
index_by [] x k below is = absurd (omega arith)
index_by (y ∷ xs) x zero below is = ap Some is
index_by (y ∷ xs) x (suc k) below is = index_by xs x k (omega arith) is

pub index_there : {X : Type 0} (xs : List X) (x : X) → Contains xs x → Index xs x
index_there xs x has = record { index = has.0; is_there = index_by xs x has.0 has.1 has.2 }

pub same_some : {X : Type 0} (x y : X) (o : Option X) → o ≡ Some x → o ≡ Some y → x ≡ y
same_some x y o a b = let both : Some x ≡ Some y = sym a ∙ b in cc
