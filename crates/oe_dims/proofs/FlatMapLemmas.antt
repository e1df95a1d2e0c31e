-- Lists of lists of one length.
use Rattle.std.proofs.Common.{◌≡◌, ℕ, zero, suc, ◌+◌, ◌-◌, ◌*◌, ◌<◌, List, [], ◌∷◌, ◌++◌, length, map, refl, sym, ap, ◌∙◌, arith, Option, Some, None, inl, inr}
use Rattle.std.specs.List.{slice_get, flat_map}
use Rattle.std.specs.Option.{option_map}
use Rattle.std.proofs.lemmas.Bool.{cases_lt}
use Rattle.std.proofs.lemmas.List.{length-append, map-append}
use Rattle.std.proofs.lemmas.Nat.{rows}
use Rattle.std.proofs.lemmas.Option.{same_Some, slice_get-map}

pub slice_get-append_left : {X : Type 0} (xs ys : List X) (k : ℕ) → k < length xs → slice_get (xs ++ ys) k ≡ slice_get xs k
slice_get-append_left [] ys k h = absurd (omega arith)
slice_get-append_left (x ∷ xs) ys zero h = refl
slice_get-append_left (x ∷ xs) ys (suc k) h = slice_get-append_left xs ys k (omega arith)

pub slice_get-append_right : {X : Type 0} (xs ys : List X) (k : ℕ) → slice_get (xs ++ ys) (length xs + k) ≡ slice_get ys k
slice_get-append_right [] ys k = let same : 0 + k ≡ k = omega arith in rw same refl
slice_get-append_right (x ∷ xs) ys k =
    let next : suc (length xs) + k ≡ suc (length xs + k) = omega arith in rw next (slice_get-append_right xs ys k)

pub length-flat_map : {A B : Type 0} (f : A → List B) (n : ℕ) (each : (a : A) → length (f a) ≡ n) (xs : List A) → length (flat_map f xs) ≡ length xs * n
length-flat_map f n each [] = omega arith
length-flat_map f n each (a ∷ xs) =
    let rest = length-flat_map f n each xs in
    let here = each a in
    length-append (f a) (flat_map f xs) ∙ omega arith

-- the element at an index of a part
pub slice_get-flat_map : {A B : Type 0} (f : A → List B) (n : ℕ) (each : (a : A) → length (f a) ≡ n) (xs : List A) (i j : ℕ) (a : A) → slice_get xs i ≡ Some a → j < n → slice_get (flat_map f xs) (i * n + j) ≡ slice_get (f a) j
slice_get-flat_map f n each [] i j a e h = cc
slice_get-flat_map f n each (b ∷ xs) zero j a e h =
    let same : b ≡ a = same_Some b a e in
    let first : 0 * n + j ≡ j = omega arith in
    let here = each b in
    let short : j < length (f b) = omega arith in
    rw first (slice_get-append_left (f b) (flat_map f xs) j short ∙ ap (λ c. slice_get (f c) j) same)
slice_get-flat_map f n each (b ∷ xs) (suc i) j a e h =
    let here = each b in
    let next : suc i * n + j ≡ length (f b) + (i * n + j) = omega arith in
    rw next (slice_get-append_right (f b) (flat_map f xs) (i * n + j) ∙ slice_get-flat_map f n each xs i j a e h)

-- and which part and index an element is from
pub record IsFromPart {A B : Type 0} (f : A → List B) (n : ℕ) (xs : List A) (k : ℕ) (v : B) : Type 0 where
  pub part : ℕ
  pub index : ℕ
  pub item : A
  pub at_part : slice_get xs part ≡ Some item
  pub at_index : slice_get (f item) index ≡ Some v
  pub number : k ≡ part * n + index

pub from_part : {A B : Type 0} (f : A → List B) (n : ℕ) (each : (a : A) → length (f a) ≡ n) (xs : List A) (k : ℕ) (v : B) → slice_get (flat_map f xs) k ≡ Some v → IsFromPart f n xs k v
from_part f n each [] k v e = cc
from_part f n each (a ∷ xs) k v e =
    let here = each a in
    elim (cases_lt k (length (f a))) [
      | inl lt ↦ record { part = 0; index = k; item = a; at_part = refl; at_index = sym (slice_get-append_left (f a) (flat_map f xs) k lt) ∙ e; number = omega arith }
      | inr ge ↦ let back : k ≡ length (f a) + (k - length (f a)) = omega arith in
          let later : slice_get (flat_map f xs) (k - length (f a)) ≡ Some v = sym (slice_get-append_right (f a) (flat_map f xs) (k - length (f a))) ∙ ap (slice_get (f a ++ flat_map f xs)) (sym back) ∙ e in
          let rest = from_part f n each xs (k - length (f a)) v later in
          let counted = rest.number in
          record { part = suc rest.part; index = rest.index; item = rest.item; at_part = rest.at_part; at_index = rest.at_index; number = omega arith }
    ]

-- an element within a row has a number within the rows
pub below_product : (a m b n : ℕ) → a < m → b < n → a * n + b < m * n
below_product a m b n ha hb = grind (arith, rows)

pub map-flat_map : {A B C : Type 0} (g : B → C) (f : A → List B) (xs : List A) → map g (flat_map f xs) ≡ flat_map (λ x. map g (f x)) xs
map-flat_map g f [] = refl
map-flat_map g f (x ∷ xs) = map-append g (f x) (flat_map f xs) ∙ ap (λ zs. map g (f x) ++ zs) (map-flat_map g f xs)

pub flat_map-same : {A X : Type 0} (f g : A → List X) → ((a : A) → f a ≡ g a) → (xs : List A) → flat_map f xs ≡ flat_map g xs
flat_map-same f g same [] = refl
flat_map-same f g same (x ∷ xs) = let here = same x in let rest = flat_map-same f g same xs in rw (here, rest) refl

-- what a mapped option holds is the image of what the option holds
pub value_inside : {L M : Type 0} (f : L → M) (o : Option L) (m : M) → option_map f o ≡ Some m → (l : L) × (o ≡ Some l) × (f l ≡ m)
value_inside f None m e = cc
value_inside f (Some l) m e = (l, refl, same_Some (f l) m e)

-- and what stands in a mapped list is the image of what stands in the list
pub value_at : {L M : Type 0} (f : L → M) (xs : List L) (k : ℕ) (m : M) → slice_get (map f xs) k ≡ Some m → (l : L) × (slice_get xs k ≡ Some l) × (f l ≡ m)
value_at f xs k m e = value_inside f (slice_get xs k) m (sym (slice_get-map f xs k) ∙ e)

-- lists with the same element at each index are one
pub same_gets : {C : Type 0} (xs ys : List C) → ((k : ℕ) → slice_get xs k ≡ slice_get ys k) → xs ≡ ys
same_gets [] [] h = refl
same_gets [] (y ∷ ys) h = cc (h 0)
same_gets (x ∷ xs) [] h = cc (h 0)
same_gets (x ∷ xs) (y ∷ ys) h =
    let first : x ≡ y = same_Some x y (h 0) in
    let rest : xs ≡ ys = same_gets xs ys (λ k. h (suc k)) in
    rw (first, rest) refl
