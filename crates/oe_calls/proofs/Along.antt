-- What lists have, and the least fault along a list as a loop finds it.
use Rattle.std.proofs.Common.{◌≡◌, ℕ, zero, suc, ◌+◌, ◌<◌, ◌⊎◌, inl, inr, List, [], ◌∷◌, ◌++◌, Option, None, length, map, take, get_or, slice_index_or, refl, sym, ap, ◌∙◌, subst, Contains, arith}
use Rattle.std.proofs.lemmas.List.{take_more}
use Rattle.std.proofs.lemmas.List.Elements.{Contains-append_left, Contains-push, Contains-push_cases}
use Rattle.oe_graph.specs.Faults.{least, IsLeastFault}
use Rattle.oe_graph.specs.declared.fault.Fault.{Fault}
use Rattle.oe_graph.proofs.LeastLemmas.{IsLeastFault-iff, IsLeastFault-least, Either, OneOf}

module _ {X : Type 0} where
  pub first_there : (x : X) (xs : List X) → Contains (x ∷ xs) x
  first_there x xs = (0, omega arith, refl)

  pub later_there : (x : X) (xs : List X) (y : X) → Contains xs y → Contains (x ∷ xs) y
  later_there x xs y has = let below = has.1 in (suc has.0, omega arith, has.2)

  first_or_later : (x : X) (xs : List X) (y : X) (k : ℕ) → k < length (x ∷ xs) → slice_index_or (x ∷ xs) k y ≡ y
      → (x ≡ y) ⊎ Contains xs y
  first_or_later x xs y zero below is = inl is
  first_or_later x xs y (suc k) below is = inr (k, omega arith, is)

  pub there_cases : (x : X) (xs : List X) (y : X) → Contains (x ∷ xs) y → (x ≡ y) ⊎ Contains xs y
  there_cases x xs y has = first_or_later x xs y has.0 has.1 has.2

  pub none_there : (y : X) → Contains [] y → ⊥
  none_there y has = let below = has.1 in absurd (omega arith)

  pub take_pushed : (xs : List X) (i : ℕ) (x : X) → i < length xs → x ≡ get_or xs i x → take (i + 1) xs ≡ take i xs ++ x ∷ []
  take_pushed xs i x below is = take_more xs i x below ∙ ap (λ y. take i xs ++ y ∷ []) (sym is)

pub in_first : {X : Type 0} (x : X) (xs : List X) (y : X) → x ≡ y → Contains (x ∷ xs) y
in_first x xs y is = (0, omega arith, is)

pub there_by : {X : Type 0} (xs : List X) (i : ℕ) (x : X) → i < length xs → x ≡ get_or xs i x → Contains xs x
there_by xs i x below is = (i, below, sym is)

-- ---- in a list of images

pub record Image {X Y : Type 0} (f : X → Y) (xs : List X) (y : Y) : Type 0 where
  pub of : X
  pub has : Contains xs of
  pub is : f of ≡ y

pub in_map : {X Y : Type 0} (f : X → Y) (xs : List X) (y : Y) → Contains (map f xs) y → Image f xs y
in_map f [] y has = absurd (none_there y has)
in_map f (x ∷ xs) y has =
    elim (there_cases (f x) (map f xs) y has) as (λ _. Image f (x ∷ xs) y) [
      | inl is ↦ record { of = x; has = in_first x xs x refl; is = is }
      | inr there ↦ let later = in_map f xs y there in
          record { of = later.of; has = later_there x xs later.of later.has; is = later.is }
    ]

module _ {X Y : Type 0} (f : X → Y) where
  pub map_there : (xs : List X) (x : X) → Contains xs x → Contains (map f xs) (f x)
  map_there [] x has = absurd (none_there x has)
  map_there (y ∷ xs) x has = elim (there_cases y xs x has) [
    | inl is ↦ subst (λ z. Contains (f y ∷ map f xs) (f z)) is (first_there (f y) (map f xs))
    | inr there ↦ later_there (f y) (map f xs) (f x) (map_there xs x there)
  ]

  module _ (Of : Y → Fault → Type 0) where
    pub one_mapped : (xs : List X) (g : Fault) → OneOf (λ x. Of (f x)) xs g → OneOf Of (map f xs) g
    one_mapped xs g o = record { one = f o.one; is_there = map_there xs o.one o.is_there; has = o.has }

    pub one_back : (xs : List X) (g : Fault) → OneOf Of (map f xs) g → OneOf (λ x. Of (f x)) xs g
    one_back xs g o =
        let origin = in_map f xs o.one o.is_there in
        record { one = origin.of; is_there = origin.has; has = subst (λ y. Of y g) (sym origin.is) o.has }

-- ---- along a list

module _ {X : Type 0} (Of : X → Fault → Type 0) where
  into : (xs : List X) (x : X) (f : Fault) → Either (OneOf Of xs) (Of x) f → OneOf Of (xs ++ x ∷ []) f
  into xs x f (inl o) = record { one = o.one; is_there = Contains-append_left xs (x ∷ []) o.one o.is_there; has = o.has }
  into xs x f (inr has) = record { one = x; is_there = Contains-push xs x; has = has }

  out_by : (xs : List X) (x : X) (f : Fault) (y : X) → Of y f → Contains xs y ⊎ (x ≡ y) → Either (OneOf Of xs) (Of x) f
  out_by xs x f y has (inl there) = inl (record { one = y; is_there = there; has = has })
  out_by xs x f y has (inr is) = inr (subst (λ z. Of z f) (sym is) has)

  out : (xs : List X) (x : X) (f : Fault) → OneOf Of (xs ++ x ∷ []) f → Either (OneOf Of xs) (Of x) f
  out xs x f o = out_by xs x f o.one o.has (Contains-push_cases xs x o.one o.is_there)

  pub least_none : IsLeastFault (OneOf Of []) None
  least_none = λ f o. absurd (none_there o.one o.is_there)

  pub least_more : (xs : List X) (i : ℕ) (x : X) (found new : Option Fault) → i < length xs → x ≡ get_or xs i x
      → IsLeastFault (OneOf Of (take i xs)) found → IsLeastFault (Of x) new
      → IsLeastFault (OneOf Of (take (i + 1) xs)) (least found new)
  least_more xs i x found new more is p q =
      subst (λ ys. IsLeastFault (OneOf Of ys) (least found new))
      (sym (take_pushed xs i x more is))
      (IsLeastFault-iff (Either (OneOf Of (take i xs)) (Of x)) (OneOf Of (take i xs ++ x ∷ [])) (least found new)
      (into (take i xs) x) (out (take i xs) x)
      (IsLeastFault-least (OneOf Of (take i xs)) (Of x) found new p q))
