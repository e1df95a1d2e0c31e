-- An index is found exactly where a label is among others, and the labels of two cubes together differ.
use Rattle.std.proofs.Common.{◌≡◌, ℕ, ◌+◌, Bool, true, false, ◌||◌, not, List, [], ◌∷◌, refl, sym, ap, ◌∙◌, Option, Some, None, is_some, ℤ, inl, inr, true≢false, subst}
use Rattle.std.specs.Bool.{⊤}
use Rattle.std.specs.List.{list_any}
use Rattle.std.specs.Option.{option_map}
use Rattle.std.specs.Prelude.{◌++◌}
use Rattle.std.proofs.lemmas.Bool.{cases_Bool}
use Rattle.oe_dims.proofs.IndexLemmas.{same_number_is, same_number_refl}
use Rattle.oe_dims.proofs.OrderLemmas.{same_name_is, same_name_refl}
use Rattle.oe_dims.proofs.ShapeLemmas.{numbers_rise, y_falls}
use Rattle.oe_dims.specs.Dimensions.{Dimensions, IsShape, number_labels}
use Rattle.oe_dims.specs.Indices.{same_number, index_where, IsIndexOf}
use Rattle.oe_dims.specs.Names.{same_name}
use Rattle.oe_dims.specs.declared.kind.Kind.{Kind}
use Rattle.oe_dims.specs.declared.kind.Kind.TheVariants.{Y}
use Rattle.oe_meanings.proofs.MergeLemmas.{any_there, there_any}
use Rattle.oe_meanings.proofs.OrderedLemmas.{below_is_order, above_is_order, ordered_differ, rises_stand, falls_stand, all_distinct}
use Rattle.oe_requests.specs.Labels.{is_below, is_above, new_among, are_distinct}
use Rattle.oe_meanings.specs.Results.{IsRisingKind}

pub mapped_some : {A B : Type 0} (f : A → B) (o : Option A) → is_some (option_map f o) ≡ is_some o
mapped_some f None = refl
mapped_some f (Some a) = refl

pub index_any : {L : Type 0} (test : L → Bool) (labels : List L) → is_some (index_where test labels) ≡ list_any test labels
index_any test [] = refl
index_any test (l ∷ labels) = by (test l) refl (index_any test labels)
  where
    by : (b : Bool) → test l ≡ b → is_some (index_where test labels) ≡ list_any test labels → is_some (index_where test (l ∷ labels)) ≡ list_any test (l ∷ labels)
    by true is rest = rw is refl
    by false is rest = rw is (mapped_some (λ n. n + 1) (index_where test labels) ∙ rest)

-- ---- names by an index

abbrev IsSomething : {A : Type 0} → Option A → Type 0
IsSomething None = ⊥
IsSomething (Some a) = ⊤

pub found_any : (names : List (List ℕ)) (name : List ℕ) (found : Option ℕ) → IsIndexOf names name found → is_some found ≡ list_any (same_name name) names
found_any names name None is =
    elim (cases_Bool (list_any (same_name name) names)) [
      | inl t ↦ absurd (is.absent.0 refl (any_there same_name same_name_is same_name_refl name names t))
      | inr f ↦ sym f
    ]
found_any names name (Some index) is =
    elim (cases_Bool (list_any (same_name name) names)) [
      | inl t ↦ sym t
      | inr f ↦ absurd (subst IsSomething (is.absent.1 (λ there. true≢false (sym (there_any same_name same_name_is same_name_refl name names there) ∙ f))) tt)
    ]

-- ---- labels of two cubes together

pub rising_differ : (kind : Kind) (one two : Dimensions) → IsRisingKind kind → IsShape one → IsShape two
    → are_distinct same_number (number_labels one kind ++ new_among same_number (number_labels one kind) (number_labels two kind)) ≡ true
rising_differ kind one two r h k =
    let not_y : kind ≡ Y → ⊥ = λ e. subst IsRisingKind e r in
    all_distinct same_number same_number_is same_number_refl (number_labels one kind) (number_labels two kind)
    (ordered_differ is_below below_is_order (number_labels one kind) (rises_stand (number_labels one kind) (numbers_rise one kind h not_y)))
    (ordered_differ is_below below_is_order (number_labels two kind) (rises_stand (number_labels two kind) (numbers_rise two kind k not_y)))

pub falling_differ : (one two : Dimensions) → IsShape one → IsShape two
    → are_distinct same_number (number_labels one Y ++ new_among same_number (number_labels one Y) (number_labels two Y)) ≡ true
falling_differ one two h k =
    all_distinct same_number same_number_is same_number_refl (number_labels one Y) (number_labels two Y)
    (ordered_differ is_above above_is_order (number_labels one Y) (falls_stand (number_labels one Y) (y_falls one h)))
    (ordered_differ is_above above_is_order (number_labels two Y) (falls_stand (number_labels two Y) (y_falls two k)))
