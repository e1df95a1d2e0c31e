-- What the readers of a shape find: a label stands at one index, and labels of one dimension can be compared.
use Rattle.std.proofs.Common.{◌≡◌, ◌↔◌, IsTrue, Decides, ℕ, zero, suc, ◌+◌, Bool, true, List, [], ◌∷◌, slice_get, refl, sym, ap, ◌∙◌, arith, Option, Some, None, ℤ, ◌<ℤ◌, inl, inr}
use Rattle.std.specs.List.{Contains}
use Rattle.std.specs.Option.{option_map}
use Rattle.std.proofs.lemmas.Bool.{cases_lt, cases_Bool}
use Rattle.std.proofs.lemmas.Int.{ints}
use Rattle.std.proofs.lemmas.Option.{same_Some, slice_get_within, slice_get-get_or, get_or_from_slice_get}
use Rattle.oe_dims.specs.Names.{same_name}
use Rattle.oe_dims.specs.Dimensions.{Dimensions, IsShape, number_labels, band_names, all_differ}
use Rattle.oe_dims.specs.Indices.{same_number, index_where, IsIndexOf}
use Rattle.oe_dims.specs.Rules.{IsRising, IsFalling, IsInOrder}
use Rattle.oe_dims.specs.declared.kind.Kind.{Kind}
use Rattle.oe_dims.specs.declared.kind.Kind.TheVariants.{Time, Bands, Y, X}
use Rattle.oe_dims.proofs.OrderLemmas.{same_name_is, same_name_refl}
use Rattle.oe_dims.proofs.IndexLemmas.{index_where_passes, same_number_is, same_number_refl}
use Rattle.oe_dims.proofs.RuleLemmas.{IsRising-rises, IsFalling-falls, IsWithoutTwice-all_differ}
use Rattle.oe_dims.proofs.ShapeLemmas.{t_rises, y_falls, x_rises, bands_differ}

-- no label stands at two indices
pub record IsUnrepeated {L : Type 0} (labels : List L) : Type 0 where
  pub one : (i j : ℕ) (label : L) → slice_get labels i ≡ Some label → slice_get labels j ≡ Some label → i ≡ j

not_below_itself : (a : ℤ) → a <ℤ a → ⊥
not_below_itself a h = omega (arith, ints)

pub IsUnrepeated-rising : (labels : List ℤ) → IsRising labels → IsUnrepeated labels
IsUnrepeated-rising labels h = record {
  one = λ i j label ei ej. elim (cases_lt i j) [
    | inl lt ↦ absurd (not_below_itself label (h i j label label lt ei ej))
    | inr ge ↦ elim (cases_lt j i) [
      | inl lt ↦ absurd (not_below_itself label (h j i label label lt ej ei))
      | inr le ↦ omega arith
    ]
  ];
}

pub IsUnrepeated-falling : (labels : List ℤ) → IsFalling labels → IsUnrepeated labels
IsUnrepeated-falling labels h = record {
  one = λ i j label ei ej. elim (cases_lt i j) [
    | inl lt ↦ absurd (not_below_itself label (h i j label label lt ei ej))
    | inr ge ↦ elim (cases_lt j i) [
      | inl lt ↦ absurd (not_below_itself label (h j i label label lt ej ei))
      | inr le ↦ omega arith
    ]
  ];
}

-- the labels of a shape stand in order
pub IsInOrder-shape : (d : Dimensions) (kind : Kind) → IsShape d → IsInOrder kind (number_labels d kind)
IsInOrder-shape d Time h = IsRising-rises _ (t_rises d h)
IsInOrder-shape d Bands h = IsRising-rises [] refl
IsInOrder-shape d Y h = IsFalling-falls _ (y_falls d h)
IsInOrder-shape d X h = IsRising-rises _ (x_rises d h)

pub IsUnrepeated-numbers : (d : Dimensions) (kind : Kind) → IsShape d → IsUnrepeated (number_labels d kind)
IsUnrepeated-numbers d Time h = IsUnrepeated-rising _ (IsInOrder-shape d Time h)
IsUnrepeated-numbers d Bands h = IsUnrepeated-rising _ (IsInOrder-shape d Bands h)
IsUnrepeated-numbers d Y h = IsUnrepeated-falling _ (IsInOrder-shape d Y h)
IsUnrepeated-numbers d X h = IsUnrepeated-rising _ (IsInOrder-shape d X h)

pub IsUnrepeated-names : (names : List (List ℕ)) → all_differ names ≡ true → IsUnrepeated names
IsUnrepeated-names names h = record { one = IsWithoutTwice-all_differ names h }

-- ---- the index of a label

some_none : (k : ℕ) → ◌≡◌ {A = Option ℕ} (Some k) None → ⊥
some_none k e = cc

none_passes : {L : Type 0} (test : L → Bool) (labels : List L) (k : ℕ) (label : L) → index_where test labels ≡ None → slice_get labels k ≡ Some label → test label ≡ true → ⊥
none_passes test [] k label none e t = cc
none_passes test (a ∷ labels) zero label none e t =
    let here : test a ≡ true = ap test (same_Some a label e) ∙ t in
    absurd (some_none 0 (rw here at none))
none_passes test (a ∷ labels) (suc k) label none e t =
    elim (cases_Bool (test a)) [
      | inl h ↦ absurd (some_none 0 (rw h at none))
      | inr h ↦ none_passes test labels k label (no_later (index_where test labels) (rw h at none)) e t
    ]
  where
    no_later : (found : Option ℕ) → option_map (λ n. n + 1) found ≡ None → found ≡ None
    no_later None e = refl
    no_later (Some n) e = cc

stands_there : {L : Type 0} (same : L → L → Bool) (is : (a b : L) → same a b ≡ true → b ≡ a) (labels : List L) (label : L) (k : ℕ) → index_where (same label) labels ≡ Some k → slice_get labels k ≡ Some label
stands_there same is labels label k e =
    let found = index_where_passes (same label) labels k e in
    found.1 ∙ ap Some (is label found.0 found.2)

pub found_there : {L : Type 0} (same : L → L → Bool) (itself : (a : L) → same a a ≡ true) (is : (a b : L) → same a b ≡ true → b ≡ a) (labels : List L) → IsUnrepeated labels → (label : L) (k : ℕ) (found : Option ℕ) → index_where (same label) labels ≡ found → slice_get labels k ≡ Some label → found ≡ Some k
found_there same itself is labels alone label k None e there = absurd (none_passes (same label) labels k label e there (itself label))
found_there same itself is labels alone label k (Some n) e there =
    ap Some (alone.one n k label (stands_there same is labels label n e) there)

absent_then : {L : Type 0} (same : L → L → Bool) (is : (a b : L) → same a b ≡ true → b ≡ a) (labels : List L) (label : L) (found : Option ℕ) → index_where (same label) labels ≡ found → ¬ Contains labels label → found ≡ None
absent_then same is labels label None e none = refl
absent_then same is labels label (Some n) e none =
    let there = stands_there same is labels label n e in
    absurd (none (n, slice_get_within labels n label there, get_or_from_slice_get labels n label label there))

IsIndexOf-index_where : {L : Type 0} (same : L → L → Bool) (itself : (a : L) → same a a ≡ true) (is : (a b : L) → same a b ≡ true → b ≡ a) (labels : List L) → IsUnrepeated labels → (label : L) → IsIndexOf labels label (index_where (same label) labels)
IsIndexOf-index_where same itself is labels alone label = record {
  there = λ k. (stands_there same is labels label k, λ e. found_there same itself is labels alone label k _ refl e);
  absent = (
    (λ none there. none_passes (same label) labels there.0 label none (slice_get-get_or labels there.0 label there.1 ∙ ap Some there.2) (itself label)),
    (λ none. absent_then same is labels label _ refl none),
  );
}

pub IsIndexOf-number : (d : Dimensions) (kind : Kind) (label : ℤ) → IsShape d → IsIndexOf (number_labels d kind) label (index_where (same_number label) (number_labels d kind))
IsIndexOf-number d kind label h =
    IsIndexOf-index_where same_number same_number_refl same_number_is (number_labels d kind) (IsUnrepeated-numbers d kind h) label

pub IsIndexOf-name : (names : List (List ℕ)) (name : List ℕ) → all_differ names ≡ true → IsIndexOf names name (index_where (same_name name) names)
IsIndexOf-name names name h =
    IsIndexOf-index_where same_name same_name_refl same_name_is names (IsUnrepeated-names names h) name

pub IsIndexOf-band : (d : Dimensions) (name : List ℕ) → IsShape d → IsIndexOf (band_names d) name (index_where (same_name name) (band_names d))
IsIndexOf-band d name h = IsIndexOf-name (band_names d) name (bands_differ d h)

-- an index at which a label stands is the label's, and a label that stands nowhere has none
pub IsIndexOf-found : {L : Type 0} (labels : List L) → IsUnrepeated labels → (label : L) (k : ℕ) → slice_get labels k ≡ Some label → IsIndexOf labels label (Some k)
IsIndexOf-found labels alone label k e = record {
  there = λ i. ((λ same. ap (slice_get labels) (sym (same_Some k i same)) ∙ e), λ other. ap Some (alone.one k i label e other));
  absent = ((λ none. absurd (some_none k none)), λ none. absurd (none (k, slice_get_within labels k label e, get_or_from_slice_get labels k label label e)));
}

pub IsIndexOf-none : {L : Type 0} (labels : List L) (label : L) → ¬ Contains labels label → IsIndexOf labels label None
IsIndexOf-none labels label none = record {
  there = λ i. ((λ same. absurd (some_none i (sym same))), λ e. absurd (none (i, slice_get_within labels i label e, get_or_from_slice_get labels i label label e)));
  absent = ((λ e. none), λ h. refl);
}

-- ---- labels compared

-- a test that decides whether two lists are one decides whether two dimensions are
pub Decides-some : {A : Type 0} (xs ys : List A) (r : Bool) → Decides r (xs ≡ ys) → IsTrue r ↔ (◌≡◌ {A = Option (List A)} (Some xs) (Some ys))
Decides-some xs ys r h = ((λ t. ap Some (h.0 t)), λ e. h.1 (same_Some xs ys e))
