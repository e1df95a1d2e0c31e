-- Labels of two cubes that are the same: none is new, none is of one cube alone, and labels in order stay as they are.
use Rattle.std.proofs.Common.{◌≡◌, ℕ, ℤ, Bool, true, false, ◌&&◌, ◌||◌, not, List, [], ◌∷◌, ◌++◌, length, refl, ap, ◌∙◌, subst, Option, Some, None, option_map}
use Rattle.std.specs.Prelude.{⊤, unwrap_or}
use Rattle.std.specs.List.{list_any, list_all}
use Rattle.std.proofs.lemmas.Bool.{and_from}
use Rattle.std.proofs.lemmas.List.{append-nil}
use Rattle.oe_dims.proofs.IndexLemmas.{same_number_refl}
use Rattle.oe_dims.proofs.OrderLemmas.{same_name_refl}
use Rattle.oe_dims.proofs.ShapeLemmas.{t_rises, y_falls, x_rises}
use Rattle.oe_dims.specs.Dimensions.{Dimensions, IsShape, label_count, rises, falls, numbers_along}
use Rattle.oe_dims.specs.Indices.{same_number}
use Rattle.oe_dims.specs.Lists.{HaveSameLabels}
use Rattle.oe_dims.specs.Names.{same_name}
use Rattle.oe_dims.specs.declared.kind.Kind.{Kind}
use Rattle.oe_dims.specs.declared.kind.Kind.TheVariants.{Time, Bands, Y, X}
use Rattle.oe_meanings.proofs.OrderedLemmas.{left_of, right_of, stand_in_order, rises_stand, falls_stand}
use Rattle.oe_requests.specs.Labels.{is_below, is_above, insert_label, sorted_labels, new_among, all_in_order, all_bands, either_epsg, shape_of_merge, are_among, differ_in}

or_right : (a b : Bool) → b ≡ true → (a || b) ≡ true
or_right true b h = refl
or_right false b h = h

-- ---- a list and itself

module _ {L : Type 0} (same : L → L → Bool) (itself : (a : L) → same a a ≡ true) where
  among_more : (x : L) (xs ys : List L) → are_among same xs ys ≡ true → are_among same (x ∷ xs) ys ≡ true
  among_more x xs [] h = refl
  among_more x xs (y ∷ ys) h =
      and_from (same y x || list_any (same y) xs) _ (or_right (same y x) _ (left_of (list_any (same y) xs) _ h))
      (among_more x xs ys (right_of (list_any (same y) xs) _ h))

  among_itself : (xs : List L) → are_among same xs xs ≡ true
  among_itself [] = refl
  among_itself (x ∷ xs) =
      and_from (same x x || list_any (same x) xs) _ (ap (λ b. b || list_any (same x) xs) (itself x)) (among_more x xs xs (among_itself xs))

  none_new : (xs ys : List L) → are_among same xs ys ≡ true → new_among same xs ys ≡ []
  none_new xs [] h = refl
  none_new xs (y ∷ ys) h =
      let there : list_any (same y) xs ≡ true = left_of (list_any (same y) xs) _ h in
      rw there (none_new xs ys (right_of (list_any (same y) xs) _ h))

  with_itself : (xs : List L) → xs ++ new_among same xs xs ≡ xs
  with_itself xs = ap (λ (ys : List L). xs ++ ys) (none_new xs xs (among_itself xs)) ∙ append-nil xs

  alike : (a b : Option (List L)) → a ≡ b → differ_in same a b ≡ false
  alike a b h = subst (λ o. differ_in same a o ≡ false) h (by a)
    where
      by : (o : Option (List L)) → differ_in same o o ≡ false
      by None = refl
      by (Some xs) = ap (λ b. not (b && b)) (among_itself xs)

-- ---- label sets

pub alike_along : (kind : Kind) (one two : Dimensions) → HaveSameLabels one two kind → differ_in same_number (numbers_along kind one) (numbers_along kind two) ≡ false
alike_along Time one two h = alike same_number same_number_refl one.t two.t h
alike_along Bands one two h = refl
alike_along Y one two h = alike same_number same_number_refl one.y two.y h
alike_along X one two h = alike same_number same_number_refl one.x two.x h

pub alike_bands : (one two : Dimensions) → HaveSameLabels one two Bands → differ_in same_name one.bands two.bands ≡ false
alike_bands one two h = alike same_name same_name_refl one.bands two.bands h

-- ---- labels of a merge

module _ (is_before : ℤ → ℤ → Bool) where
  put_first : (x : ℤ) (xs : List ℤ) → list_all (is_before x) xs ≡ true → insert_label is_before x xs ≡ x ∷ xs
  put_first x [] h = refl
  put_first x (y ∷ ys) h = let first : is_before x y ≡ true = left_of (is_before x y) _ h in rw first refl

  sorted_itself : (xs : List ℤ) → stand_in_order is_before xs ≡ true → sorted_labels is_before xs ≡ xs
  sorted_itself [] h = refl
  sorted_itself (x ∷ xs) h =
      ap (insert_label is_before x) (sorted_itself xs (right_of (list_all (is_before x) xs) _ h))
      ∙ put_first x xs (left_of (list_all (is_before x) xs) _ h)

  -- the labels of a cube, where it has the dimension, stand in order
  abbrev StandIn : Option (List ℤ) → Type 0
  StandIn None = ⊤
  StandIn (Some xs) = stand_in_order is_before xs ≡ true

  same_numbers : (a b : Option (List ℤ)) → StandIn a → a ≡ b → all_in_order is_before a b ≡ a
  same_numbers a b s h = subst (λ o. all_in_order is_before a o ≡ a) h (by a s)
    where
      by : (o : Option (List ℤ)) → StandIn o → all_in_order is_before o o ≡ o
      by None s = refl
      by (Some xs) s =
          ap (λ (ys : List ℤ). Some (sorted_labels is_before ys)) (with_itself same_number same_number_refl xs) ∙ ap Some (sorted_itself xs s)

  no_numbers : (a b : Option (List ℤ)) → option_map length b ≡ None → all_in_order is_before a b ≡ a
  no_numbers None None h = refl
  no_numbers (Some xs) None h = refl
  no_numbers a (Some ys) h = absurd cc

same_bands : (a b : Option (List (List ℕ))) → a ≡ b → all_bands a b ≡ a
same_bands a b h = subst (λ o. all_bands a o ≡ a) h (by a)
  where
    by : (o : Option (List (List ℕ))) → all_bands o o ≡ o
    by None = refl
    by (Some xs) = ap Some (with_itself same_name same_name_refl xs)

no_bands : (a b : Option (List (List ℕ))) → option_map length b ≡ None → all_bands a b ≡ a
no_bands None None h = refl
no_bands (Some xs) None h = refl
no_bands a (Some ys) h = absurd cc

t_stands : (d : Dimensions) → IsShape d → StandIn is_below d.t
t_stands d h = by d.t refl
  where
    by : (o : Option (List ℤ)) → d.t ≡ o → StandIn is_below o
    by None is = tt
    by (Some xs) is = rises_stand xs (subst (λ o. rises (unwrap_or o []) ≡ true) is (t_rises d h))

y_stands : (d : Dimensions) → IsShape d → StandIn is_above d.y
y_stands d h = by d.y refl
  where
    by : (o : Option (List ℤ)) → d.y ≡ o → StandIn is_above o
    by None is = tt
    by (Some xs) is = falls_stand xs (subst (λ o. falls (unwrap_or o []) ≡ true) is (y_falls d h))

x_stands : (d : Dimensions) → IsShape d → StandIn is_below d.x
x_stands d h = by d.x refl
  where
    by : (o : Option (List ℤ)) → d.x ≡ o → StandIn is_below o
    by None is = tt
    by (Some xs) is = rises_stand xs (subst (λ o. rises (unwrap_or o []) ≡ true) is (x_rises d h))

pub same_stay : (kind : Kind) (one two : Dimensions) → IsShape one → HaveSameLabels one two kind → HaveSameLabels (shape_of_merge one two) one kind
same_stay Time one two s h = same_numbers is_below one.t two.t (t_stands one s) h
same_stay Bands one two s h = same_bands one.bands two.bands h
same_stay Y one two s h = same_numbers is_above one.y two.y (y_stands one s) h
same_stay X one two s h = same_numbers is_below one.x two.x (x_stands one s) h

pub lacking_stay : (kind : Kind) (one two : Dimensions) → label_count two kind ≡ None → HaveSameLabels (shape_of_merge one two) one kind
lacking_stay Time one two h = no_numbers is_below one.t two.t h
lacking_stay Bands one two h = no_bands one.bands two.bands h
lacking_stay Y one two h = no_numbers is_above one.y two.y h
lacking_stay X one two h = no_numbers is_below one.x two.x h

-- all of it stays where each part does
pub all_stay : (one two : Dimensions) → either_epsg one.epsg two.epsg ≡ one.epsg → all_in_order is_below one.t two.t ≡ one.t
    → all_bands one.bands two.bands ≡ one.bands → all_in_order is_above one.y two.y ≡ one.y → all_in_order is_below one.x two.x ≡ one.x
    → shape_of_merge one two ≡ one
all_stay one two e t b y x = rw (e, t, b, y, x) refl
