-- Each tuple of a merge is in one of the two cubes at least, where their label sets differ along one dimension at most.
use Rattle.std.proofs.Common.{◌≡◌, ℕ, zero, suc, ◌+◌, ◌<◌, ◌≤◌, Bool, true, false, ◌&&◌, ◌||◌, not, List, [], ◌∷◌, length, refl, sym, ◌∙◌, subst, arith, Option, Some, None, ℤ, ◌⊎◌, inl, inr, true≢false}
use Rattle.std.specs.Prelude.{Contains, slice_index_or}
use Rattle.std.specs.List.{list_any, list_all}
use Rattle.oe_dims.proofs.IndexLemmas.{same_number_is, same_number_refl}
use Rattle.oe_dims.proofs.OrderLemmas.{same_name_is, same_name_refl}
use Rattle.oe_dims.specs.Cube.{Tuple, IsLabelOf, IsTuple}
use Rattle.oe_dims.specs.Dimensions.{Dimensions}
use Rattle.oe_dims.specs.Indices.{same_number}
use Rattle.oe_dims.specs.Names.{same_name}
use Rattle.oe_dims.specs.declared.kind.Kind.TheVariants.{Time, Bands, Y, X}
use Rattle.oe_meanings.proofs.LabelLemmas.{keep_all_labels}
use Rattle.oe_meanings.proofs.OrderedLemmas.{left_of, right_of}
use Rattle.oe_requests.specs.Labels.{is_below, is_above, all_in_order, all_bands, shape_of_merge, are_among, differ_in, differ_along, one_if, only_along, restrict}
use Rattle.oe_meanings.specs.Laws.{AreInOneAtLeast}

-- the label of another cube is one of a dimension's, where the dimension is there
abbrev IsIn : {L : Type 0} → Option (List L) → Option L → Type 0
IsIn labels label = IsLabelOf labels (only_along labels label)

not_false : (a : Bool) → not a ≡ false → a ≡ true
not_false true h = refl
not_false false h = absurd (true≢false h)

pub or_cases : (a b : Bool) → (a || b) ≡ true → (a ≡ true) ⊎ (b ≡ true)
or_cases true b h = inl refl
or_cases false b h = inr h

module _ {L : Type 0} (same : L → L → Bool) (is_same : (a b : L) → same a b ≡ true → b ≡ a) (itself : (a : L) → same a a ≡ true) where
  pub any_there : (l : L) (xs : List L) → list_any (same l) xs ≡ true → Contains xs l
  any_there l [] h = absurd (true≢false (sym h))
  any_there l (x ∷ xs) h = by (same l x) refl (any_there l xs)
    where
      by : (b : Bool) → same l x ≡ b → (list_any (same l) xs ≡ true → Contains xs l) → Contains (x ∷ xs) l
      by true is rest = (0, omega arith, is_same l x is)
      by false is rest =
          let later = rest (subst (λ b. (b || list_any (same l) xs) ≡ true) is h) in (suc later.0, omega (arith, later.1), later.2)

  pub there_any : (l : L) (xs : List L) → Contains xs l → list_any (same l) xs ≡ true
  there_any l [] c = absurd (omega (arith, c.1))
  there_any l (x ∷ xs) c = by c.0 c.1 c.2 (there_any l xs)
    where
      or_right : (a b : Bool) → b ≡ true → (a || b) ≡ true
      or_right true b h = refl
      or_right false b h = h

      by : (k : ℕ) → k < suc (length xs) → slice_index_or (x ∷ xs) k l ≡ l → (Contains xs l → list_any (same l) xs ≡ true) → list_any (same l) (x ∷ xs) ≡ true
      by zero h e rest = let here : same l x ≡ true = subst (λ y. same l y ≡ true) (sym e) (itself l) in rw here refl
      by (suc k) h e rest = or_right (same l x) _ (rest (k, omega arith, e))

  all_pass : (p : L → Bool) (l : L) (xs : List L) → list_all p xs ≡ true → list_any (same l) xs ≡ true → p l ≡ true
  all_pass p l [] h m = absurd (true≢false (sym m))
  all_pass p l (x ∷ xs) h m = by (same l x) refl (all_pass p l xs (right_of (p x) _ h))
    where
      by : (b : Bool) → same l x ≡ b → (list_any (same l) xs ≡ true → p l ≡ true) → p l ≡ true
      by true is rest = subst (λ y. p y ≡ true) (is_same l x is) (left_of (p x) _ h)
      by false is rest = rest (subst (λ b. (b || list_any (same l) xs) ≡ true) is m)

  -- a label of both lists together
  label_either : (one two joint : List L) (l : L) → list_any (same l) joint ≡ (list_any (same l) one || list_any (same l) two) → Contains joint l → Contains one l ⊎ Contains two l
  label_either one two joint l is m = by (or_cases _ _ (sym is ∙ there_any l joint m))
    where
      by : (list_any (same l) one ≡ true) ⊎ (list_any (same l) two ≡ true) → Contains one l ⊎ Contains two l
      by (inl h) = inl (any_there l one h)
      by (inr h) = inr (any_there l two h)

  label_both : (one two joint : List L) (l : L) → list_any (same l) joint ≡ (list_any (same l) one || list_any (same l) two)
      → differ_in same (Some one) (Some two) ≡ false → Contains joint l → Contains one l × Contains two l
  label_both one two joint l is alike m = by (or_cases _ _ (sym is ∙ there_any l joint m))
    where
      sets : (are_among same two one && are_among same one two) ≡ true
      sets = not_false _ alike

      by : (list_any (same l) one ≡ true) ⊎ (list_any (same l) two ≡ true) → Contains one l × Contains two l
      by (inl h) = (any_there l one h, any_there l two (all_pass (λ label. list_any (same label) two) l one (left_of (are_among same two one) _ sets) h))
      by (inr h) = (any_there l one (all_pass (λ label. list_any (same label) one) l two (right_of (are_among same two one) _ sets) h), any_there l two h)

-- ---- along one dimension

number_either : (is_before : ℤ → ℤ → Bool) (one two : Option (List ℤ)) (label : Option ℤ) → IsLabelOf (all_in_order is_before one two) label → IsIn one label ⊎ IsIn two label
number_either is_before None two label m = inl tt
number_either is_before (Some one) None label m = inr tt
number_either is_before (Some one) (Some two) None m = elim m [ ]
number_either is_before (Some one) (Some two) (Some l) m = label_either same_number same_number_is same_number_refl one two _ l (keep_all_labels.of_both is_before one two l) m

number_both : (is_before : ℤ → ℤ → Bool) (one two : Option (List ℤ)) (label : Option ℤ) → differ_in same_number one two ≡ false → IsLabelOf (all_in_order is_before one two) label → IsIn one label × IsIn two label
number_both is_before None None label h m = (tt, tt)
number_both is_before None (Some two) label h m = (tt, m)
number_both is_before (Some one) None label h m = (m, tt)
number_both is_before (Some one) (Some two) None h m = elim m [ ]
number_both is_before (Some one) (Some two) (Some l) h m = label_both same_number same_number_is same_number_refl one two _ l (keep_all_labels.of_both is_before one two l) h m

band_either : (one two : Option (List (List ℕ))) (label : Option (List ℕ)) → IsLabelOf (all_bands one two) label → IsIn one label ⊎ IsIn two label
band_either None two label m = inl tt
band_either (Some one) None label m = inr tt
band_either (Some one) (Some two) None m = elim m [ ]
band_either (Some one) (Some two) (Some l) m = label_either same_name same_name_is same_name_refl one two _ l (keep_all_labels.bands_of_both one two l) m

band_both : (one two : Option (List (List ℕ))) (label : Option (List ℕ)) → differ_in same_name one two ≡ false → IsLabelOf (all_bands one two) label → IsIn one label × IsIn two label
band_both None None label h m = (tt, tt)
band_both None (Some two) label h m = (tt, m)
band_both (Some one) None label h m = (m, tt)
band_both (Some one) (Some two) None h m = elim m [ ]
band_both (Some one) (Some two) (Some l) h m = label_both same_name same_name_is same_name_refl one two _ l (keep_all_labels.bands_of_both one two l) h m

-- ---- along all of them

module _ (one two : Dimensions) (tuple : Tuple) (m : IsTuple (shape_of_merge one two) tuple) where
  in_one : IsIn one.t tuple.t → IsIn one.bands tuple.band → IsIn one.y tuple.y → IsIn one.x tuple.x → IsTuple one (restrict one tuple)
  in_one t b y x = record { t = t; band = b; y = y; x = x }

  in_two : IsIn two.t tuple.t → IsIn two.bands tuple.band → IsIn two.y tuple.y → IsIn two.x tuple.x → IsTuple two (restrict two tuple)
  in_two t b y x = record { t = t; band = b; y = y; x = x }

  abbrev Goal : Type 0
  Goal = IsTuple one (restrict one tuple) ⊎ IsTuple two (restrict two tuple)

  decided : (dt db dy dx : Bool) → differ_along Time one two ≡ dt → differ_along Bands one two ≡ db → differ_along Y one two ≡ dy → differ_along X one two ≡ dx
      → one_if dt + one_if db + one_if dy + one_if dx ≤ 1 → Goal
  decided false false false false et eb ey ex few =
      inl (in_one (number_both is_below one.t two.t tuple.t et m.t).0 (band_both one.bands two.bands tuple.band eb m.band).0 (number_both is_above one.y two.y tuple.y ey m.y).0 (number_both is_below one.x two.x tuple.x ex m.x).0)
  decided true false false false et eb ey ex few = by (number_either is_below one.t two.t tuple.t m.t)
    where
      by : IsIn one.t tuple.t ⊎ IsIn two.t tuple.t → Goal
      by (inl t) = inl (in_one t (band_both one.bands two.bands tuple.band eb m.band).0 (number_both is_above one.y two.y tuple.y ey m.y).0 (number_both is_below one.x two.x tuple.x ex m.x).0)
      by (inr t) = inr (in_two t (band_both one.bands two.bands tuple.band eb m.band).1 (number_both is_above one.y two.y tuple.y ey m.y).1 (number_both is_below one.x two.x tuple.x ex m.x).1)
  decided false true false false et eb ey ex few = by (band_either one.bands two.bands tuple.band m.band)
    where
      by : IsIn one.bands tuple.band ⊎ IsIn two.bands tuple.band → Goal
      by (inl b) = inl (in_one (number_both is_below one.t two.t tuple.t et m.t).0 b (number_both is_above one.y two.y tuple.y ey m.y).0 (number_both is_below one.x two.x tuple.x ex m.x).0)
      by (inr b) = inr (in_two (number_both is_below one.t two.t tuple.t et m.t).1 b (number_both is_above one.y two.y tuple.y ey m.y).1 (number_both is_below one.x two.x tuple.x ex m.x).1)
  decided false false true false et eb ey ex few = by (number_either is_above one.y two.y tuple.y m.y)
    where
      by : IsIn one.y tuple.y ⊎ IsIn two.y tuple.y → Goal
      by (inl y) = inl (in_one (number_both is_below one.t two.t tuple.t et m.t).0 (band_both one.bands two.bands tuple.band eb m.band).0 y (number_both is_below one.x two.x tuple.x ex m.x).0)
      by (inr y) = inr (in_two (number_both is_below one.t two.t tuple.t et m.t).1 (band_both one.bands two.bands tuple.band eb m.band).1 y (number_both is_below one.x two.x tuple.x ex m.x).1)
  decided false false false true et eb ey ex few = by (number_either is_below one.x two.x tuple.x m.x)
    where
      by : IsIn one.x tuple.x ⊎ IsIn two.x tuple.x → Goal
      by (inl x) = inl (in_one (number_both is_below one.t two.t tuple.t et m.t).0 (band_both one.bands two.bands tuple.band eb m.band).0 (number_both is_above one.y two.y tuple.y ey m.y).0 x)
      by (inr x) = inr (in_two (number_both is_below one.t two.t tuple.t et m.t).1 (band_both one.bands two.bands tuple.band eb m.band).1 (number_both is_above one.y two.y tuple.y ey m.y).1 x)
  decided dt db dy dx et eb ey ex few = absurd (omega (arith, few))

pub are_in_one : AreInOneAtLeast
are_in_one = record { each = λ one two few tuple m. decided one two tuple m _ _ _ _ refl refl refl refl few }
