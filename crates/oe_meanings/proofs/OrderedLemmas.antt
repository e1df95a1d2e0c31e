-- Labels in order, labels that differ, and lists of them that are filtered, joined and put in order.
use Rattle.std.proofs.Common.{◌≡◌, ℕ, Bool, true, false, ◌&&◌, ◌||◌, not, List, [], ◌∷◌, ◌++◌, filter, refl, sym, ap, ◌∙◌, subst, arith, ℤ, true≢false}
use Rattle.std.specs.Prelude.{int_lt}
use Rattle.std.specs.List.{list_any, list_all}
use Rattle.std.proofs.lemmas.Bool.{and_from}
use Rattle.std.proofs.lemmas.Int.{ints}
use Rattle.std.proofs.lemmas.List.Folds.{list_any-append, list_all-append}
use Rattle.oe_dims.proofs.IndexLemmas.{same_number_refl, same_number_is}
use Rattle.oe_dims.proofs.OrderLemmas.{same_name_is, same_name_refl}
use Rattle.oe_dims.specs.Dimensions.{rises, falls, all_differ}
use Rattle.oe_dims.specs.Indices.{same_number}
use Rattle.oe_dims.specs.Names.{same_name}
use Rattle.oe_requests.specs.Labels.{is_below, is_above, insert_label, sorted_labels, new_among, are_distinct}

-- ---- tests

pub left_of : (a b : Bool) → (a && b) ≡ true → a ≡ true
left_of true b h = refl
left_of false b h = h

pub right_of : (a b : Bool) → (a && b) ≡ true → b ≡ true
right_of true b h = h
right_of false b h = absurd (true≢false (sym h))

neither_of : (a b : Bool) → a ≡ false → b ≡ false → (a || b) ≡ false
neither_of a b h k = rw (h, k) refl

pub first_not : (a b : Bool) → (a || b) ≡ false → a ≡ false
first_not true b h = h
first_not false b h = refl

pub second_not : (a b : Bool) → (a || b) ≡ false → b ≡ false
second_not true b h = absurd (true≢false h)
second_not false b h = h

pub turned : (a : Bool) → not a ≡ true → a ≡ false
turned true h = absurd (true≢false (sym h))
turned false h = refl

pub opposite : (a : Bool) → a ≡ false → not a ≡ true
opposite a h = rw h refl

-- what passes a test stays so in a part of a list
pub filter_all : {A : Type 0} (p q : A → Bool) (xs : List A) → list_all p xs ≡ true → list_all p (filter q xs) ≡ true
filter_all p q [] h = refl
filter_all p q (x ∷ xs) h = by (q x) refl (filter_all p q xs (right_of (p x) (list_all p xs) h))
  where
    by : (b : Bool) → q x ≡ b → list_all p (filter q xs) ≡ true → list_all p (filter q (x ∷ xs)) ≡ true
    by true is rest = rw is (and_from (p x) _ (left_of (p x) (list_all p xs) h) rest)
    by false is rest = rw is rest

filter_none : {A : Type 0} (p q : A → Bool) (xs : List A) → list_any p xs ≡ false → list_any p (filter q xs) ≡ false
filter_none p q [] h = refl
filter_none p q (x ∷ xs) h = by (q x) refl (filter_none p q xs (second_not (p x) (list_any p xs) h))
  where
    by : (b : Bool) → q x ≡ b → list_any p (filter q xs) ≡ false → list_any p (filter q (x ∷ xs)) ≡ false
    by true is rest = rw is (neither_of (p x) _ (first_not (p x) (list_any p xs) h) rest)
    by false is rest = rw is rest

-- ---- labels that differ

module _ {L : Type 0} (same : L → L → Bool) (is_same : (a b : L) → same a b ≡ true → b ≡ a) (itself : (a : L) → same a a ≡ true) where
  pub filter_distinct : (q : L → Bool) (xs : List L) → are_distinct same xs ≡ true → are_distinct same (filter q xs) ≡ true
  filter_distinct q [] h = refl
  filter_distinct q (x ∷ xs) h = by (q x) refl (filter_distinct q xs (right_of (not (list_any (same x) xs)) (are_distinct same xs) h))
    where
      by : (b : Bool) → q x ≡ b → are_distinct same (filter q xs) ≡ true → are_distinct same (filter q (x ∷ xs)) ≡ true
      by true is rest =
          rw is (and_from (not (list_any (same x) (filter q xs))) _
          (opposite _ (filter_none (same x) q xs (turned _ (left_of (not (list_any (same x) xs)) (are_distinct same xs) h)))) rest)
      by false is rest = rw is rest

  -- a label is none of the new ones where it is one of the old
  new_apart : (one two : List L) (n : L) → list_any (same n) one ≡ true → list_any (same n) (new_among same one two) ≡ false
  new_apart one [] n h = refl
  new_apart one (l ∷ two) n h = by (list_any (same l) one) refl (new_apart one two n h)
    where
      other : list_any (same l) one ≡ false → (b : Bool) → same n l ≡ b → same n l ≡ false
      other not_there true is = absurd (true≢false (sym (subst (λ k. list_any (same k) one ≡ true) (sym (is_same n l is)) h) ∙ not_there))
      other not_there false is = is

      by : (b : Bool) → list_any (same l) one ≡ b → list_any (same n) (new_among same one two) ≡ false → list_any (same n) (new_among same one (l ∷ two)) ≡ false
      by true is rest = rw is rest
      by false is rest = rw is (neither_of (same n l) _ (other is (same n l) refl) rest)

  append_distinct : (xs ys : List L) → are_distinct same xs ≡ true → are_distinct same ys ≡ true
      → ((n : L) → list_any (same n) xs ≡ true → list_any (same n) ys ≡ false) → are_distinct same (xs ++ ys) ≡ true
  append_distinct [] ys h k apart = k
  append_distinct (x ∷ xs) ys h k apart =
      let fresh : list_any (same x) xs ≡ false = turned _ (left_of (not (list_any (same x) xs)) (are_distinct same xs) h) in
      let here : (same x x || list_any (same x) xs) ≡ true = rw (itself x) refl in
      let off : list_any (same x) ys ≡ false = apart x here in
      let none : list_any (same x) (xs ++ ys) ≡ false = list_any-append (same x) xs ys ∙ neither_of _ _ fresh off in
      and_from (not (list_any (same x) (xs ++ ys))) _ (opposite _ none)
      (append_distinct xs ys (right_of (not (list_any (same x) xs)) (are_distinct same xs) h) k
      (λ n m. apart n (or_right (same n x) (list_any (same n) xs) m)))
    where
      or_right : (a b : Bool) → b ≡ true → (a || b) ≡ true
      or_right true b h = refl
      or_right false b h = h

  -- old labels and then the new ones differ
  pub all_distinct : (one two : List L) → are_distinct same one ≡ true → are_distinct same two ≡ true → are_distinct same (one ++ new_among same one two) ≡ true
  all_distinct one two h k =
      append_distinct one (new_among same one two) h (filter_distinct (λ label. not (list_any (same label) one)) two k) (new_apart one two)

-- names are told apart in the same way
differ_is : (names : List (List ℕ)) → all_differ names ≡ are_distinct same_name names
differ_is [] = refl
differ_is (name ∷ names) = ap (λ b. not (list_any (same_name name) names) && b) (differ_is names)

pub filtered_differ : (q : List ℕ → Bool) (names : List (List ℕ)) → all_differ names ≡ true → all_differ (filter q names) ≡ true
filtered_differ q names h =
    differ_is (filter q names) ∙ filter_distinct same_name same_name_is same_name_refl q names (sym (differ_is names) ∙ h)

pub all_bands_differ : (one two : List (List ℕ)) → all_differ one ≡ true → all_differ two ≡ true → all_differ (one ++ new_among same_name one two) ≡ true
all_bands_differ one two h k =
    differ_is (one ++ new_among same_name one two)
    ∙ all_distinct same_name same_name_is same_name_refl one two (sym (differ_is one) ∙ h) (sym (differ_is two) ∙ k)

-- ---- labels in order

-- each label stands before all later ones
abbrev pub stand_in_order : (ℤ → ℤ → Bool) → List ℤ → Bool
stand_in_order is_before [] = true
stand_in_order is_before (x ∷ xs) = list_all (is_before x) xs && stand_in_order is_before xs

-- what an order of labels has to be
pub record IsOrder (is_before : ℤ → ℤ → Bool) : Type 0 where
  pub onwards : (a b c : ℤ) → is_before a b ≡ true → is_before b c ≡ true → is_before a c ≡ true
  pub either : (a b : ℤ) → is_before a b ≡ false → same_number a b ≡ false → is_before b a ≡ true
  pub apart : (a b : ℤ) → is_before a b ≡ true → same_number a b ≡ false

pub below_is_order : IsOrder is_below
below_is_order = record { onwards = λ a b c h k. grind (arith, ints); either = λ a b h k. grind (arith, ints); apart = λ a b h. grind (arith, ints) }

pub above_is_order : IsOrder is_above
above_is_order = record { onwards = λ a b c h k. grind (arith, ints); either = λ a b h k. grind (arith, ints); apart = λ a b h. grind (arith, ints) }

module _ (is_before : ℤ → ℤ → Bool) (o : IsOrder is_before) where
  all_later : (x y : ℤ) (ys : List ℤ) → is_before x y ≡ true → list_all (is_before y) ys ≡ true → list_all (is_before x) ys ≡ true
  all_later x y [] h k = refl
  all_later x y (z ∷ ys) h k =
      and_from (is_before x z) _ (o.onwards x y z h (left_of (is_before y z) _ k)) (all_later x y ys h (right_of (is_before y z) _ k))

  filter_in_order : (q : ℤ → Bool) (xs : List ℤ) → stand_in_order is_before xs ≡ true → stand_in_order is_before (filter q xs) ≡ true
  filter_in_order q [] h = refl
  filter_in_order q (x ∷ xs) h = by (q x) refl (filter_in_order q xs (right_of (list_all (is_before x) xs) _ h))
    where
      by : (b : Bool) → q x ≡ b → stand_in_order is_before (filter q xs) ≡ true → stand_in_order is_before (filter q (x ∷ xs)) ≡ true
      by true is rest = rw is (and_from (list_all (is_before x) (filter q xs)) _ (filter_all (is_before x) q xs (left_of (list_all (is_before x) xs) _ h)) rest)
      by false is rest = rw is rest

  none_same : (x : ℤ) (xs : List ℤ) → list_all (is_before x) xs ≡ true → list_any (same_number x) xs ≡ false
  none_same x [] h = refl
  none_same x (y ∷ xs) h =
      neither_of (same_number x y) _ (o.apart x y (left_of (is_before x y) _ h)) (none_same x xs (right_of (is_before x y) _ h))

  pub ordered_differ : (xs : List ℤ) → stand_in_order is_before xs ≡ true → are_distinct same_number xs ≡ true
  ordered_differ [] h = refl
  ordered_differ (x ∷ xs) h =
      and_from (not (list_any (same_number x) xs)) _ (opposite _ (none_same x xs (left_of (list_all (is_before x) xs) _ h)))
      (ordered_differ xs (right_of (list_all (is_before x) xs) _ h))

  -- a test of all, or of any, sees no order
  put_all : (p : ℤ → Bool) (x : ℤ) (ys : List ℤ) → p x ≡ true → list_all p ys ≡ true → list_all p (insert_label is_before x ys) ≡ true
  put_all p x [] h k = and_from (p x) true h refl
  put_all p x (y ∷ ys) h k = by (is_before x y) refl (put_all p x ys h (right_of (p y) _ k))
    where
      by : (b : Bool) → is_before x y ≡ b → list_all p (insert_label is_before x ys) ≡ true → list_all p (insert_label is_before x (y ∷ ys)) ≡ true
      by true is rest = rw is (and_from (p x) _ h k)
      by false is rest = rw is (and_from (p y) _ (left_of (p y) _ k) rest)

  pub order_all : (p : ℤ → Bool) (ys : List ℤ) → list_all p ys ≡ true → list_all p (sorted_labels is_before ys) ≡ true
  order_all p [] h = refl
  order_all p (y ∷ ys) h = put_all p y (sorted_labels is_before ys) (left_of (p y) _ h) (order_all p ys (right_of (p y) _ h))

  put_none : (p : ℤ → Bool) (x : ℤ) (ys : List ℤ) → p x ≡ false → list_any p ys ≡ false → list_any p (insert_label is_before x ys) ≡ false
  put_none p x [] h k = neither_of (p x) false h refl
  put_none p x (y ∷ ys) h k = by (is_before x y) refl (put_none p x ys h (second_not (p y) _ k))
    where
      by : (b : Bool) → is_before x y ≡ b → list_any p (insert_label is_before x ys) ≡ false → list_any p (insert_label is_before x (y ∷ ys)) ≡ false
      by true is rest = rw is (neither_of (p x) _ h k)
      by false is rest = rw is (neither_of (p y) _ (first_not (p y) _ k) rest)

  order_none : (p : ℤ → Bool) (ys : List ℤ) → list_any p ys ≡ false → list_any p (sorted_labels is_before ys) ≡ false
  order_none p [] h = refl
  order_none p (y ∷ ys) h = put_none p y (sorted_labels is_before ys) (first_not (p y) _ h) (order_none p ys (second_not (p y) _ h))

  put_stands : (x : ℤ) (ys : List ℤ) → stand_in_order is_before ys ≡ true → list_any (same_number x) ys ≡ false → stand_in_order is_before (insert_label is_before x ys) ≡ true
  put_stands x [] h k = refl
  put_stands x (y ∷ ys) h k = by (is_before x y) refl (put_stands x ys (right_of (list_all (is_before y) ys) _ h) (second_not (same_number x y) _ k))
    where
      by : (b : Bool) → is_before x y ≡ b → stand_in_order is_before (insert_label is_before x ys) ≡ true → stand_in_order is_before (insert_label is_before x (y ∷ ys)) ≡ true
      by true is rest =
          rw is (and_from (is_before x y && list_all (is_before x) ys) _
          (and_from (is_before x y) _ is (all_later x y ys is (left_of (list_all (is_before y) ys) _ h))) h)
      by false is rest =
          rw is (and_from (list_all (is_before y) (insert_label is_before x ys)) _
          (put_all (is_before y) x ys (o.either x y is (first_not (same_number x y) _ k)) (left_of (list_all (is_before y) ys) _ h)) rest)

  pub order_stands : (ys : List ℤ) → are_distinct same_number ys ≡ true → stand_in_order is_before (sorted_labels is_before ys) ≡ true
  order_stands [] h = refl
  order_stands (y ∷ ys) h =
      put_stands y (sorted_labels is_before ys) (order_stands ys (right_of (not (list_any (same_number y) ys)) _ h))
      (order_none (same_number y) ys (turned _ (left_of (not (list_any (same_number y) ys)) _ h)))

-- ---- labels that rise, and that fall

pub rises_stand : (xs : List ℤ) → rises xs ≡ true → stand_in_order is_below xs ≡ true
rises_stand [] h = refl
rises_stand (x ∷ []) h = refl
rises_stand (x ∷ y ∷ xs) h =
    let rest = rises_stand (y ∷ xs) (right_of (int_lt x y) _ h) in
    let next : is_below x y ≡ true = left_of (int_lt x y) _ h in
    and_from (is_below x y && list_all (is_below x) xs) _
    (and_from (is_below x y) _ next (all_later is_below below_is_order x y xs next (left_of (list_all (is_below y) xs) _ rest))) rest

stand_rises : (xs : List ℤ) → stand_in_order is_below xs ≡ true → rises xs ≡ true
stand_rises [] h = refl
stand_rises (x ∷ []) h = refl
stand_rises (x ∷ y ∷ xs) h =
    and_from (int_lt x y) _ (left_of (is_below x y) _ (left_of (is_below x y && list_all (is_below x) xs) _ h))
    (stand_rises (y ∷ xs) (right_of (is_below x y && list_all (is_below x) xs) _ h))

pub falls_stand : (xs : List ℤ) → falls xs ≡ true → stand_in_order is_above xs ≡ true
falls_stand [] h = refl
falls_stand (x ∷ []) h = refl
falls_stand (x ∷ y ∷ xs) h =
    let rest = falls_stand (y ∷ xs) (right_of (int_lt y x) _ h) in
    let next : is_above x y ≡ true = left_of (int_lt y x) _ h in
    and_from (is_above x y && list_all (is_above x) xs) _
    (and_from (is_above x y) _ next (all_later is_above above_is_order x y xs next (left_of (list_all (is_above y) xs) _ rest))) rest

stand_falls : (xs : List ℤ) → stand_in_order is_above xs ≡ true → falls xs ≡ true
stand_falls [] h = refl
stand_falls (x ∷ []) h = refl
stand_falls (x ∷ y ∷ xs) h =
    and_from (int_lt y x) _ (left_of (is_above x y) _ (left_of (is_above x y && list_all (is_above x) xs) _ h))
    (stand_falls (y ∷ xs) (right_of (is_above x y && list_all (is_above x) xs) _ h))

pub filtered_rise : (q : ℤ → Bool) (xs : List ℤ) → rises xs ≡ true → rises (filter q xs) ≡ true
filtered_rise q xs h = stand_rises (filter q xs) (filter_in_order is_below below_is_order q xs (rises_stand xs h))

pub filtered_fall : (q : ℤ → Bool) (xs : List ℤ) → falls xs ≡ true → falls (filter q xs) ≡ true
filtered_fall q xs h = stand_falls (filter q xs) (filter_in_order is_above above_is_order q xs (falls_stand xs h))

pub ordered_rise : (xs : List ℤ) → are_distinct same_number xs ≡ true → rises (sorted_labels is_below xs) ≡ true
ordered_rise xs h = stand_rises (sorted_labels is_below xs) (order_stands is_below below_is_order xs h)

pub ordered_fall : (xs : List ℤ) → are_distinct same_number xs ≡ true → falls (sorted_labels is_above xs) ≡ true
ordered_fall xs h = stand_falls (sorted_labels is_above xs) (order_stands is_above above_is_order xs h)

pub merged_rise : (one two : List ℤ) → rises one ≡ true → rises two ≡ true → rises (sorted_labels is_below (one ++ new_among same_number one two)) ≡ true
merged_rise one two h k =
    ordered_rise (one ++ new_among same_number one two)
    (all_distinct same_number same_number_is same_number_refl one two
    (ordered_differ is_below below_is_order one (rises_stand one h)) (ordered_differ is_below below_is_order two (rises_stand two k)))

pub merged_fall : (one two : List ℤ) → falls one ≡ true → falls two ≡ true → falls (sorted_labels is_above (one ++ new_among same_number one two)) ≡ true
merged_fall one two h k =
    ordered_fall (one ++ new_among same_number one two)
    (all_distinct same_number same_number_is same_number_refl one two
    (ordered_differ is_above above_is_order one (falls_stand one h)) (ordered_differ is_above above_is_order two (falls_stand two k)))

-- a test that all labels of both pass
pub merged_all : {L : Type 0} (same : L → L → Bool) (p : L → Bool) (one two : List L) → list_all p one ≡ true → list_all p two ≡ true → list_all p (one ++ new_among same one two) ≡ true
merged_all same p one two h k =
    list_all-append p one (new_among same one two) ∙ and_from _ _ h (filter_all p (λ label. not (list_any (same label) one)) two k)
