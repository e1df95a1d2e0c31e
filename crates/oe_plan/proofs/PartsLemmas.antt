-- Labels in order: those that lie inside an extent stand side by side, and those of two cubes with one label set are
-- the same.
use Rattle.std.proofs.Common.{◌≡◌, ℕ, suc, ◌-◌, ◌≤◌, Bool, true, false, ◌&&◌, ◌||◌, not, List, [], ◌∷◌, ◌++◌, length, take, filter, refl, sym, ap, ◌∙◌, subst, arith, Option, Some, None, ℤ, true≢false}
use Rattle.std.specs.Bool.{⊤}
use Rattle.std.specs.List.{list_any, list_all}
use Rattle.std.proofs.lemmas.Bool.{and_from}
use Rattle.std.proofs.lemmas.List.{append-nil}
use Rattle.oe_dims.specs.Indices.{same_number}
use Rattle.oe_dims.proofs.IndexLemmas.{same_number_refl, same_number_is}
use Rattle.oe_requests.specs.Labels.{insert_label, sorted_labels, new_among, all_in_order, are_among, differ_in}
use Rattle.oe_meanings.proofs.OrderedLemmas.{IsOrder, stand_in_order, left_of, right_of}
use Rattle.oe_plan.proofs.CoreLemmas.{IsPartOf, Follows, whole_part}

module _ (is_before : ℤ → ℤ → Bool) (o : IsOrder is_before) where
  -- ---- inside an extent

  -- what lies between two labels inside is inside
  abbrev pub IsConvex : (ℤ → Bool) → Type 0
  IsConvex test =
      (a b c : ℤ) → is_before a b ≡ true → is_before b c ≡ true → test a ≡ true → test c ≡ true → test b ≡ true

  module _ (test : ℤ → Bool) (convex : IsConvex test) where
    none_behind : (a b : ℤ) (xs : List ℤ) → test a ≡ true → test b ≡ false → is_before a b ≡ true → list_all (is_before b) xs ≡ true → filter test xs ≡ []
    none_behind a b [] ta tb ab all = refl
    none_behind a b (x ∷ xs) ta tb ab all = by (test x) refl (none_behind a b xs ta tb ab (right_of (is_before b x) _ all))
      where
        by : (t : Bool) → test x ≡ t → filter test xs ≡ [] → filter test (x ∷ xs) ≡ []
        by true is rest = absurd (true≢false (sym (convex a b x ab (left_of (is_before b x) _ all) ta is) ∙ tb))
        by false is rest = rw is rest

    record IsFront (xs : List ℤ) : Type 0 where
      count : ℕ
      within : count ≤ length xs
      is : filter test xs ≡ take count xs

    front : (a : ℤ) (xs : List ℤ) → test a ≡ true → list_all (is_before a) xs ≡ true → stand_in_order is_before xs ≡ true → IsFront xs
    front a [] ta all ordered = record { count = 0; within = omega arith; is = refl }
    front a (x ∷ xs) ta all ordered = by (test x) refl (front a xs ta (right_of (is_before a x) _ all) (right_of (list_all (is_before x) xs) _ ordered))
      where
        by : (t : Bool) → test x ≡ t → IsFront xs → IsFront (x ∷ xs)
        by true is rest = let below = rest.within in record {
          count = suc rest.count;
          within = omega arith;
          is = rw is (ap (λ ys. x ∷ ys) rest.is);
        }
        by false is rest = record {
          count = 0;
          within = omega arith;
          is = rw is (none_behind a x xs ta is (left_of (is_before a x) _ all) (left_of (list_all (is_before x) xs) _ ordered));
        }

    pub inside_part : (xs : List ℤ) → stand_in_order is_before xs ≡ true → IsPartOf (filter test xs) xs
    inside_part [] ordered = record { first = 0; end = 0; in_order = omega arith; within = omega arith; is = refl }
    inside_part (x ∷ xs) ordered = by (test x) refl (inside_part xs (right_of (list_all (is_before x) xs) _ ordered))
      where
        by : (t : Bool) → test x ≡ t → IsPartOf (filter test xs) xs → IsPartOf (filter test (x ∷ xs)) (x ∷ xs)
        by true is rest =
            let f = front x xs is (left_of (list_all (is_before x) xs) _ ordered) (right_of (list_all (is_before x) xs) _ ordered) in
            let below = f.within in
            record {
              first = 0;
              end = suc f.count;
              in_order = omega arith;
              within = omega arith;
              is = rw is (let less : suc f.count - 0 ≡ suc f.count = omega arith in rw less (ap (λ ys. x ∷ ys) f.is));
            }
        by false is r =
            let a = r.in_order in
            let b = r.within in
            record {
              first = suc r.first;
              end = suc r.end;
              in_order = omega arith;
              within = omega arith;
              is = rw is (let less : suc r.end - suc r.first ≡ r.end - r.first = omega arith in rw less r.is);
            }

  -- ---- one label set

  -- a label that is among others but is not their first is among the rest
  among_rest : (y : ℤ) (ys xs : List ℤ) → list_all (is_before y) xs ≡ true → list_all (λ l. list_any (same_number l) (y ∷ ys)) xs ≡ true
      → list_all (λ l. list_any (same_number l) ys) xs ≡ true
  among_rest y ys [] later among = refl
  among_rest y ys (x ∷ xs) later among =
      and_from (list_any (same_number x) ys) _
      (by (same_number x y) refl (left_of (list_any (same_number x) (y ∷ ys)) _ among))
      (among_rest y ys xs (right_of (is_before y x) _ later) (right_of (list_any (same_number x) (y ∷ ys)) _ among))
    where
      by : (t : Bool) → same_number x y ≡ t → list_any (same_number x) (y ∷ ys) ≡ true → list_any (same_number x) ys ≡ true
      by true is h =
          let same : x ≡ y = sym (same_number_is x y is) in
          let off : same_number y x ≡ false = o.apart y x (left_of (is_before y x) _ later) in
          absurd (true≢false (sym (same_number_refl y) ∙ (ap (same_number y) (sym same) ∙ off)))
      by false is h = rw is at h

  among_later : (x y : ℤ) (zs : List ℤ) → list_all (is_before y) zs ≡ true → list_any (same_number x) zs ≡ true → is_before y x ≡ true
  among_later x y [] later h = absurd (true≢false (sym h))
  among_later x y (z ∷ zs) later h = by (same_number x z) refl (among_later x y zs (right_of (is_before y z) _ later))
    where
      by : (t : Bool) → same_number x z ≡ t → (list_any (same_number x) zs ≡ true → is_before y x ≡ true) → is_before y x ≡ true
      by true is rest = subst (λ l. is_before y l ≡ true) (same_number_is x z is) (left_of (is_before y z) _ later)
      by false is rest = rest (rw is at h)

  among_first : (x y : ℤ) (ys : List ℤ) → same_number x y ≡ false → list_all (is_before y) ys ≡ true → list_any (same_number x) (y ∷ ys) ≡ true → is_before y x ≡ true
  among_first x y ys other later h = among_later x y ys later (rw other at h)

  heads_same : (x y : ℤ) (xs ys : List ℤ) → stand_in_order is_before (x ∷ xs) ≡ true → stand_in_order is_before (y ∷ ys) ≡ true
      → list_any (same_number x) (y ∷ ys) ≡ true → list_any (same_number y) (x ∷ xs) ≡ true → x ≡ y
  heads_same x y xs ys ox oy hx hy = by (same_number x y) refl (same_number y x) refl
    where
      by : (s : Bool) → same_number x y ≡ s → (t : Bool) → same_number y x ≡ t → x ≡ y
      by true is t other = sym (same_number_is x y is)
      by false is true other = same_number_is y x other
      by false is false other =
          let one : is_before y x ≡ true = among_first x y ys is (left_of (list_all (is_before y) ys) _ oy) hx in
          let two : is_before x y ≡ true = among_first y x xs other (left_of (list_all (is_before x) xs) _ ox) hy in
          absurd (true≢false (sym (same_number_refl x) ∙ o.apart x x (o.onwards x y x two one)))

  pub same_labels : (xs ys : List ℤ) → stand_in_order is_before xs ≡ true → stand_in_order is_before ys ≡ true
      → are_among same_number ys xs ≡ true → are_among same_number xs ys ≡ true → xs ≡ ys
  same_labels [] [] ox oy one two = refl
  same_labels [] (y ∷ ys) ox oy one two = absurd (true≢false (sym two))
  same_labels (x ∷ xs) [] ox oy one two = absurd (true≢false (sym one))
  same_labels (x ∷ xs) (y ∷ ys) ox oy one two =
      let same : x ≡ y = heads_same x y xs ys ox oy (left_of (list_any (same_number x) (y ∷ ys)) _ one) (left_of (list_any (same_number y) (x ∷ xs)) _ two) in
      let later_x : list_all (is_before y) xs ≡ true = subst (λ l. list_all (is_before l) xs ≡ true) same (left_of (list_all (is_before x) xs) _ ox) in
      let later_y : list_all (is_before x) ys ≡ true = subst (λ l. list_all (is_before l) ys ≡ true) (sym same) (left_of (list_all (is_before y) ys) _ oy) in
      let rest : xs ≡ ys = same_labels xs ys (right_of (list_all (is_before x) xs) _ ox) (right_of (list_all (is_before y) ys) _ oy)
      (among_rest y ys xs later_x (right_of (list_any (same_number x) (y ∷ ys)) _ one))
      (among_rest x xs ys later_y (right_of (list_any (same_number y) (x ∷ xs)) _ two)) in
      ap (λ l. l ∷ xs) same ∙ ap (λ ls. y ∷ ls) rest

  -- ---- two cubes together

  none_new : (one two : List ℤ) → are_among same_number one two ≡ true → new_among same_number one two ≡ []
  none_new one [] h = refl
  none_new one (l ∷ two) h =
      let there : list_any (same_number l) one ≡ true = left_of (list_any (same_number l) one) _ h in
      rw there (none_new one two (right_of (list_any (same_number l) one) _ h))

  put_first : (x : ℤ) (xs : List ℤ) → list_all (is_before x) xs ≡ true → insert_label is_before x xs ≡ x ∷ xs
  put_first x [] h = refl
  put_first x (y ∷ xs) h = let first : is_before x y ≡ true = left_of (is_before x y) _ h in rw first refl

  already : (xs : List ℤ) → stand_in_order is_before xs ≡ true → sorted_labels is_before xs ≡ xs
  already [] h = refl
  already (x ∷ xs) h =
      ap (insert_label is_before x) (already xs (right_of (list_all (is_before x) xs) _ h))
      ∙ put_first x xs (left_of (list_all (is_before x) xs) _ h)

  -- the labels stand in order, where the dimension is there
  abbrev pub StandInOrder : Option (List ℤ) → Type 0
  StandInOrder None = ⊤
  StandInOrder (Some labels) = stand_in_order is_before labels ≡ true

  -- both cubes have other labels nowhere: where both have the dimension, they have the same ones
  both_same : (one two : List ℤ) → stand_in_order is_before one ≡ true → stand_in_order is_before two ≡ true → differ_in same_number (Some one) (Some two) ≡ false → one ≡ two
  both_same one two h k same =
      let both : (are_among same_number two one && are_among same_number one two) ≡ true = doubly _ same in
      same_labels one two h k (left_of (are_among same_number two one) _ both) (right_of (are_among same_number two one) _ both)
    where
      doubly : (b : Bool) → not b ≡ false → b ≡ true
      doubly true e = refl
      doubly false e = absurd (true≢false e)

  -- a cube whose labels are among the first's has the same, if it has the dimension
  pub follows_mask : (one two : Option (List ℤ)) → StandInOrder one → StandInOrder two → (one ≡ None → two ≡ None) → differ_in same_number one two ≡ false → Follows one two
  follows_mask one None h k has same = tt
  follows_mask None (Some two) h k has same = let none : Some two ≡ None = has refl in absurd cc
  follows_mask (Some one) (Some two) h k has same = subst (λ xs. IsPartOf one xs) (both_same one two h k same) (whole_part one)

  merged_same : (one two : List ℤ) → stand_in_order is_before one ≡ true → stand_in_order is_before two ≡ true → differ_in same_number (Some one) (Some two) ≡ false
      → sorted_labels is_before (one ++ new_among same_number one two) ≡ one
  merged_same one two h k same =
      let is : one ≡ two = both_same one two h k same in
      let none : new_among same_number one two ≡ [] = none_new one two (subst (λ xs. are_among same_number xs two ≡ true) (sym is) (among_itself two)) in
      rw none (ap (sorted_labels is_before) (append-nil one) ∙ already one h)
    where
      or_left : (a b : Bool) → a ≡ true → (a || b) ≡ true
      or_left a b e = rw e refl

      or_right : (a b : Bool) → b ≡ true → (a || b) ≡ true
      or_right true b e = refl
      or_right false b e = e

      more : (x : ℤ) (ys xs : List ℤ) → list_all (λ l. list_any (same_number l) ys) xs ≡ true → list_all (λ l. list_any (same_number l) (x ∷ ys)) xs ≡ true
      more x ys [] h = refl
      more x ys (l ∷ xs) h =
          and_from (list_any (same_number l) (x ∷ ys)) _ (or_right (same_number l x) _ (left_of (list_any (same_number l) ys) _ h)) (more x ys xs (right_of (list_any (same_number l) ys) _ h))

      among_itself : (xs : List ℤ) → are_among same_number xs xs ≡ true
      among_itself [] = refl
      among_itself (x ∷ xs) =
          and_from (list_any (same_number x) (x ∷ xs)) _ (or_left (same_number x x) _ (same_number_refl x)) (more x xs xs (among_itself xs))

  -- the labels of a merge follow those of both cubes
  pub merge_follows_one : (one two : Option (List ℤ)) → StandInOrder one → StandInOrder two → differ_in same_number one two ≡ false → Follows (all_in_order is_before one two) one
  merge_follows_one None two h k same = tt
  merge_follows_one (Some one) None h k same = whole_part one
  merge_follows_one (Some one) (Some two) h k same = subst (λ xs. IsPartOf xs one) (sym (merged_same one two h k same)) (whole_part one)

  pub merge_follows_two : (one two : Option (List ℤ)) → StandInOrder one → StandInOrder two → differ_in same_number one two ≡ false → Follows (all_in_order is_before one two) two
  merge_follows_two one None h k same = tt
  merge_follows_two None (Some two) h k same = whole_part two
  merge_follows_two (Some one) (Some two) h k same =
      subst (λ xs. IsPartOf xs two) (sym (merged_same one two h k same ∙ both_same one two h k same)) (whole_part two)
