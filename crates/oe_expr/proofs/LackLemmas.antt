-- Where a label stands in a list of a dimension whose labels differ, by where it stands among all labels.
use Rattle.std.proofs.Common.{◌≡◌, ◌≢◌, ℕ, zero, suc, ◌+◌, ◌-◌, ◌<◌, ◌≤◌, Bool, true, false, not, if◌then◌else◌, ◌||◌, List, [], ◌∷◌, map, length, take, drop, slice_range, nat_lt, nat_le, nat_eq, AllPairs, Option, Some, None, option_map, refl, sym, ap, ◌∙◌, arith, ℤ}
use Rattle.std.specs.List.{list_any, AllByRecursion}
use Rattle.std.specs.Option.{option_and_then, option_map_or}
use Rattle.std.proofs.lemmas.Bool.Decides.{nat_tests}
use Rattle.std.proofs.lemmas.List.{length-take}
use Rattle.std.proofs.lemmas.List.Elements.{All-weaker, recursion_from_All}
use Rattle.std.proofs.lemmas.Option.{get_or_from_slice_get}
use Rattle.std.proofs.Common.{length-drop}
use Rattle.oe_dims.specs.Indices.{same_number, index_where}
use Rattle.oe_dims.specs.Instant.{instant_read}
use Rattle.oe_dims.specs.Names.{same_name}
use Rattle.oe_dims.specs.Plain.{PlainLabels, plain_instants, plain_names, plain_coordinates}
use Rattle.oe_dims.proofs.IndexLemmas.{index_where_passes, same_number_is}
use Rattle.oe_dims.proofs.OrderLemmas.{same_name_is}
use Rattle.oe_expr.specs.Rows.{Listing, listing_of_labels, has_no_element}
use Rattle.oe_expr.specs.Scope.{Label, text, whole, read_or_none, count_labels, label_index, labels_in, LiesWithin, AreDistinct, AreLists}
use Rattle.oe_expr.specs.declared.scope.ListPart.{ListPart}

-- the element of an index among all labels is in no list from one index to before another
abbrev pub is_outside : Option ℕ → ℕ → ℕ → Bool
is_outside None from to = true
is_outside (Some k) from to = nat_lt k from || nat_le to k

-- an index counted from another on
abbrev back : ℕ → Option ℕ → Option ℕ
back a None = None
back a (Some k) = if nat_lt k a then None else Some (k - a)

abbrev is_below : ℕ → Option ℕ → Bool
is_below n o = option_map_or (λ j. nat_lt j n) o false

back_none : (o : Option ℕ) → back 0 o ≡ o
back_none None = refl
back_none (Some k) =
    let no : nat_lt k 0 ≡ false = grind (arith, nat_tests) in
    let same : k - 0 ≡ k = omega arith in
    rw (no, same) refl

same_test : (k a : ℕ) → nat_lt (k + 1) (suc a) ≡ nat_lt k a
same_test k a = grind (arith, nat_tests)

back_more : (a : ℕ) (o : Option ℕ) → back (suc a) (option_map (λ n. n + 1) o) ≡ back a o
back_more a None = refl
back_more a (Some k) =
    let same : (k + 1) - suc a ≡ k - a = omega arith in
    rw (same_test k a, same) refl

below_more : (n : ℕ) (o : Option ℕ) → is_below (suc n) (option_map (λ n. n + 1) o) ≡ is_below n o
below_more n None = refl
below_more n (Some k) = same_test k n

module _ {L : Type 0} (test : L → Bool) where
  -- the test passes once at most
  abbrev Once : List L → Type 0
  Once [] = Unit
  Once (x ∷ xs) = (test x ≡ true → index_where test xs ≡ None) × Once xs

  in_take : (n : ℕ) (xs : List L) → is_below n (index_where test (take n xs)) ≡ is_below n (index_where test xs)
  in_take zero xs = by (index_where test xs)
    where
      by : (o : Option ℕ) → false ≡ is_below 0 o
      by None = refl
      by (Some k) = grind (arith, nat_tests)
  in_take (suc n) [] = refl
  in_take (suc n) (x ∷ xs) = by (test x) refl (in_take n xs)
    where
      by : (b : Bool) → test x ≡ b → is_below n (index_where test (take n xs)) ≡ is_below n (index_where test xs)
          → is_below (suc n) (index_where test (take (suc n) (x ∷ xs))) ≡ is_below (suc n) (index_where test (x ∷ xs))
      by true e rest = rw e refl
      by false e rest = rw e (below_more n (index_where test (take n xs)) ∙ (rest ∙ sym (below_more n (index_where test xs))))

  in_drop : (a : ℕ) (xs : List L) → Once xs → index_where test (drop a xs) ≡ back a (index_where test xs)
  in_drop zero xs once = sym (back_none (index_where test xs))
  in_drop (suc a) [] once = refl
  in_drop (suc a) (x ∷ xs) once = by (test x) refl (in_drop a xs once.1)
    where
      by : (b : Bool) → test x ≡ b → index_where test (drop a xs) ≡ back a (index_where test xs)
          → index_where test (drop a xs) ≡ back (suc a) (index_where test (x ∷ xs))
      by true e rest =
          let yes : nat_lt 0 (suc a) ≡ true = grind (arith, nat_tests) in
          let gone : back (suc a) (Some 0) ≡ None = rw yes refl in
          rw e (rest ∙ (ap (back a) (once.0 e) ∙ sym gone))
      by false e rest = rw e (rest ∙ sym (back_more a (index_where test xs)))

  slice_length : (xs : List L) (from to : ℕ) → from ≤ to → to ≤ length xs → length (slice_range xs from to) ≡ to - from
  slice_length xs from to rises ends = omega (arith, length-take (to - from) (drop from xs), length-drop from xs)

  outside_by : (from to : ℕ) (o : Option ℕ) → from ≤ to → not (is_below (to - from) (back from o)) ≡ is_outside o from to
  outside_by from to None rises = refl
  outside_by from to (Some k) rises = by (nat_lt k from) refl
    where
      by : (b : Bool) → nat_lt k from ≡ b → not (is_below (to - from) (back from (Some k))) ≡ is_outside (Some k) from to
      by true e = rw e refl
      by false e = rw e (inner (nat_le to k) refl)
        where
          inner : (b : Bool) → nat_le to k ≡ b → not (nat_lt (k - from) (to - from)) ≡ nat_le to k
          inner true f = let no : nat_lt (k - from) (to - from) ≡ false = grind (arith, nat_tests) in rw (no, f) refl
          inner false f = let yes : nat_lt (k - from) (to - from) ≡ true = grind (arith, nat_tests) in rw (yes, f) refl

  pub in_slice : (xs : List L) (from to : ℕ) → Once xs → from ≤ to → to ≤ length xs
      → not (is_below (length (slice_range xs from to)) (index_where test (slice_range xs from to))) ≡ is_outside (index_where test xs) from to
  in_slice xs from to once rises ends =
      rw (slice_length xs from to rises ends, in_take (to - from) (drop from xs), in_drop from xs once)
      (outside_by from to (index_where test xs) rises)

  -- where the test is for one label, and all labels differ
  module _ (label : L) (only : (a : L) → test a ≡ true → a ≡ label) where
    differ : (x : L) (xs : List L) → AllPairs (λ a b. a ≢ b) (x ∷ xs) → test x ≡ true → (o : Option ℕ) → index_where test xs ≡ o → o ≡ None
    differ x xs pairs e None found = refl
    differ x xs pairs e (Some j) found =
        let there = index_where_passes test xs j found in
        let same : x ≡ there.0 = only x e ∙ sym (only there.0 there.2) in
        let within : j < length xs = there.3 in
        absurd (pairs 0 (suc j) x (omega arith) (omega arith) (same ∙ sym (get_or_from_slice_get xs j there.0 x there.1)))

    pub once_of : (xs : List L) → AllPairs (λ a b. a ≢ b) xs → Once xs
    once_of [] pairs = tt
    once_of (x ∷ xs) pairs = (
      λ e. differ x xs pairs e (index_where test xs) refl,
      once_of xs (λ i j d below within. pairs (suc i) (suc j) d (omega arith) (omega arith)),
    )

only_number : (label a : ℤ) → same_number label a ≡ true → a ≡ label
only_number label a e = same_number_is label a e

only_name : (label a : List ℕ) → same_name label a ≡ true → a ≡ label
only_name label a e = same_name_is label a e

-- a list lacks a label that is not among its own
pub lacks_label : (labels : PlainLabels) (label : Label) (part : ListPart) → AreDistinct labels → LiesWithin (count_labels labels) part
    → has_no_element None (Some label) (listing_of_labels (labels_in labels part)) ≡ is_outside (label_index labels label) part.from part.to
lacks_label (plain_instants labels) (text spelling) part distinct within = by (read_or_none (instant_read spelling))
  where
    by : (o : Option ℤ)
        → not (is_below (length (slice_range labels part.from part.to)) (option_and_then (λ seconds. index_where (same_number seconds) (slice_range labels part.from part.to)) o))
        ≡ is_outside (option_and_then (λ seconds. index_where (same_number seconds) labels) o) part.from part.to
    by None = refl
    by (Some seconds) =
        in_slice (same_number seconds) labels part.from part.to
        (once_of (same_number seconds) seconds (only_number seconds) labels distinct) within.rises within.ends
lacks_label (plain_instants labels) (whole z) part distinct within = refl
lacks_label (plain_names labels) (text name) part distinct within =
    in_slice (same_name name) labels part.from part.to (once_of (same_name name) name (only_name name) labels distinct) within.rises within.ends
lacks_label (plain_names labels) (whole z) part distinct within = refl
lacks_label (plain_coordinates labels) (text spelling) part distinct within = refl
lacks_label (plain_coordinates labels) (whole z) part distinct within =
    in_slice (same_number z) labels part.from part.to (once_of (same_number z) z (only_number z) labels distinct) within.rises within.ends

past : (n m k : ℕ) → n ≡ m → not (nat_lt k n) ≡ nat_le m k
past n m k e = by (nat_lt k n) refl
  where
    by : (b : Bool) → nat_lt k n ≡ b → not b ≡ nat_le m k
    by true t = grind (arith, nat_tests)
    by false t = grind (arith, nat_tests)

-- a list lacks an index past its end
pub lacks_index : (labels : PlainLabels) (k : ℕ) (label : Option Label) (part : ListPart) → LiesWithin (count_labels labels) part
    → has_no_element (Some k) label (listing_of_labels (labels_in labels part)) ≡ nat_le (part.to - part.from) k
lacks_index (plain_instants labels) k label part within = past _ _ k (slice_length (λ l. true) labels part.from part.to within.rises within.ends)
lacks_index (plain_names labels) k label part within = past _ _ k (slice_length (λ l. true) labels part.from part.to within.rises within.ends)
lacks_index (plain_coordinates labels) k label part within = past _ _ k (slice_length (λ l. true) labels part.from part.to within.rises within.ends)

-- ---- several lists

any_of : (p : Listing → Bool) (q : ListPart → Bool) (f : ListPart → Listing) (parts : List ListPart)
    → AllByRecursion (λ part. p (f part) ≡ q part) parts → list_any p (map f parts) ≡ list_any q parts
any_of p q f [] each = refl
any_of p q f (part ∷ parts) each = rw (each.0, any_of p q f parts each.1) refl

module _ (labels : PlainLabels) (lists : List ListPart) (are : AreLists labels lists) where
  abbrev Part : ListPart → Type 0
  Part part = LiesWithin (count_labels labels) part

  each_part : (p : Listing → Bool) (q : ListPart → Bool)
      → ((part : ListPart) → LiesWithin (count_labels labels) part → p (listing_of_labels (labels_in labels part)) ≡ q part)
      → list_any p (map (λ part. listing_of_labels (labels_in labels part)) lists) ≡ list_any q lists
  each_part p q is =
      any_of p q (λ part. listing_of_labels (labels_in labels part)) lists
      (recursion_from_All (λ part. p (listing_of_labels (labels_in labels part)) ≡ q part) lists
      (All-weaker (LiesWithin (count_labels labels)) (λ part. p (listing_of_labels (labels_in labels part)) ≡ q part) is lists are.within))

  pub any_lacks_index : (k : ℕ) (label : Option Label)
      → list_any (has_no_element (Some k) label) (map (λ part. listing_of_labels (labels_in labels part)) lists)
      ≡ list_any (λ (part : ListPart). nat_le (part.to - part.from) k) lists
  any_lacks_index k label = each_part (has_no_element (Some k) label) (λ part. nat_le (part.to - part.from) k) (λ part within. lacks_index labels k label part within)

  pub any_lacks_label : (label : Label)
      → list_any (has_no_element None (Some label)) (map (λ part. listing_of_labels (labels_in labels part)) lists)
      ≡ list_any (λ (part : ListPart). is_outside (label_index labels label) part.from part.to) lists
  any_lacks_label label =
      each_part (has_no_element None (Some label)) (λ part. is_outside (label_index labels label) part.from part.to)
      (λ part within. lacks_label labels label part are.distinct within)

  pub any_lacks_both :
      list_any (has_no_element None None) (map (λ part. listing_of_labels (labels_in labels part)) lists) ≡ list_any (λ (part : ListPart). true) lists
  any_lacks_both = each_part (has_no_element None None) (λ part. true) (λ part within. refl)

pub any_true : (lists : List ListPart) → list_any (λ (part : ListPart). true) lists ≡ not (nat_eq (length lists) 0)
any_true [] = refl
any_true (part ∷ lists) = let no : nat_eq (suc (length lists)) 0 ≡ false = grind (arith, nat_tests) in rw no refl

pub each_list : (labels : PlainLabels) (lists : List ListPart)
    → map listing_of_labels (map (labels_in labels) lists) ≡ map (λ part. listing_of_labels (labels_in labels part)) lists
each_list labels [] = refl
each_list labels (part ∷ lists) = ap (λ (rest : List Listing). listing_of_labels (labels_in labels part) ∷ rest) (each_list labels lists)
