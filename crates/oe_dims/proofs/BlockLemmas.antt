-- Names that rise at their indices are found by a binary search, and names differ where each block of them does.
use Rattle.std.proofs.Common.{◌≡◌, ℕ, zero, suc, ◌+◌, ◌<◌, Bool, true, false, ◌&&◌, ◌||◌, not, List, [], ◌∷◌, ◌++◌, length, get_or, refl, sym, ap, ◌∙◌, arith, inl, inr, Ordering, Result, Ok, Err, Some, None}
use Rattle.std.specs.declared.cmp.Ordering.TheVariants.{Less, Greater}
use Rattle.std.specs.List.{list_any, slice_index_or}
use Rattle.std.specs.List.Sorted.{IsSortedBy, IsSearchInRange, IsBinarySearchResult}
use Rattle.std.specs.Cmp.Lexicographic.{slice_cmp}
use Rattle.std.specs.FinMap.{slice_cmp-IsAntisymmetric, nat_cmp-IsAntisymmetric}
use Rattle.std.specs.Ordering.{nat_cmp, is_eq}
use Rattle.std.specs.Result.{is_ok}
use Rattle.std.proofs.lemmas.Bool.{cases_Bool, cases_lt, and_parts, false≢true}
use Rattle.std.proofs.lemmas.Cmp.{nat_list_cmp_total, tied_itself}
use Rattle.std.proofs.lemmas.List.{length-map, get_or-map}
use Rattle.std.proofs.lemmas.List.Folds.{list_any-append, list_any_at}
use Rattle.std.proofs.lemmas.List.Sorted.{searchable_from_sorted}
use Rattle.std.proofs.lemmas.Option.{slice_get-get_or}
use Rattle.oe_dims.specs.Dimensions.{all_differ}
use Rattle.oe_dims.specs.Names.{same_name, is_name_before, names_rise, names_at, are_apart, OrdersNames}
use Rattle.oe_dims.specs.Indices.{IsIndexOf}
use Rattle.oe_dims.proofs.OrderLemmas.{same_name_is, same_name_refl}
use Rattle.oe_dims.proofs.DistinctLemmas.{none_among, same_name-comm}
use Rattle.oe_dims.proofs.ReaderLemmas.{IsUnrepeated-names, IsIndexOf-found, IsIndexOf-none}
use Rattle.oe_dims.proofs.NameOrderLemmas.{not_after}

-- ---- a search among names that rise

pub indices_sorted : (names : List (List ℕ)) (indices : List ℕ) → names_rise (names_at names indices) ≡ true → IsSortedBy (λ p q. is_name_before (slice_index_or names p []) (slice_index_or names q [])) indices
indices_sorted names [] h k d low high = absurd (omega arith)
indices_sorted names (p ∷ []) h k d low high = absurd (omega arith)
indices_sorted names (p ∷ q ∷ indices) h zero d low high =
    let a = slice_index_or names p [] in
    let b = slice_index_or names q [] in
    not_after (slice_cmp nat_cmp a b) (slice_cmp nat_cmp b a) (nat_list_cmp_total.antisymm b a) (and_parts _ _ h).0
indices_sorted names (p ∷ q ∷ indices) h (suc k) d low high =
    let next : suc k + 1 ≡ suc (k + 1) = omega arith in
    rw next (indices_sorted names (q ∷ indices) (and_parts _ _ h).1 k d (omega arith) (omega arith))

not_same : (name other : List ℕ) (o : Ordering) → slice_cmp nat_cmp other name ≡ o → is_eq o ≡ false → same_name name other ≡ false
not_same name other o e h =
    elim (cases_Bool (same_name name other)) [
      | inl t ↦ absurd (false≢true (sym h ∙ ap is_eq (sym e ∙ sym (ap (slice_cmp nat_cmp other) (same_name_is name other t)) ∙ tied_itself nat_list_cmp_total other)))
      | inr f ↦ f
    ]

-- a binary search for a name tells whether it is there
pub found_at_indices : (name : List ℕ) (names : List (List ℕ)) (indices : List ℕ) (r : Result ℕ ℕ) → names_rise (names_at names indices) ≡ true → IsSearchInRange r (length indices) → IsBinarySearchResult (λ p. slice_cmp nat_cmp (slice_index_or names p []) name) indices r → is_ok r ≡ list_any (same_name name) (names_at names indices)
found_at_indices name names indices (Ok i) rise within found =
    let at = λ (p : ℕ). slice_index_or names p [] in
    let mapped = length-map indices at in
    let is : at (get_or indices i 0) ≡ name = slice_cmp-IsAntisymmetric nat_cmp-IsAntisymmetric _ _ (found 0) in
    let here : get_or (names_at names indices) i [] ≡ name = get_or-map at indices i 0 [] within ∙ is in
    sym (list_any_at (same_name name) (names_at names indices) i [] (omega arith) (ap (same_name name) here ∙ same_name_refl name))
found_at_indices name names indices (Err i) rise within parted =
    let at = λ (p : ℕ). slice_index_or names p [] in
    let mapped = length-map indices at in
    let halves = parted (searchable_from_sorted nat_list_cmp_total at indices name (indices_sorted names indices rise)) in
    sym (none_among name (names_at names indices) (λ k l.
    let inside : k < length indices = omega arith in
    let here : get_or (names_at names indices) k [] ≡ at (get_or indices k 0) = get_or-map at indices k 0 [] inside in
    ap (same_name name) here ∙ elim (cases_lt k i) [
      | inl t ↦ not_same name (at (get_or indices k 0)) Less (halves.0 k 0 (omega arith) t) refl
      | inr f ↦ not_same name (at (get_or indices k 0)) Greater (halves.1 k 0 (omega arith) inside) refl
    ]))

-- and where it is
pub order_found : (name : List ℕ) (names : List (List ℕ)) (order : List ℕ) (i : ℕ) → all_differ names ≡ true → OrdersNames names order → i < length order → IsBinarySearchResult (λ p. slice_cmp nat_cmp (slice_index_or names p []) name) order (Ok i) → IsIndexOf names name (Some (get_or order i 0))
order_found name names order i differ orders within found =
    let k = get_or order i 0 in
    let is : slice_index_or names k [] ≡ name = slice_cmp-IsAntisymmetric nat_cmp-IsAntisymmetric _ _ (found 0) in
    IsIndexOf-found names (IsUnrepeated-names names differ) name k (slice_get-get_or names k [] (orders.within i 0 within) ∙ ap Some is)

pub order_none : (name : List ℕ) (names : List (List ℕ)) (order : List ℕ) (i : ℕ) → OrdersNames names order → (λ (r : Result ℕ ℕ). IsSearchInRange r (length order)) (Err i) → IsBinarySearchResult (λ p. slice_cmp nat_cmp (slice_index_or names p []) name) order (Err i) → IsIndexOf names name None
order_none name names order i orders within parted =
    let none : false ≡ list_any (same_name name) names = found_at_indices name names order (Err i) orders.rise within parted ∙ orders.whole name in
    IsIndexOf-none names name (λ there. false≢true (none ∙ list_any_at (same_name name) names there.0 name there.1 (ap (same_name name) there.2 ∙ same_name_refl name)))

-- ---- blocks of names

pub are_apart-same : (names other : List (List ℕ)) (others : List (List ℕ)) → ((name : List ℕ) → list_any (same_name name) names ≡ list_any (same_name name) other) → are_apart names others ≡ are_apart other others
are_apart-same names other [] same = refl
are_apart-same names other (a ∷ others) same =
    rw (same a, are_apart-same names other others same) refl

apart_from_none : (others : List (List ℕ)) → are_apart [] others ≡ true
apart_from_none [] = refl
apart_from_none (a ∷ others) = apart_from_none others

-- a name more is apart from the others where it is none of them
other_order : (c d e f : Bool) → (not (c || d) && (not e && f)) ≡ (not (c || e) && (not d && f))
other_order true d e f = refl
other_order false true true f = refl
other_order false true false f = refl
other_order false false e f = refl

apart_more : (name : List ℕ) (names others : List (List ℕ)) → are_apart (name ∷ names) others ≡ (not (list_any (same_name name) others) && are_apart names others)
apart_more name names [] = refl
apart_more name names (a ∷ others) =
    rw (apart_more name names others, same_name-comm name a)
    (other_order (same_name a name) (list_any (same_name a) names) (list_any (same_name name) others) (are_apart names others))

regrouped : (c d e f g : Bool) → (not (c || d) && ((e && f) && g)) ≡ (((not c && e) && (not d && f)) && g)
regrouped true d e f g = refl
regrouped false true true f g = refl
regrouped false true false f g = refl
regrouped false false true f g = refl
regrouped false false false f g = refl

-- a block and the others differ where no name of the block occurs twice in it, or again among the others
pub differ_in_parts : (block others : List (List ℕ)) → all_differ (block ++ others) ≡ ((all_differ block && are_apart block others) && all_differ others)
differ_in_parts [] others = rw (apart_from_none others) refl
differ_in_parts (a ∷ block) others =
    rw (list_any-append (same_name a) block others, differ_in_parts block others, apart_more a block others)
    (regrouped (list_any (same_name a) block) (list_any (same_name a) others) (all_differ block) (are_apart block others) (all_differ others))

-- so the test of a block leaves what the names after it give
pub rest_decides : (names block others : List (List ℕ)) (differs : Bool) → names ≡ block ++ others → differs ≡ (all_differ block && are_apart block others) → all_differ names ≡ (differs && all_differ others)
rest_decides names block others differs parts test =
    ap all_differ parts ∙ differ_in_parts block others ∙ ap (λ (b : Bool). b && all_differ others) (sym test)
