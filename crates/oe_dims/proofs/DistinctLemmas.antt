-- Sorted names differ where each stands before the next, and names differ in any order or in none.
use Rattle.std.proofs.Common.{◌≡◌, ℕ, suc, ◌+◌, ◌<◌, ◌≤◌, Bool, true, false, List, [], ◌∷◌, ◌++◌, length, get_or, take, drop, refl, sym, ap, ◌∙◌, arith, inl, inr, Ordering}
use Rattle.std.specs.declared.cmp.Ordering.TheVariants.{Less, Equal, Greater}
use Rattle.std.specs.List.{list_any, slice_index_or, AllByRecursion, IsDistinct}
use Rattle.std.specs.List.Sorted.{IsPermutation, IsSortedBy}
use Rattle.std.specs.Cmp.{both_ways, IsStrictWeakOrder}
use Rattle.std.specs.Cmp.Lexicographic.{slice_cmp}
use Rattle.std.specs.FinMap.{slice_cmp-IsAntisymmetric, nat_cmp-IsAntisymmetric}
use Rattle.std.specs.Ordering.{nat_cmp, is_lt, ordering_reverse}
use Rattle.std.proofs.Math.Seq.{take-append_seam}
use Rattle.std.proofs.lemmas.Bool.{cases_Bool, and_parts, not-true, or_parts, or_from, false≢true}
use Rattle.std.proofs.lemmas.Cmp.{nat_list_cmp_total, tied_itself}
use Rattle.std.proofs.lemmas.List.{length-map, length-drop, get_or-map, same_lists, get_or_default}
use Rattle.std.proofs.lemmas.List.MinMax.{ranks_by}
use Rattle.std.proofs.lemmas.List.Sorted.{list_any-IsPermutation, sorted_far, IsPermutation-map, IsPermutation-sym}
use Rattle.std.proofs.lemmas.Map.Keys.{IsDistinct-IsPermutation}
use Rattle.oe_dims.specs.Dimensions.{all_differ}
use Rattle.oe_dims.specs.Names.{same_name, is_name_before, names_rise, names_at}
use Rattle.oe_dims.proofs.OrderLemmas.{same_name_is, same_name_refl}

-- ---- two names

pub neither_less : (o p : Ordering) → o ≡ ordering_reverse p → is_lt o ≡ false → is_lt p ≡ false → o ≡ Equal
neither_less o Less e h k = cc
neither_less o Equal e h k = e
neither_less o Greater e h k = absurd (false≢true (sym h ∙ ap is_lt e))

-- of two names that differ one stands before the other
same_from_order : (a b : List ℕ) → is_name_before a b ≡ false → is_name_before b a ≡ false → same_name a b ≡ true
same_from_order a b h k =
    let tied = neither_less (slice_cmp nat_cmp a b) (slice_cmp nat_cmp b a) (nat_list_cmp_total.antisymm a b) h k in
    let is : a ≡ b = slice_cmp-IsAntisymmetric nat_cmp-IsAntisymmetric a b tied in
    ap (same_name a) (sym is) ∙ same_name_refl a

-- and no name stands before itself
before_differ : (a b : List ℕ) → is_name_before a b ≡ true → same_name a b ≡ false
before_differ a b h =
    elim (cases_Bool (same_name a b)) [
      | inl t ↦ absurd (false≢true (ap is_lt (sym (tied_itself nat_list_cmp_total a)) ∙ ap (is_name_before a) (sym (same_name_is a b t)) ∙ h))
      | inr f ↦ f
    ]

pub names_rank : IsStrictWeakOrder is_name_before
names_rank = ranks_by nat_list_cmp_total (λ a. a)

-- ---- sorted names

sorted_tail : (a : List ℕ) (names : List (List ℕ)) → IsSortedBy is_name_before (a ∷ names) → IsSortedBy is_name_before names
sorted_tail a names h k d low high =
    let next : suc k + 1 ≡ suc (k + 1) = omega arith in
    rw next at (h (suc k) d (omega arith) (omega arith))

pub none_among : (name : List ℕ) (names : List (List ℕ)) → ((k : ℕ) → k < length names → same_name name (get_or names k []) ≡ false) → list_any (same_name name) names ≡ false
none_among name [] h = refl
none_among name (a ∷ names) h =
    or_from _ _ (h 0 (omega arith)) (none_among name names (λ k l. h (suc k) (omega arith)))

-- a name that stands before the first of sorted names is none of them
before_all : (a b : List ℕ) (names : List (List ℕ)) → is_name_before a b ≡ true → IsSortedBy is_name_before (b ∷ names) → list_any (same_name a) (b ∷ names) ≡ false
before_all a b names h sorted =
    none_among a (b ∷ names) (λ k l.
    let after = sorted_far is_name_before names_rank (b ∷ names) sorted 0 k [] (omega arith) l in
    elim (cases_Bool (same_name a (get_or (b ∷ names) k []))) [
      | inl t ↦ absurd (false≢true (sym after ∙ ap (λ c. is_name_before c b) (same_name_is a (get_or (b ∷ names) k []) t) ∙ h))
      | inr f ↦ f
    ])

pub names_rise-sorted : (names : List (List ℕ)) → IsSortedBy is_name_before names → names_rise names ≡ all_differ names
names_rise-sorted [] sorted = refl
names_rise-sorted (a ∷ []) sorted = refl
names_rise-sorted (a ∷ b ∷ names) sorted =
    let rest = names_rise-sorted (b ∷ names) (sorted_tail a (b ∷ names) sorted) in
    elim (cases_Bool (is_name_before a b)) [
      | inl t ↦ let none = before_all a b names t (sorted_tail a (b ∷ names) sorted) in rw (t, none, rest) refl
      | inr f ↦ let same = same_from_order a b f (sorted 0 [] (omega arith) (omega arith)) in rw (f, same) refl
    ]

pub rise_short : (names : List (List ℕ)) → length names ≤ 1 → names_rise names ≡ true
rise_short [] h = refl
rise_short (a ∷ []) h = refl
rise_short (a ∷ b ∷ names) h = absurd (omega arith)

pub names_rise_all : (names : List (List ℕ)) (indices : List ℕ) (k : ℕ) → length indices ≤ k + 1 → names_rise (names_at names (drop k indices)) ≡ true
names_rise_all names indices k h =
    let long = length-map (drop k indices) (λ index. slice_index_or names index []) in
    let left = length-drop k indices in
    rise_short (names_at names (drop k indices)) (omega arith)

-- ---- names in another order

pub same_name-comm : (a b : List ℕ) → same_name a b ≡ same_name b a
same_name-comm a b =
    both_ways (same_name a b) (same_name b a)
    (λ h. ap (same_name b) (sym (same_name_is a b h)) ∙ same_name_refl b)
    (λ h. ap (same_name a) (sym (same_name_is b a h)) ∙ same_name_refl a)

none_by_recursion : (name : List ℕ) (names : List (List ℕ)) → list_any (same_name name) names ≡ false → AllByRecursion (λ other. same_name name other ≡ false) names
none_by_recursion name [] h = tt
none_by_recursion name (a ∷ names) h = ((or_parts _ _ h).0, none_by_recursion name names (or_parts _ _ h).1)

none_from_recursion : (name : List ℕ) (names : List (List ℕ)) → AllByRecursion (λ other. same_name name other ≡ false) names → list_any (same_name name) names ≡ false
none_from_recursion name [] h = refl
none_from_recursion name (a ∷ names) h = or_from _ _ h.0 (none_from_recursion name names h.1)

distinct_from : (names : List (List ℕ)) → all_differ names ≡ true → IsDistinct same_name names
unfolding IsDistinct
distinct_from [] h = tt
distinct_from (a ∷ names) h =
    (none_by_recursion a names (not-true _ (and_parts _ _ h).0), distinct_from names (and_parts _ _ h).1)

differ_from : (names : List (List ℕ)) → IsDistinct same_name names → all_differ names ≡ true
unfolding IsDistinct
differ_from [] h = refl
differ_from (a ∷ names) h =
    let none = none_from_recursion a names h.0 in
    let rest = differ_from names h.1 in
    rw (none, rest) refl

pub all_differ-permutation : (names other : List (List ℕ)) → IsPermutation names other → all_differ names ≡ all_differ other
all_differ-permutation names other h =
    both_ways (all_differ names) (all_differ other)
    (λ d. differ_from other (IsDistinct-IsPermutation same_name same_name-comm names other h (distinct_from names d)))
    (λ d. differ_from names (IsDistinct-IsPermutation same_name same_name-comm other names (IsPermutation-sym names other h) (distinct_from other d)))

-- ---- names by their indices

-- at the indices from 0 on stand the names themselves
pub names_at-numbered : (names : List (List ℕ)) (indices : List ℕ) → length indices ≡ length names → ((k : ℕ) → k < length indices → get_or indices k 0 ≡ k) → names_at names indices ≡ names
names_at-numbered names indices long numbered =
    let mapped = length-map indices (λ index. slice_index_or names index []) in
    same_lists (names_at names indices) names (omega arith)
    (λ k d l. let within : k < length indices = omega arith in
    get_or-map (λ index. slice_index_or names index []) indices k 0 d within ∙ ap (λ index. get_or names index []) (numbered k within) ∙ get_or_default names k [] d (omega arith))

-- sorted indices give sorted names
pub names_at-sorted : (names : List (List ℕ)) (indices : List ℕ) → IsSortedBy (λ p q. is_name_before (slice_index_or names p []) (slice_index_or names q [])) indices → IsSortedBy is_name_before (names_at names indices)
names_at-sorted names indices sorted k d low high =
    let f = λ (index : ℕ). slice_index_or names index [] in
    let mapped = length-map indices f in
    let next : k + 1 < length indices = omega arith in
    let one = get_or-map f indices k 0 d (omega arith) in
    let two = get_or-map f indices (k + 1) 0 d next in
    rw (one, two) (sorted k 0 (omega arith) next)

pub indices_rank : (names : List (List ℕ)) → IsStrictWeakOrder (λ p q. is_name_before (slice_index_or names p []) (slice_index_or names q []))
indices_rank names = ranks_by nat_list_cmp_total (λ p. slice_index_or names p [])

-- so names differ where they rise at their sorted indices
pub differ_by_sort : (names : List (List ℕ)) (numbered sorted : List ℕ) → length numbered ≡ length names → ((k : ℕ) → k < length numbered → get_or numbered k 0 ≡ k) → IsPermutation numbered sorted → IsSortedBy (λ p q. is_name_before (slice_index_or names p []) (slice_index_or names q [])) sorted → names_rise (names_at names sorted) ≡ all_differ names
differ_by_sort names numbered sorted long each moved order =
    let f = λ (index : ℕ). slice_index_or names index [] in
    names_rise-sorted (names_at names sorted) (names_at-sorted names sorted order)
    ∙ sym (all_differ-permutation (names_at names numbered) (names_at names sorted) (IsPermutation-map f numbered sorted moved))
    ∙ ap all_differ (names_at-numbered names numbered long each)

-- and a test that a name passes at some index is one that some name passes
pub same_at_indices : (test : List ℕ → Bool) (names : List (List ℕ)) (numbered moved : List ℕ) → length numbered ≡ length names → ((k : ℕ) → k < length numbered → get_or numbered k 0 ≡ k) → IsPermutation numbered moved → list_any test (names_at names moved) ≡ list_any test names
same_at_indices test names numbered moved long each permuted =
    let f = λ (index : ℕ). slice_index_or names index [] in
    sym (list_any-IsPermutation test (names_at names numbered) (names_at names moved) (IsPermutation-map f numbered moved permuted))
    ∙ ap (list_any test) (names_at-numbered names numbered long each)

-- what was written whole into a list is the list
pub whole_write : (n : ℕ) (written old : List ℕ) → length written ≡ n → written ≡ take n (written ++ old)
whole_write n written old e = sym (take-append_seam written old) ∙ ap (λ k. take k (written ++ old)) e
