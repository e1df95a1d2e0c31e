-- The run of labels in an extent, found by two searches.
use Rattle.std.proofs.Common.{◌≡◌, ◌↔◌, ℕ, zero, suc, ◌-◌, ◌<◌, ◌≤◌, max, Bool, true, false, ◌&&◌, not, List, [], ◌∷◌, length, get_or, filter, count_by, refl, sym, ap, ◌∙◌, arith, Some, None, ℤ, pos, ◌<ℤ◌, inl, inr, FitsSigned, w64, of_z, to_z}
use Rattle.std.specs.Int.Signed.{lt_z, le_z}
use Rattle.std.specs.List.{slice_range}
use Rattle.std.specs.List.Sorted.{IsPartitionPoint, IsPartitionedBy}
use Rattle.std.proofs.lemmas.Int.{ints, to_z-of_z}
use Rattle.std.proofs.lemmas.List.{length-take-le}
use Rattle.std.proofs.lemmas.List.Sums.{length-filter}
use Rattle.std.proofs.lemmas.Option.{slice_get_within, get_or_from_slice_get}
use Rattle.std.proofs.lemmas.Bool.{and_from, and_left, and_right, not_from_true, not_from_false, false≢true, cases_lt, cases_Bool}
use Rattle.oe_dims.specs.Dimensions.{rises, falls}
use Rattle.oe_dims.specs.Indices.{same_number, index_where, is_inside, IsIndexIn, IsIndexRange}
use Rattle.oe_dims.proofs.IndexLemmas.{same_number_is, rises_lt, falls_lt, lt_from, index_where_found, index_where_none, same_number_refl, same_number_below, same_number_above}

-- where just the elements of a run pass, the filter is the run
pub filter_run : {X : Type 0} (test : X → Bool) (xs : List X) (i j : ℕ) (d : X) → i ≤ j → j ≤ length xs → ((k : ℕ) → k < i → test (get_or xs k d) ≡ false) → ((k : ℕ) → i ≤ k → k < j → test (get_or xs k d) ≡ true) → ((k : ℕ) → j ≤ k → k < length xs → test (get_or xs k d) ≡ false) → filter test xs ≡ slice_range xs i j
filter_run test [] i j d le last before within after = let none : j - i ≡ 0 = omega arith in rw none refl
filter_run test (x ∷ xs) zero zero d le last before within after =
    let first : test x ≡ false = after 0 (omega arith) (omega arith) in
    let rest = filter_run test xs 0 0 d (omega arith) (omega arith) (λ k h. absurd (omega arith)) (λ k h l. absurd (omega arith)) (λ k h l. after (suc k) (omega arith) (omega arith)) in
    rw (first, rest) refl
filter_run test (x ∷ xs) zero (suc j) d le last before within after =
    let first : test x ≡ true = within 0 (omega arith) (omega arith) in
    let rest = filter_run test xs 0 j d (omega arith) (omega arith) (λ k h. absurd (omega arith)) (λ k h l. within (suc k) (omega arith) (omega arith)) (λ k h l. after (suc k) (omega arith) (omega arith)) in
    let more : suc j - 0 ≡ suc j = omega arith in
    let same : j - 0 ≡ j = omega arith in
    rw (first, rest, more, same) refl
filter_run test (x ∷ xs) (suc i) zero d le last before within after = absurd (omega arith)
filter_run test (x ∷ xs) (suc i) (suc j) d le last before within after =
    let first : test x ≡ false = before 0 (omega arith) in
    let rest = filter_run test xs i j d (omega arith) (omega arith) (λ k h. before (suc k) (omega arith)) (λ k h l. within (suc k) (omega arith) (omega arith)) (λ k h l. after (suc k) (omega arith) (omega arith)) in
    let same : suc j - suc i ≡ j - i = omega arith in
    rw (first, rest, same) refl

-- and a test that passes just the first elements counts them
pub count_by_first : {X : Type 0} (test : X → Bool) (xs : List X) (i : ℕ) (d : X) → i ≤ length xs → ((k : ℕ) → k < i → test (get_or xs k d) ≡ true) → ((k : ℕ) → i ≤ k → k < length xs → test (get_or xs k d) ≡ false) → count_by test xs ≡ i
count_by_first test xs i d le before after =
    let run = filter_run test xs 0 i d (omega arith) le (λ k h. absurd (omega arith)) (λ k h l. before k l) after in
    let all : i - 0 ≡ i = omega arith in
    sym (length-filter test xs) ∙ ap length run ∙ rw all (length-take-le i xs le)

-- the labels below or above a number stand first
pub below_stand_first : (labels : List ℤ) (bound : ℤ) → rises labels ≡ true → IsPartitionedBy (λ l. lt_z l bound) labels
below_stand_first labels bound h i j d le l later =
    elim (cases_lt i j) [
      | inl lt ↦ let less = rises_lt labels i j d h lt l in grind (arith, ints)
      | inr ge ↦ let same : i ≡ j = omega arith in rw same later
    ]

pub at_most_stand_first : (labels : List ℤ) (bound : ℤ) → rises labels ≡ true → IsPartitionedBy (λ l. le_z l bound) labels
at_most_stand_first labels bound h i j d le l later =
    elim (cases_lt i j) [
      | inl lt ↦ let less = rises_lt labels i j d h lt l in grind (arith, ints)
      | inr ge ↦ let same : i ≡ j = omega arith in rw same later
    ]

pub above_stand_first : (labels : List ℤ) (bound : ℤ) → falls labels ≡ true → IsPartitionedBy (λ l. lt_z bound l) labels
above_stand_first labels bound h i j d le l later =
    elim (cases_lt i j) [
      | inl lt ↦ let less = falls_lt labels i j d h lt l in grind (arith, ints)
      | inr ge ↦ let same : i ≡ j = omega arith in rw same later
    ]

pub at_least_stand_first : (labels : List ℤ) (bound : ℤ) → falls labels ≡ true → IsPartitionedBy (λ l. le_z bound l) labels
at_least_stand_first labels bound h i j d le l later =
    elim (cases_lt i j) [
      | inl lt ↦ let less = falls_lt labels i j d h lt l in grind (arith, ints)
      | inr ge ↦ let same : i ≡ j = omega arith in rw same later
    ]

-- the two indices that the searches give: where the extent begins, and where it is left
pub record IsSplit (from to : ℤ) (before until : ℤ → Bool) (labels : List ℤ) (first last : ℕ) : Type 0 where
  pub inside_is : (l : ℤ) → is_inside from to l ≡ (not (before l) && until l)
  pub first_within : first ≤ length labels
  pub last_within : last ≤ length labels
  pub first_is : IsPartitionPoint (λ l. before l ≡ true) (λ l. before l ≡ false) labels first
  pub last_is : IsPartitionPoint (λ l. until l ≡ true) (λ l. until l ≡ false) labels last

inside_at : (from to : ℤ) (before until : ℤ → Bool) (labels : List ℤ) (first last : ℕ) → IsSplit from to before until labels first last → (k : ℕ) (d : ℤ) → first ≤ k → k < last → k < length labels → is_inside from to (get_or labels k d) ≡ true
inside_at from to before until labels first last s k d ge lt l =
    s.inside_is (get_or labels k d)
    ∙ and_from _ _ (not_from_false _ (s.first_is.1 k d ge l)) (s.last_is.0 k d (omega arith) lt)

outside_before : (from to : ℤ) (before until : ℤ → Bool) (labels : List ℤ) (first last : ℕ) → IsSplit from to before until labels first last → (k : ℕ) (d : ℤ) → k < first → is_inside from to (get_or labels k d) ≡ false
outside_before from to before until labels first last s k d lt =
    s.inside_is (get_or labels k d) ∙ and_left _ _ (not_from_true _ (s.first_is.0 k d (omega arith) lt))

outside_after : (from to : ℤ) (before until : ℤ → Bool) (labels : List ℤ) (first last : ℕ) → IsSplit from to before until labels first last → (k : ℕ) (d : ℤ) → last ≤ k → k < length labels → is_inside from to (get_or labels k d) ≡ false
outside_after from to before until labels first last s k d ge l =
    s.inside_is (get_or labels k d) ∙ and_right _ _ (s.last_is.1 k d ge l)

-- an index is in the run just where its label is in the extent
run_at : (from to : ℤ) (before until : ℤ → Bool) (labels : List ℤ) (first last : ℕ) → IsSplit from to before until labels first last → (k : ℕ) (d : ℤ) → k < length labels → (is_inside from to (get_or labels k d) ≡ true) ↔ IsIndexIn first (max first last) k
run_at from to before until labels first last s k d l = (
  (λ inside. elim (cases_lt k first) [
    | inl lt ↦ absurd (false≢true (sym (outside_before from to before until labels first last s k d lt) ∙ inside))
    | inr ge ↦ elim (cases_lt k last) [
      | inl lt ↦ (ge, omega arith)
      | inr past ↦ absurd (false≢true (sym (outside_after from to before until labels first last s k d past l) ∙ inside))
    ]
  ]),
  (λ run. inside_at from to before until labels first last s k d run.0 (omega arith) l),
)

pub IsIndexRange-from_split : (from to : ℤ) (before until : ℤ → Bool) (labels : List ℤ) (first last : ℕ) → IsSplit from to before until labels first last → IsIndexRange from to labels first (max first last)
IsIndexRange-from_split from to before until labels first last s =
    let a = s.first_within in
    let b = s.last_within in
    record {
      in_order = omega arith;
      within = omega arith;
      inside = λ index label e. rw (get_or_from_slice_get labels index label label e) at (run_at from to before until labels first last s index label (slice_get_within labels index label e));
    }

-- and the run is what the extent keeps
pub filter_from_split : (from to : ℤ) (before until : ℤ → Bool) (labels : List ℤ) (first last : ℕ) → IsSplit from to before until labels first last → slice_range labels first (max first last) ≡ filter (is_inside from to) labels
filter_from_split from to before until labels first last s =
    let a = s.first_within in
    let b = s.last_within in
    sym (filter_run (is_inside from to) labels first (max first last) (pos 0) (omega arith) (omega arith)
    (λ k lt. outside_before from to before until labels first last s k (pos 0) lt)
    (λ k ge lt. inside_at from to before until labels first last s k (pos 0) ge (omega arith) (omega arith))
    (λ k ge l. outside_after from to before until labels first last s k (pos 0) (omega arith) l))

pub count_from_point : (test : ℤ → Bool) (labels : List ℤ) (i : ℕ) → i ≤ length labels → IsPartitionPoint (λ l. test l ≡ true) (λ l. test l ≡ false) labels i → count_by test labels ≡ i
count_from_point test labels i le h =
    count_by_first test labels i (pos 0) le (λ k lt. h.0 k (pos 0) (omega arith) lt) (λ k ge l. h.1 k (pos 0) ge l)

-- what lies in an extent is not before it, and not past it
pub inside_rising : (from to l : ℤ) → is_inside from to l ≡ (not (lt_z l from) && le_z l to)
inside_rising from to l = grind (arith, ints)

pub inside_falling : (from to l : ℤ) → is_inside from to l ≡ (not (lt_z to l) && le_z from l)
inside_falling from to l = grind (arith, ints)

-- a label is found where a search for it ends, or nowhere
same_number_differ : (a b : ℤ) → (b ≡ a → ⊥) → same_number a b ≡ false
same_number_differ a b h =
    elim (cases_Bool (same_number a b)) [ inl t ↦ absurd (h (same_number_is a b t)) | inr f ↦ f ]

pub found_rising : (labels : List ℤ) (label : ℤ) (i : ℕ) (d : ℤ) → IsPartitionPoint (λ l. lt_z l label ≡ true) (λ l. lt_z l label ≡ false) labels i → i < length labels → get_or labels i d ≡ label → index_where (same_number label) labels ≡ Some i
found_rising labels label i d h l e =
    index_where_found (same_number label) labels i d l
    (λ k lt. same_number_below label (get_or labels k d) (lt_from _ _ (h.0 k d (omega arith) lt))) (rw e (same_number_refl label))

pub found_falling : (labels : List ℤ) (label : ℤ) (i : ℕ) (d : ℤ) → IsPartitionPoint (λ l. lt_z label l ≡ true) (λ l. lt_z label l ≡ false) labels i → i < length labels → get_or labels i d ≡ label → index_where (same_number label) labels ≡ Some i
found_falling labels label i d h l e =
    index_where_found (same_number label) labels i d l
    (λ k lt. same_number_above label (get_or labels k d) (lt_from _ _ (h.0 k d (omega arith) lt))) (rw e (same_number_refl label))

beyond_rising : (label a b : ℤ) → lt_z a label ≡ false → a <ℤ b → label <ℤ b
beyond_rising label a b h k = grind (arith, ints)

beyond_falling : (label a b : ℤ) → lt_z label a ≡ false → b <ℤ a → b <ℤ label
beyond_falling label a b h k = grind (arith, ints)

pub absent_rising : (labels : List ℤ) (label : ℤ) (i : ℕ) (d : ℤ) → rises labels ≡ true → IsPartitionPoint (λ l. lt_z l label ≡ true) (λ l. lt_z l label ≡ false) labels i → (i < length labels → get_or labels i d ≡ label → ⊥) → index_where (same_number label) labels ≡ None
absent_rising labels label i d up h none =
    index_where_none (same_number label) labels d (λ k l. elim (cases_lt k i) [
      | inl lt ↦ same_number_below label (get_or labels k d) (lt_from _ _ (h.0 k d (omega arith) lt))
      | inr ge ↦ elim (cases_lt i k) [
        | inl lt ↦ same_number_above label (get_or labels k d) (beyond_rising label (get_or labels i d) (get_or labels k d) (h.1 i d (omega arith) (omega arith)) (rises_lt labels i k d up lt l))
        | inr le ↦ let same : k ≡ i = omega arith in
            rw same (same_number_differ label (get_or labels i d) (none (omega arith)))
      ]
    ])

pub absent_falling : (labels : List ℤ) (label : ℤ) (i : ℕ) (d : ℤ) → falls labels ≡ true → IsPartitionPoint (λ l. lt_z label l ≡ true) (λ l. lt_z label l ≡ false) labels i → (i < length labels → get_or labels i d ≡ label → ⊥) → index_where (same_number label) labels ≡ None
absent_falling labels label i d down h none =
    index_where_none (same_number label) labels d (λ k l. elim (cases_lt k i) [
      | inl lt ↦ same_number_above label (get_or labels k d) (lt_from _ _ (h.0 k d (omega arith) lt))
      | inr ge ↦ elim (cases_lt i k) [
        | inl lt ↦ same_number_below label (get_or labels k d) (beyond_falling label (get_or labels i d) (get_or labels k d) (h.1 i d (omega arith) (omega arith)) (falls_lt labels i k d down lt l))
        | inr le ↦ let same : k ≡ i = omega arith in
            rw same (same_number_differ label (get_or labels i d) (none (omega arith)))
      ]
    ])

-- two numbers of 64 bits with the same bits are the same
pub same_bits : (a b : ℤ) → FitsSigned w64 a → FitsSigned w64 b → of_z w64 a ≡ of_z w64 b → a ≡ b
same_bits a b fa fb e = sym (to_z-of_z w64 a fa) ∙ ap (to_z w64) e ∙ to_z-of_z w64 b fb
