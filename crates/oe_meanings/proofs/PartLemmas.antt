-- The two counts that make the part of an extent, found by a search among labels that rise.
use Rattle.std.proofs.Common.{◌≡◌, ℕ, zero, suc, ◌<◌, ◌≤◌, Bool, true, false, not, List, [], ◌∷◌, length, get_or, filter, count_by, sym, ap, ◌∙◌, arith, Option, Some, None, inl, inr, ℤ, pos, true≢false, ◌<ℤ◌, refl}
use Rattle.std.specs.List.Sorted.{IsPartitionPoint, IsPartitionedBy}
use Rattle.std.proofs.lemmas.Bool.{cases_lt}
use Rattle.std.proofs.lemmas.Int.{ints}
use Rattle.std.proofs.lemmas.List.Sums.{length-filter}
use Rattle.oe_dims.proofs.IndexLemmas.{rises_lt}
use Rattle.oe_dims.specs.Dimensions.{rises}
use Rattle.oe_requests.specs.Extents.{has_begun, has_not_ended}
use Rattle.oe_requests.specs.declared.extent.TemporalExtent.{TemporalExtent}

-- a test that just the first elements pass keeps as many
kept : (test : ℤ → Bool) (labels : List ℤ) (i : ℕ) → i ≤ length labels
    → ((k : ℕ) → k < i → test (get_or labels k (pos 0)) ≡ true)
    → ((k : ℕ) → i ≤ k → k < length labels → test (get_or labels k (pos 0)) ≡ false)
    → length (filter test labels) ≡ i
kept test [] i le first after = omega arith
kept test (x ∷ labels) zero le first after =
    let x_fails : test x ≡ false = after 0 (omega arith) (omega arith) in
    let rest = kept test labels 0 (omega arith) (λ k lt. absurd (omega arith)) (λ k ge l. after (suc k) (omega arith) (omega arith)) in
    rw x_fails rest
kept test (x ∷ labels) (suc i) le first after =
    let x_passes : test x ≡ true = first 0 (omega arith) in
    let rest = kept test labels i (omega arith) (λ k lt. first (suc k) (omega arith)) (λ k ge l. after (suc k) (omega arith) (omega arith)) in
    rw x_passes (ap suc rest)

pub count_from_point : (test : ℤ → Bool) (labels : List ℤ) (i : ℕ) → i ≤ length labels
    → IsPartitionPoint (λ l. test l ≡ true) (λ l. test l ≡ false) labels i → i ≡ count_by test labels
count_from_point test labels i le h =
    sym (kept test labels i le (λ k lt. h.0 k (pos 0) (omega arith) lt) (λ k ge l. h.1 k (pos 0) ge l)) ∙ length-filter test labels

-- what is before the start or before the end of an extent stands first
before_start : (e : TemporalExtent) (x y : ℤ) → x <ℤ y → not (has_begun e y) ≡ true → not (has_begun e x) ≡ true
before_start e x y lt h = by e.start h
  where
    by : (start : Option ℤ) → not (has_begun (record e { start = start }) y) ≡ true → not (has_begun (record e { start = start }) x) ≡ true
    by None h = absurd (true≢false (sym h))
    by (Some s) h = grind (arith, ints)

before_end : (e : TemporalExtent) (x y : ℤ) → x <ℤ y → has_not_ended e y ≡ true → has_not_ended e x ≡ true
before_end e x y lt h = by e.end h
  where
    by : (end : Option ℤ) → has_not_ended (record e { end = end }) y ≡ true → has_not_ended (record e { end = end }) x ≡ true
    by None h = refl
    by (Some s) h = grind (arith, ints)

stand_first : (test : ℤ → Bool) → ((x y : ℤ) → x <ℤ y → test y ≡ true → test x ≡ true) → (labels : List ℤ) → rises labels ≡ true → IsPartitionedBy test labels
stand_first test earlier labels h i j d le l later =
    elim (cases_lt i j) [
      | inl lt ↦ earlier (get_or labels i d) (get_or labels j d) (rises_lt labels i j d h lt l) later
      | inr ge ↦ let same : i ≡ j = omega arith in rw same later
    ]

pub before_stand_first : (e : TemporalExtent) (labels : List ℤ) → rises labels ≡ true → IsPartitionedBy (λ l. not (has_begun e l)) labels
before_stand_first e labels h = stand_first (λ l. not (has_begun e l)) (before_start e) labels h

pub unended_stand_first : (e : TemporalExtent) (labels : List ℤ) → rises labels ≡ true → IsPartitionedBy (has_not_ended e) labels
unended_stand_first e labels h = stand_first (has_not_ended e) (before_end e) labels h
