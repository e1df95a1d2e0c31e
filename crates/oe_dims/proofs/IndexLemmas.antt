-- Labels in order, and where they stand.
use Rattle.std.proofs.Common.{◌≡◌, ℕ, zero, suc, ◌+◌, ◌<◌, Bool, true, false, List, [], ◌∷◌, length, get_or, count_by, refl, arith, Option, Some, None, ℤ, ◌<ℤ◌, inl, inr}
use Rattle.std.specs.Int.Signed.{lt_z}
use Rattle.std.specs.List.{slice_get}
use Rattle.std.specs.Option.{option_map}
use Rattle.std.proofs.lemmas.Int.{ints}
use Rattle.std.proofs.lemmas.Bool.{and_parts, cases_Bool}
use Rattle.std.proofs.lemmas.Option.{same_Some}
use Rattle.oe_dims.specs.Dimensions.{rises, falls}
use Rattle.oe_dims.specs.Indices.{same_number, index_where, count_before}
use Rattle.oe_dims.specs.declared.kind.Kind.{Kind}
use Rattle.oe_dims.specs.declared.kind.Kind.TheVariants.{Time, Bands, Y, X}

pub lt_from : (a b : ℤ) → lt_z a b ≡ true → a <ℤ b
lt_from a b h = grind (arith, ints)

pub from_lt : (a b : ℤ) → a <ℤ b → lt_z a b ≡ true
from_lt a b h = grind (arith, ints)

pub lt_z_asym : (a b : ℤ) → a <ℤ b → lt_z b a ≡ false
lt_z_asym a b h = grind (arith, ints)

lt_z-trans : (a b c : ℤ) → a <ℤ b → b <ℤ c → a <ℤ c
lt_z-trans a b c h k = omega (arith, ints)

rises_tail : (a : ℤ) (labels : List ℤ) → rises (a ∷ labels) ≡ true → rises labels ≡ true
rises_tail a [] h = refl
rises_tail a (b ∷ labels) h = (and_parts (lt_z a b) (rises (b ∷ labels)) h).1

rises_head : (a : ℤ) (labels : List ℤ) (k : ℕ) (d : ℤ) → rises (a ∷ labels) ≡ true → k < length labels → a <ℤ get_or labels k d
rises_head a [] k d h l = absurd (omega arith)
rises_head a (b ∷ labels) zero d h l = lt_from a b (and_parts (lt_z a b) (rises (b ∷ labels)) h).0
rises_head a (b ∷ labels) (suc k) d h l =
    lt_z-trans a b (get_or labels k d) (lt_from a b (and_parts (lt_z a b) (rises (b ∷ labels)) h).0)
    (rises_head b labels k d (and_parts (lt_z a b) (rises (b ∷ labels)) h).1 (omega arith))

-- of two indices the later one has the greater label
pub rises_lt : (labels : List ℤ) (i j : ℕ) (d : ℤ) → rises labels ≡ true → i < j → j < length labels → get_or labels i d <ℤ get_or labels j d
rises_lt [] i j d h lt l = absurd (omega arith)
rises_lt (a ∷ labels) i zero d h lt l = absurd (omega arith)
rises_lt (a ∷ labels) zero (suc j) d h lt l = rises_head a labels j d h (omega arith)
rises_lt (a ∷ labels) (suc i) (suc j) d h lt l = rises_lt labels i j d (rises_tail a labels h) (omega arith) (omega arith)

falls_tail : (a : ℤ) (labels : List ℤ) → falls (a ∷ labels) ≡ true → falls labels ≡ true
falls_tail a [] h = refl
falls_tail a (b ∷ labels) h = (and_parts (lt_z b a) (falls (b ∷ labels)) h).1

falls_head : (a : ℤ) (labels : List ℤ) (k : ℕ) (d : ℤ) → falls (a ∷ labels) ≡ true → k < length labels → get_or labels k d <ℤ a
falls_head a [] k d h l = absurd (omega arith)
falls_head a (b ∷ labels) zero d h l = lt_from b a (and_parts (lt_z b a) (falls (b ∷ labels)) h).0
falls_head a (b ∷ labels) (suc k) d h l =
    lt_z-trans (get_or labels k d) b a (falls_head b labels k d (and_parts (lt_z b a) (falls (b ∷ labels)) h).1 (omega arith))
    (lt_from b a (and_parts (lt_z b a) (falls (b ∷ labels)) h).0)

-- of two indices the later one has the smaller label
pub falls_lt : (labels : List ℤ) (i j : ℕ) (d : ℤ) → falls labels ≡ true → i < j → j < length labels → get_or labels j d <ℤ get_or labels i d
falls_lt [] i j d h lt l = absurd (omega arith)
falls_lt (a ∷ labels) i zero d h lt l = absurd (omega arith)
falls_lt (a ∷ labels) zero (suc j) d h lt l = falls_head a labels j d h (omega arith)
falls_lt (a ∷ labels) (suc i) (suc j) d h lt l = falls_lt labels i j d (falls_tail a labels h) (omega arith) (omega arith)

-- the first index that passes
pub index_where_found : {L : Type 0} (test : L → Bool) (labels : List L) (i : ℕ) (d : L) → i < length labels → ((k : ℕ) → k < i → test (get_or labels k d) ≡ false) → test (get_or labels i d) ≡ true → index_where test labels ≡ Some i
index_where_found test [] i d l before here = absurd (omega arith)
index_where_found test (a ∷ labels) zero d l before here = rw here
index_where_found test (a ∷ labels) (suc i) d l before here =
    let first : test a ≡ false = before 0 (omega arith) in
    let next = index_where_found test labels i d (omega arith) (λ k h. before (suc k) (omega arith)) here in
    let more : i + 1 ≡ suc i = omega arith in
    rw (first, next, more) refl

pub index_where_none : {L : Type 0} (test : L → Bool) (labels : List L) (d : L) → ((k : ℕ) → k < length labels → test (get_or labels k d) ≡ false) → index_where test labels ≡ None
index_where_none test [] d none = refl
index_where_none test (a ∷ labels) d none =
    let first : test a ≡ false = none 0 (omega arith) in
    let next = index_where_none test labels d (λ k h. none (suc k) (omega arith)) in
    rw (first, next) refl

-- the same number, and not
pub same_number_refl : (a : ℤ) → same_number a a ≡ true
same_number_refl a = grind (arith, ints)

pub same_number_below : (a b : ℤ) → b <ℤ a → same_number a b ≡ false
same_number_below a b h = grind (arith, ints)

pub same_number_above : (a b : ℤ) → a <ℤ b → same_number a b ≡ false
same_number_above a b h = grind (arith, ints)

pub later_index : (index : Option ℕ) (p : ℕ) → option_map (λ n. n + 1) index ≡ Some p → (n : ℕ) × (index ≡ Some n) × (p ≡ suc n)
later_index None p e = cc
later_index (Some n) p e = let same : n + 1 ≡ p = cc in (n, refl, omega arith)

-- what is at the index that is found
pub index_where_passes : {L : Type 0} (test : L → Bool) (labels : List L) (p : ℕ) → index_where test labels ≡ Some p → (label : L) × (slice_get labels p ≡ Some label) × (test label ≡ true) × (p < length labels)
index_where_passes test [] p e = cc
index_where_passes test (a ∷ labels) p e =
    elim (cases_Bool (test a)) [
      | inl t ↦ let same : 0 ≡ p = same_Some _ _ (rw t at e) in rw (← same) (a, refl, t, omega arith)
      | inr f ↦ let later = later_index (index_where test labels) p (rw f at e) in
          let rest = index_where_passes test labels later.0 later.1 in
          rw later.2 (rest.0, rest.1, rest.2, omega (arith, rest.3))
    ]

pub index_where_within : {L : Type 0} (test : L → Bool) (labels : List L) (p : ℕ) → index_where test labels ≡ Some p → p < length labels
index_where_within test labels p e = (index_where_passes test labels p e).3

pub same_number_is : (a b : ℤ) → same_number a b ≡ true → b ≡ a
same_number_is a b h = grind (arith, ints)

-- all labels but those of y stand before an extent where they are below it
pub count_before_rising : (kind : Kind) (from to : ℤ) (labels : List ℤ) → (kind ≡ Y → ⊥) → count_before kind from to labels ≡ count_by (λ l. lt_z l from) labels
count_before_rising Time from to labels other = refl
count_before_rising Bands from to labels other = refl
count_before_rising Y from to labels other = absurd (other refl)
count_before_rising X from to labels other = refl
