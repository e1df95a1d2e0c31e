-- The fault counters of the parts, and their sum.
use Rattle.std.proofs.Common.{◌≡◌, ℕ, zero, suc, ◌<◌, ◌≤◌, ◌⊎◌, List, [], ◌∷◌, map, set, Some, subst, sym, arith, inl, inr}
use Rattle.std.specs.List.{slice_get, sum_by}
use Rattle.std.proofs.lemmas.Bool.{cases_lt}
use Rattle.std.proofs.lemmas.List.Sums.{sum_by-cons}
use Rattle.std.proofs.lemmas.Option.{same_Some}
use Rattle.oe_mosaic.specs.Mosaics.{fault_count, fault_counts}
use Rattle.oe_mosaic.specs.PartFaults.{NoneFalls, SomeRose}
use Rattle.oe_outside.specs.Faults.{NeverFalls, Rose, last_count}
use Rattle.oe_outside.proofs.Causes.{NeverFalls-refl}
use Rattle.oe_sources.specs.Source.{Source}

-- ---- counters over some calls

pub none_refl : (counts : List ℕ) → NoneFalls counts counts
none_refl [] = tt
none_refl (count ∷ counts) = (NeverFalls-refl count, none_refl counts)

-- ---- one counter

pub set_falls : {S : Type 0} (f : S → ℕ) (items : List S) (k : ℕ) (old new : S) → slice_get items k ≡ Some old → NeverFalls (f old) (f new)
    → NoneFalls (map f items) (map f (set items k new))
set_falls f [] k old new h falls = cc
set_falls f (item ∷ items) zero old new h falls =
    (subst (λ s. NeverFalls (f s) (f new)) (sym (same_Some item old h)) falls, none_refl (map f items))
set_falls f (item ∷ items) (suc k) old new h falls = (NeverFalls-refl (f item), set_falls f items k old new h falls)

pub set_rose : {S : Type 0} (f : S → ℕ) (items : List S) (k : ℕ) (old new : S) → slice_get items k ≡ Some old → Rose (f old) (f new)
    → SomeRose (map f items) (map f (set items k new))
set_rose f [] k old new h rose = cc
set_rose f (item ∷ items) zero old new h rose = inl (subst (λ s. Rose (f s) (f new)) (sym (same_Some item old h)) rose)
set_rose f (item ∷ items) (suc k) old new h rose = inr (set_rose f items k old new h rose)

-- ---- their sum

sum_falls : {S : Type 0} (f : S → ℕ) (before after : List S) → NoneFalls (map f before) (map f after) → sum_by f before ≤ sum_by f after
sum_falls f [] [] h = omega arith
sum_falls f [] (b ∷ after) h = absurd h
sum_falls f (a ∷ before) [] h = absurd h
sum_falls f (a ∷ before) (b ∷ after) h =
    let low = h.0.later in
    let rest = sum_falls f before after h.1 in
    omega (arith, sum_by-cons f a before, sum_by-cons f b after, low, rest)

sum_rose : {S : Type 0} (f : S → ℕ) (before after : List S) → NoneFalls (map f before) (map f after) → SomeRose (map f before) (map f after)
    → (sum_by f before < sum_by f after) ⊎ (last_count ≤ sum_by f after)
sum_rose f [] after h k = absurd k
sum_rose f (a ∷ before) [] h k = absurd k
sum_rose f (a ∷ before) (b ∷ after) h k =
    let one = sum_by-cons f a before in
    let two = sum_by-cons f b after in
    let low = h.0.later in
    elim k [
      | inl rose ↦ elim rose [
        | inl higher ↦ inl (omega (arith, one, two, higher, sum_falls f before after h.1))
        | inr last ↦ inr (omega (arith, two, last))
      ]
      | inr later ↦ elim (sum_rose f before after h.1 later) [
        | inl less ↦ inl (omega (arith, one, two, low, less))
        | inr last ↦ inr (omega (arith, two, last))
      ]
    ]

pub count_falls : {S : Type 0} (seen : S → Source) (before after : List S) → NoneFalls (fault_counts seen before) (fault_counts seen after)
    → NeverFalls (fault_count seen before) (fault_count seen after)
count_falls seen before after h =
    let less = sum_falls (λ s. (seen s).faults) before after h in
    record { later = omega (arith, less); bounded = λ _. omega arith }

pub count_rose : {S : Type 0} (seen : S → Source) (before after : List S) → NoneFalls (fault_counts seen before) (fault_counts seen after)
    → SomeRose (fault_counts seen before) (fault_counts seen after) → Rose (fault_count seen before) (fault_count seen after)
count_rose seen before after h k =
    elim (sum_rose (λ s. (seen s).faults) before after h k) [
      | inl less ↦ elim (cases_lt (sum_by (λ s. (seen s).faults) after) last_count) [
        | inl below ↦ inl (omega (arith, less, below))
        | inr above ↦ inr (omega (arith, above))
      ]
      | inr last ↦ inr (omega (arith, last))
    ]
