-- The labels that a restriction keeps along t, y and x stand side by side among those of the cube.
use Rattle.std.proofs.Common.{◌≡◌, ℕ, zero, suc, ◌+◌, ◌<◌, ◌≤◌, Bool, true, false, ◌&&◌, List, [], ◌∷◌, length, get_or, filter, refl, sym, ap, ◌∙◌, arith, Option, Some, None, inl, inr, ℤ, pos, ◌<ℤ◌, true≢false}
use Rattle.std.specs.Prelude.{int_le}
use Rattle.std.specs.List.{slice_get}
use Rattle.std.specs.Option.{unwrap_or}
use Rattle.std.proofs.lemmas.Bool.{cases_Bool, false_from_ne_true}
use Rattle.std.proofs.lemmas.Int.{ints}
use Rattle.oe_dims.specs.Cube.{index_along}
use Rattle.oe_dims.specs.Dimensions.{extent, falls, rises}
use Rattle.oe_dims.specs.Indices.{same_number}
use Rattle.oe_dims.specs.Positions.{label_of}
use Rattle.oe_dims.proofs.IndexLemmas.{falls_lt, rises_lt}
use Rattle.oe_requests.specs.Extents.{has_begun, has_not_ended, is_across, is_in_time, is_up, kept_labels}
use Rattle.oe_requests.specs.Labels.{only_along}
use Rattle.oe_requests.specs.declared.extent.BoundingBox.{BoundingBox}
use Rattle.oe_requests.specs.declared.extent.TemporalExtent.{TemporalExtent}

-- ---- labels that pass a test

-- these labels stand side by side among others, from an index on
pub record IsRunAt {L : Type 0} (labels run : List L) (first : ℕ) : Type 0 where
  pub within : first + length run ≤ length labels
  pub each : (k : ℕ) → k < length run → slice_get labels (first + k) ≡ slice_get run k

-- what passes before a label that passes
abbrev PassFirst : (ℤ → Bool) → List ℤ → Type 0
PassFirst test labels = (i j : ℕ) → i < j → j < length labels → test (get_or labels j (pos 0)) ≡ true → test (get_or labels i (pos 0)) ≡ true

-- what stands between two labels that pass passes too
abbrev pub PassBetween : (ℤ → Bool) → List ℤ → Type 0
PassBetween test labels =
    (i j k : ℕ) → i < j → j < k → k < length labels → test (get_or labels i (pos 0)) ≡ true
    → test (get_or labels k (pos 0)) ≡ true → test (get_or labels j (pos 0)) ≡ true

none_pass : (test : ℤ → Bool) (labels : List ℤ) → ((k : ℕ) → k < length labels → test (get_or labels k (pos 0)) ≡ false) → filter test labels ≡ []
none_pass test [] fail = refl
none_pass test (x ∷ labels) fail =
    let here : test x ≡ false = fail 0 (omega arith) in
    let rest = none_pass test labels (λ k lt. fail (suc k) (omega arith)) in
    rw (here, rest) refl

empty_run : (labels : List ℤ) → IsRunAt labels [] 0
empty_run labels = record { within = omega arith; each = λ k lt. absurd (omega arith) }

-- a label before a run
longer_run : (x : ℤ) (labels run : List ℤ) → IsRunAt labels run 0 → IsRunAt (x ∷ labels) (x ∷ run) 0
longer_run x labels run h = record { within = (let w = h.within in omega arith); each = each }
  where
    each : (k : ℕ) → k < length (x ∷ run) → slice_get (x ∷ labels) (0 + k) ≡ slice_get (x ∷ run) k
    each zero lt = refl
    each (suc k) lt =
        let next : 0 + suc k ≡ suc (0 + k) = omega arith in
        ap (slice_get (x ∷ labels)) next ∙ h.each k (omega arith)

later_run : (x : ℤ) (labels run : List ℤ) (first : ℕ) → IsRunAt labels run first → IsRunAt (x ∷ labels) run (suc first)
later_run x labels run first h = record {
  within = (let w = h.within in omega arith);
  each = λ k lt.
      let next : suc first + k ≡ suc (first + k) = omega arith in
      ap (slice_get (x ∷ labels)) next ∙ h.each k lt;
}

first_run : (test : ℤ → Bool) (labels : List ℤ) → PassFirst test labels → IsRunAt labels (filter test labels) 0
first_run test [] h = empty_run []
first_run test (x ∷ labels) h = elim (cases_Bool (test x)) [
  | inl passes ↦
      let rest = first_run test labels (λ i j lt l p. h (suc i) (suc j) (omega arith) (omega arith) p) in
      rw passes (longer_run x labels (filter test labels) rest)
  | inr fails ↦
      let none = none_pass test labels (λ k lt. false_from_ne_true (test (get_or labels k (pos 0))) (λ p. true≢false (sym (h 0 (suc k) (omega arith) (omega arith) p) ∙ fails))) in
      rw (fails, none) (empty_run (x ∷ labels))
]

pub run_between : (test : ℤ → Bool) (labels : List ℤ) → PassBetween test labels → (first : ℕ) × IsRunAt labels (filter test labels) first
run_between test [] h = (0, empty_run [])
run_between test (x ∷ labels) h = elim (cases_Bool (test x)) [
  | inl passes ↦ (0, first_run test (x ∷ labels) (first passes))
  | inr fails ↦
      let rest = run_between test labels (λ i j k a b l p q. h (suc i) (suc j) (suc k) (omega arith) (omega arith) (omega arith) p q) in
      (suc rest.0, rw fails (later_run x labels (filter test labels) rest.0 rest.1))
]
  where
    first : test x ≡ true → PassFirst test (x ∷ labels)
    first passes zero j lt l p = passes
    first passes (suc i) j lt l p = h 0 (suc i) j (omega arith) lt l passes p

-- ---- extents

middle : (low high a b c : ℤ) → a <ℤ b → b <ℤ c → (int_le low a && int_le a high) ≡ true → (int_le low c && int_le c high) ≡ true → (int_le low b && int_le b high) ≡ true
middle low high a b c ab bc first last = grind (arith, ints)

pub across_between : (box : BoundingBox) (labels : List ℤ) → rises labels ≡ true → PassBetween (is_across box) labels
across_between box labels h i j k ij jk l first last =
    middle box.west box.east (get_or labels i (pos 0)) (get_or labels j (pos 0)) (get_or labels k (pos 0))
    (rises_lt labels i j (pos 0) h ij (omega arith)) (rises_lt labels j k (pos 0) h jk l) first last

pub up_between : (box : BoundingBox) (labels : List ℤ) → falls labels ≡ true → PassBetween (is_up box) labels
up_between box labels h i j k ij jk l first last =
    middle box.south box.north (get_or labels k (pos 0)) (get_or labels j (pos 0)) (get_or labels i (pos 0))
    (falls_lt labels j k (pos 0) h jk l) (falls_lt labels i j (pos 0) h ij (omega arith)) last first

begun_later : (e : TemporalExtent) (a b : ℤ) → a <ℤ b → has_begun e a ≡ true → has_begun e b ≡ true
begun_later e a b lt h = by e.start h
  where
    by : (start : Option ℤ) → has_begun (record e { start = start }) a ≡ true → has_begun (record e { start = start }) b ≡ true
    by None h = refl
    by (Some s) h = grind (arith, ints)

open_before : (e : TemporalExtent) (b c : ℤ) → b <ℤ c → has_not_ended e c ≡ true → has_not_ended e b ≡ true
open_before e b c lt h = by e.end h
  where
    by : (end : Option ℤ) → has_not_ended (record e { end = end }) c ≡ true → has_not_ended (record e { end = end }) b ≡ true
    by None h = refl
    by (Some s) h = grind (arith, ints)

both : (p q : Bool) → (p && q) ≡ true → (p ≡ true) × (q ≡ true)
both true true h = (refl, refl)
both true false h = absurd (true≢false (sym h))
both false q h = absurd (true≢false (sym h))

and_true : (p q : Bool) → p ≡ true → q ≡ true → (p && q) ≡ true
and_true p q one two = rw (one, two) refl

pub time_between : (e : TemporalExtent) (labels : List ℤ) → rises labels ≡ true → PassBetween (is_in_time e) labels
time_between e labels h i j k ij jk l first last =
    let a = get_or labels i (pos 0) in
    let b = get_or labels j (pos 0) in
    let c = get_or labels k (pos 0) in
    let begun = (both (has_begun e a) (has_not_ended e a) first).0 in
    let unended = (both (has_begun e c) (has_not_ended e c) last).1 in
    and_true (has_begun e b) (has_not_ended e b)
    (begun_later e a b (rises_lt labels i j (pos 0) h ij (omega arith)) begun)
    (open_before e b c (rises_lt labels j k (pos 0) h jk l) unended)

-- ---- along one dimension

-- the index among the labels of a cube of the label at an index of those that are kept
abbrev pub KeepsRun : {E : Type 0} → (E → ℤ → Bool) → Option E → Option (List ℤ) → ℕ → Type 0
KeepsRun is_inside e labels first =
    (i : ℕ) → i < extent (kept_labels is_inside e labels)
    → index_along same_number labels (only_along labels (label_of (kept_labels is_inside e labels) i)) ≡ Some (first + i)

pub keeps_run : {E : Type 0} (is_inside : E → ℤ → Bool) (e : Option E) (labels : Option (List ℤ))
    → ((x : E) → PassBetween (is_inside x) (unwrap_or labels []))
    → ((o : Option ℤ) (j : ℕ) → j < extent labels → label_of labels j ≡ o → index_along same_number labels o ≡ Some j)
    → (first : ℕ) × KeepsRun is_inside e labels first
keeps_run is_inside None None between found = (0, λ i lt. let first : 0 ≡ 0 + i = omega arith in ap Some first)
keeps_run is_inside (Some e) None between found = (0, λ i lt. let first : 0 ≡ 0 + i = omega arith in ap Some first)
keeps_run is_inside None (Some labels) between found = (
  0,
  λ i lt.
      let same : i ≡ 0 + i = omega arith in
      found (slice_get labels i) i lt refl ∙ ap Some same,
)
keeps_run is_inside (Some e) (Some labels) between found =
    let run = run_between (is_inside e) labels (between e) in (
      run.0,
      λ i lt.
          let within = run.1.within in
          found (slice_get (filter (is_inside e) labels) i) (run.0 + i) (omega arith) (run.1.each i lt),
    )
