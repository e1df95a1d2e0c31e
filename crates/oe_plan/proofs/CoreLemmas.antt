-- Along one dimension that no node needs whole: the labels of the result stand side by side among those of each node
-- that has the dimension, and what a chunk needs lies around them.
use Rattle.std.proofs.Common.{◌≡◌, ℕ, zero, suc, ◌+◌, ◌-◌, ◌*◌, ◌<◌, ◌≤◌, min, List, [], ◌∷◌, length, take, drop, get_or, refl, sym, ap, ◌∙◌, subst, arith, Option, Some, None, inl, inr, ℤ, pos}
use Rattle.std.specs.Bool.{⊤}
use Rattle.std.specs.List.{slice_get, slice_range, sum_by}
use Rattle.std.specs.Option.{unwrap_or}
use Rattle.std.proofs.lemmas.Bool.{cases_lt}
use Rattle.std.proofs.lemmas.List.{length-take-le, length-drop}
use Rattle.std.proofs.lemmas.List.Sums.{sum_by-cons}
use Rattle.std.proofs.lemmas.Option.{slice_get-get_or}
use Rattle.oe_dims.specs.Dimensions.{extent}
use Rattle.oe_dims.specs.Positions.{label_of}
use Rattle.oe_window.specs.Windows.{IsAlong, span_below, span_length}
use Rattle.oe_window.specs.declared.window.Span.{Span}
use Rattle.oe_requests.specs.Labels.{only_along}

-- ---- parts of a list

slice_get-drop : {L : Type 0} (xs : List L) (n i : ℕ) → slice_get (drop n xs) i ≡ slice_get xs (n + i)
slice_get-drop xs zero i = let same : 0 + i ≡ i = omega arith in rw same refl
slice_get-drop [] (suc n) i = refl
slice_get-drop (x ∷ xs) (suc n) i = let next : suc n + i ≡ suc (n + i) = omega arith in rw next (slice_get-drop xs n i)

slice_get-take : {L : Type 0} (xs : List L) (n i : ℕ) → i < n → slice_get (take n xs) i ≡ slice_get xs i
slice_get-take xs zero i h = absurd (omega arith)
slice_get-take [] (suc n) i h = refl
slice_get-take (x ∷ xs) (suc n) zero h = refl
slice_get-take (x ∷ xs) (suc n) (suc i) h = slice_get-take xs n i (omega arith)

past_end : {L : Type 0} (xs : List L) (i : ℕ) → length xs ≤ i → slice_get xs i ≡ None
past_end [] i h = refl
past_end (x ∷ xs) zero h = absurd (omega arith)
past_end (x ∷ xs) (suc i) h = past_end xs i (omega arith)

-- the labels are the part of others from an index to before an end
pub record IsPartOf (part all : List ℤ) : Type 0 where
  pub first : ℕ
  pub end : ℕ
  pub in_order : first ≤ end
  pub within : end ≤ length all
  pub is : part ≡ slice_range all first end

module _ (part all : List ℤ) (h : IsPartOf part all) where
  pub part_length : length part ≡ h.end - h.first
  part_length =
      let a = h.in_order in
      let b = h.within in
      ap length h.is ∙ length-take-le (h.end - h.first) (drop h.first all) (let l = length-drop h.first all in omega arith)

  pub part_get : (i : ℕ) → i < length part → slice_get part i ≡ slice_get all (h.first + i)
  part_get i below =
      let long = part_length in
      ap (λ xs. slice_get xs i) h.is
      ∙ (slice_get-take (drop h.first all) (h.end - h.first) i (omega arith) ∙ slice_get-drop all h.first i)

pub whole_part : (labels : List ℤ) → IsPartOf labels labels
whole_part labels = record {
  first = 0;
  end = length labels;
  in_order = omega arith;
  within = omega arith;
  is = take_all labels;
}
  where
    take_all : (xs : List ℤ) → xs ≡ slice_range xs 0 (length xs)
    take_all [] = refl
    take_all (x ∷ xs) =
        let none : suc (length xs) - 0 ≡ suc (length xs) = omega arith in
        let less : length xs - 0 ≡ length xs = omega arith in
        rw none (ap (λ ys. x ∷ ys) (rw less at (take_all xs)))

-- ---- the labels of a node and of its argument

-- those of the node are a part of those of its argument; nothing is said where the argument lacks the dimension
abbrev pub Follows : Option (List ℤ) → Option (List ℤ) → Type 0
Follows labels None = ⊤
Follows None (Some all) = ⊥
Follows (Some part) (Some all) = IsPartOf part all

pub follows_same : (labels : Option (List ℤ)) → Follows labels labels
follows_same None = tt
follows_same (Some labels) = whole_part labels

-- no label stands at two indices
abbrev pub Differ : Option (List ℤ) → Type 0
Differ None = ⊤
Differ (Some labels) = (i j : ℕ) (l : ℤ) → slice_get labels i ≡ Some l → slice_get labels j ≡ Some l → i ≡ j

-- the index q of the argument is at most so far from that of the label at the index p of the node
pub record IsAround (radius : ℕ) (part all : List ℤ) (p q : ℕ) : Type 0 where
  pub part_of : IsPartOf part all
  pub below : q < length all
  pub low : part_of.first + p ≤ q + radius
  pub high : q ≤ part_of.first + p + radius

-- so it may be needed for p
abbrev pub IsAsked : ℕ → Option (List ℤ) → Option (List ℤ) → ℕ → ℕ → Type 0
IsAsked radius labels None p q = q < 1
IsAsked radius None (Some all) p q = ⊥
IsAsked radius (Some part) (Some all) p q = IsAround radius part all p q

-- by the same label
pub asked_label : (labels argument : Option (List ℤ)) (p q : ℕ) → Follows labels argument → Differ argument
    → q < extent argument → label_of argument q ≡ only_along argument (label_of labels p) → IsAsked 0 labels argument p q
asked_label labels None p q follows differ below same = omega arith
asked_label None (Some all) p q follows differ below same = absurd follows
asked_label (Some part) (Some all) p q follows differ below same =
    elim (cases_lt p (length part)) [
      | inl inside ↦
          let l = get_or all q (pos 0) in
          let at : slice_get all q ≡ Some l = slice_get-get_or all q (pos 0) below in
          let one : q ≡ follows.first + p = differ q (follows.first + p) l at (sym (part_get part all follows p inside) ∙ (sym same ∙ at)) in
          record { part_of = follows; below = below; low = omega arith; high = omega arith }
      | inr past ↦
          let none : Some (get_or all q (pos 0)) ≡ None = sym (slice_get-get_or all q (pos 0) below) ∙ (same ∙ past_end part p past) in
          cc
    ]

-- by a radius, of the same labels
pub asked_near : (radius : ℕ) (labels argument : Option (List ℤ)) (p q : ℕ) → labels ≡ argument → q < extent argument
    → p ≤ q + radius → q ≤ p + radius → IsAsked radius labels argument p q
unfolding whole_part
asked_near radius labels None p q same below low high = below
asked_near radius None (Some all) p q same below low high = absurd cc
asked_near radius (Some part) (Some all) p q same below low high =
    let is : part ≡ all = cc in
    subst (λ xs. IsAsked radius (Some xs) (Some all) p q) (sym is) (record { part_of = whole_part all; below = below; low = omega arith; high = omega arith })

pub asked_wider : (few radius : ℕ) (labels argument : Option (List ℤ)) (p q : ℕ) → few ≤ radius
    → IsAsked few labels argument p q → IsAsked radius labels argument p q
asked_wider few radius labels None p q wide h = h
asked_wider few radius None (Some all) p q wide h = h
asked_wider few radius (Some part) (Some all) p q wide h =
    let low = h.low in
    let high = h.high in
    record { part_of = h.part_of; below = h.below; low = omega arith; high = omega arith }

-- ---- the labels of the result stand side by side

pub record IsRunAt (labels result : List ℤ) (index : ℕ) : Type 0 where
  pub some : 0 < length result
  pub within : index + length result ≤ length labels
  pub each : (k : ℕ) → k < length result → slice_get labels (index + k) ≡ slice_get result k

run_whole : (labels : List ℤ) → 0 < length labels → IsRunAt labels labels 0
run_whole labels some = record { some = some; within = omega arith; each = λ k h. ap (slice_get labels) (let e : 0 + k ≡ k = omega arith in e) }

run_part : (part all result : List ℤ) (index : ℕ) (h : IsPartOf part all) → IsRunAt part result index → IsRunAt all result (h.first + index)
run_part part all result index h r =
    let long = part_length part all h in
    let a = h.in_order in
    let b = h.within in
    let short = r.within in
    record {
      some = r.some;
      within = omega arith;
      each = λ k below.
          let e : h.first + index + k ≡ h.first + (index + k) = omega arith in
          ap (slice_get all) e ∙ (sym (part_get part all h (index + k) (omega arith)) ∙ r.each k below);
    }

run_once : (labels result : List ℤ) (a b : ℕ) → Differ (Some labels) → IsRunAt labels result a → IsRunAt labels result b → a ≡ b
run_once labels result a b differ ra rb =
    let l = get_or result 0 (pos 0) in
    let there : slice_get result 0 ≡ Some l = slice_get-get_or result 0 (pos 0) ra.some in
    let e : a + 0 ≡ b + 0 = differ (a + 0) (b + 0) l (ra.each 0 ra.some ∙ there) (rb.each 0 ra.some ∙ there) in
    omega arith

-- a node that has the dimension has the run
abbrev pub HasRun : Option (List ℤ) → List ℤ → Type 0
HasRun None result = ⊤
HasRun (Some labels) result = (index : ℕ) × IsRunAt labels result index

pub run_passes : (labels argument : Option (List ℤ)) (result : List ℤ) → Follows labels argument → HasRun labels result → HasRun argument result
run_passes labels None result follows run = tt
run_passes None (Some all) result follows run = absurd follows
run_passes (Some part) (Some all) result follows run = (follows.first + run.0, run_part part all result run.0 follows run.1)

pub run_of_result : (labels : Option (List ℤ)) → 0 < extent labels → HasRun labels (unwrap_or labels [])
run_of_result None some = tt
run_of_result (Some labels) some = (0, run_whole labels some)

-- ---- the core of a node: where the chunk's labels stand, and so many indices around them

abbrev pub core_of : (labels : Option (List ℤ)) (result : List ℤ) → HasRun labels result → Span → ℕ → Span
core_of None result run chunk around = span_below 1
core_of (Some labels) result run chunk around =
    record { from = run.0 + chunk.from - around; to = min (length labels) (run.0 + chunk.to + around) }

-- what is needed for an index of a node's core lies in the argument's, which is as much wider as the node reaches
pub core_asked : (radius : ℕ) (labels argument : Option (List ℤ)) (result : List ℤ) (run : HasRun labels result) (below : HasRun argument result) (chunk : Span) (around wider p q : ℕ)
    → Differ argument → around + radius ≤ wider → IsAlong (core_of labels result run chunk around) p → IsAsked radius labels argument p q
    → IsAlong (core_of argument result below chunk wider) q
core_asked radius labels None result run below chunk around wider p q differ more inside asked = record { begun = omega arith; before = omega arith }
core_asked radius None (Some all) result run below chunk around wider p q differ more inside asked = absurd asked
core_asked radius (Some part) (Some all) result run below chunk around wider p q differ more inside asked =
    let part_of = asked.part_of in
    let one : below.0 ≡ part_of.first + run.0 =
    run_once all result below.0 (part_of.first + run.0) differ below.1 (run_part part all result run.0 part_of run.1) in
    let on_side = asked.below in
    let near = asked.low in
    let far = asked.high in
    let low = inside.begun in
    let high = inside.before in
    record { begun = omega arith; before = omega arith }

-- that of the result has the chunk
pub core_chunk : (labels : Option (List ℤ)) (run : HasRun labels (unwrap_or labels [])) (chunk : Span) (around p : ℕ) → Differ labels
    → chunk.to ≤ extent labels → IsAlong chunk p → IsAlong (core_of labels (unwrap_or labels []) run chunk around) p
core_chunk None run chunk around p differ within inside = let low = inside.begun in let high = inside.before in record { begun = omega arith; before = omega arith }
core_chunk (Some labels) run chunk around p differ within inside =
    let low = inside.begun in
    let high = inside.before in
    let one : run.0 ≡ 0 = run_once labels labels run.0 0 differ run.1 (run_whole labels (omega arith)) in
    record { begun = omega arith; before = omega arith }

-- and it is short
pub core_short : (labels : Option (List ℤ)) (result : List ℤ) (run : HasRun labels result) (chunk : Span) (around most side all : ℕ)
    → extent labels ≤ most → 1 ≤ most → chunk.from < chunk.to → span_length chunk ≤ side → around ≤ all
    → span_length (core_of labels result run chunk around) ≤ min most (side + 2 * all)
core_short None result run chunk around most side all long one some short less = omega arith
core_short (Some labels) result run chunk around most side all long one some short less = omega arith

-- ---- the reach of later steps

-- the sum over the steps behind one
abbrev pub later : (ℕ → ℕ) → List ℕ → ℕ → ℕ
later f [] step = 0
later f (n ∷ steps) zero = sum_by f steps
later f (n ∷ steps) (suc step) = later f steps step

pub later_all : (f : ℕ → ℕ) (steps : List ℕ) (step : ℕ) → step < length steps → later f steps step + f (get_or steps step 0) ≤ sum_by f steps
later_all f [] step below = absurd (omega arith)
later_all f (n ∷ steps) zero below = let e = sum_by-cons f n steps in omega arith
later_all f (n ∷ steps) (suc step) below =
    let rest = later_all f steps step (omega arith) in
    let e = sum_by-cons f n steps in
    omega arith

pub later_more : (f : ℕ → ℕ) (steps : List ℕ) (early late : ℕ) → early < late → late < length steps
    → later f steps late + f (get_or steps late 0) ≤ later f steps early
later_more f [] early late before below = absurd (omega arith)
later_more f (n ∷ steps) early zero before below = absurd (omega arith)
later_more f (n ∷ steps) zero (suc late) before below = later_all f steps late (omega arith)
later_more f (n ∷ steps) (suc early) (suc late) before below = later_more f steps early late (omega arith) (omega arith)
