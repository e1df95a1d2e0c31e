-- The index of a label in a part of a dimension's labels, by its index among them all.
use Rattle.std.proofs.Common.{◌≡◌, ◌≢◌, ℕ, zero, suc, ◌+◌, ◌-◌, ◌<◌, ◌≤◌, ◌∷◌, [], List, Bool, true, false, cond, if◌then◌else◌, Option, Some, None, refl, sym, ap, ◌∙◌, subst, length, drop, get_or, length-drop, arith, inl, inr, ltb, nat_lt, ℤ, option_map}
use Rattle.std.specs.List.{AllPairs, slice_range, slice_index_or}
use Rattle.std.specs.Option.{option_and_then}
use Rattle.std.proofs.lemmas.Bool.{cases_Bool}
use Rattle.std.proofs.lemmas.Bool.Decides.{Decides-ltb, nat_tests}
use Rattle.std.proofs.lemmas.List.{get_or-take, get_or-drop, get_or_past, length-take-le}
use Rattle.std.proofs.lemmas.Option.{get_or_from_slice_get}
use Rattle.oe_cell.specs.declared.cell.Cell.{Cell}
use Rattle.oe_cell.specs.declared.cell.Cell.TheVariants.{Empty}
use Rattle.oe_dims.specs.Indices.{same_number, index_where}
use Rattle.oe_dims.specs.Instant.{instant_read}
use Rattle.oe_dims.specs.Names.{same_name}
use Rattle.oe_dims.specs.Plain.{PlainLabels, plain_instants, plain_names, plain_coordinates}
use Rattle.oe_dims.proofs.IndexLemmas.{index_where_found, index_where_none, index_where_passes, index_where_within, same_number_is}
use Rattle.oe_dims.proofs.OrderLemmas.{same_name_is}
use Rattle.oe_expr.specs.Scope.{Label, text, whole, label_index, count_labels, labels_in, read_or_none, AreDistinct, LiesWithin}
use Rattle.oe_expr.specs.Value.{element_of}
use Rattle.oe_expr.specs.declared.scope.ListPart.{ListPart}

-- ---- an index lies within the labels

within_read : (labels : List ℤ) (read : Option ℤ) (k : ℕ) → option_and_then (λ (seconds : ℤ). index_where (same_number seconds) labels) read ≡ Some k → k < length labels
within_read labels None k e = absurd cc
within_read labels (Some seconds) k e = index_where_within (same_number seconds) labels k e

pub label_within : (labels : PlainLabels) (label : Label) (k : ℕ) → label_index labels label ≡ Some k → k < count_labels labels
label_within (plain_instants labels) (text spelling) k e = within_read labels (read_or_none (instant_read spelling)) k e
label_within (plain_names labels) (text name) k e = index_where_within (same_name name) labels k e
label_within (plain_coordinates labels) (whole z) k e = index_where_within (same_number z) labels k e
label_within (plain_instants labels) (whole z) k e = absurd cc
label_within (plain_names labels) (whole z) k e = absurd cc
label_within (plain_coordinates labels) (text spelling) k e = absurd cc

-- ---- a part

-- the element of an index among all labels
abbrev pub found_element : List Cell → ℕ → Option ℕ → Cell
found_element cells from None = Empty
found_element cells from (Some k) = if nat_lt k from then Empty else slice_index_or cells (k - from) Empty

module _ {L : Type 0} (test : L → Bool) where
  -- where there is no index, no label passes
  fails_at : (labels : List L) → index_where test labels ≡ None → (k : ℕ) (d : L) → k < length labels → test (get_or labels k d) ≡ false
  fails_at [] none k d h = absurd (omega arith)
  fails_at (label ∷ labels) none k d h = by (test label) refl none (index_where test labels) refl (fails_at labels) k h
    where
      by : (b : Bool) → test label ≡ b → cond b (Some 0) (option_map (λ n. n + 1) (index_where test labels)) ≡ None
          → (rest : Option ℕ) → index_where test labels ≡ rest
          → (index_where test labels ≡ None → (j : ℕ) (e : L) → j < length labels → test (get_or labels j e) ≡ false)
          → (k : ℕ) → k < length (label ∷ labels) → test (get_or (label ∷ labels) k d) ≡ false
      by true t none rest is below k h = absurd cc
      by false f none (Some n) is below k h = absurd (let shown : option_map (λ (m : ℕ). m + 1) (Some n) ≡ None = ap (option_map (λ (m : ℕ). m + 1)) (sym is) ∙ none in cc)
      by false f none None is below zero h = f
      by false f none None is below (suc k) h = below is k d (omega arith)

  module _ (labels : List L) (unique : (i j : ℕ) (d : L) → i < j → j < length labels → test (get_or labels i d) ≡ true → test (get_or labels j d) ≡ true → ⊥)
      (from to : ℕ) (rises : from ≤ to) (ends : to ≤ length labels) (cells : List Cell) (as_many : length cells ≡ to - from) where
    part_at : (j : ℕ) (d : L) → j < to - from → get_or (slice_range labels from to) j d ≡ get_or labels (from + j) d
    part_at j d h = get_or-take (to - from) (drop from labels) j d h ∙ get_or-drop from labels j d

    part_long : length (slice_range labels from to) ≡ to - from
    part_long =
        let long : length (drop from labels) ≡ length labels - from = length-drop from labels in
        length-take-le (to - from) (drop from labels) (omega arith)

    not_other : (k : ℕ) (d : L) → k < length labels → test (get_or labels k d) ≡ true → (i : ℕ) → i < length labels → i ≢ k → test (get_or labels i d) ≡ false
    not_other k d h passes i within other = by (test (get_or labels i d)) refl
      where
        by : (b : Bool) → test (get_or labels i d) ≡ b → b ≡ false
        by false f = refl
        by true t = elim (cases_Bool (ltb i k)) [
          | inl e ↦ absurd (unique i k d ((Decides-ltb i k).0 e) h t passes)
          | inr e ↦ let after : k < i = grind (arith, nat_tests) in absurd (unique k i d after within passes t)
        ]

    none_there : (label : L) → ((i : ℕ) → i < to - from → test (get_or labels (from + i) label) ≡ false) → index_where test (slice_range labels from to) ≡ None
    none_there label fails =
        index_where_none test (slice_range labels from to) label
        (λ i h. let within : i < to - from = subst (λ n. i < n) part_long h in ap test (part_at i label within) ∙ fails i within)

    none_in : index_where test labels ≡ None → index_where test (slice_range labels from to) ≡ None
    none_in none = by labels refl
      where
        by : (ls : List L) → labels ≡ ls → index_where test (slice_range labels from to) ≡ None
        by (label ∷ rest) e = none_there label (λ i h. fails_at labels none (from + i) label (omega arith))
        by [] e =
            let empty : length labels ≡ 0 = ap length e in
            index_where_nothing (slice_range labels from to) (let long = part_long in omega arith)
          where
            index_where_nothing : (ls : List L) → length ls ≡ 0 → index_where test ls ≡ None
            index_where_nothing [] h = refl
            index_where_nothing (l ∷ ls) h = absurd (omega arith)

    pub part_element : element_of cells (index_where test (slice_range labels from to)) ≡ found_element cells from (index_where test labels)
    part_element = by (index_where test labels) refl
      where
        by : (found : Option ℕ) → index_where test labels ≡ found → element_of cells (index_where test (slice_range labels from to)) ≡ found_element cells from found
        by None e = ap (element_of cells) (none_in e)
        by (Some k) e =
            let there = index_where_passes test labels k e in
            let label : L = there.0 in
            let within : k < length labels = there.3 in
            let passes : test (get_or labels k label) ≡ true = ap test (get_or_from_slice_get labels k label label there.1) ∙ there.2 in
            elim (cases_Bool (ltb k from)) [
              | inl before ↦
                  let is_before : k < from = (Decides-ltb k from).0 before in
                  let none : index_where test (slice_range labels from to) ≡ None =
                  none_there label (λ i h. not_other k label within passes (from + i) (omega arith) (omega arith)) in
                  rw (none, before) refl
              | inr not_before ↦
                  let from_on : from ≤ k = grind (arith, nat_tests) in
                  elim (cases_Bool (ltb k to)) [
                    | inl inside ↦
                        let is_inside : k < to = (Decides-ltb k to).0 inside in
                        let at : from + (k - from) ≡ k = omega arith in
                        let here : k - from < to - from = omega arith in
                        let found : index_where test (slice_range labels from to) ≡ Some (k - from) =
                        index_where_found test (slice_range labels from to) (k - from) label (let long = part_long in omega arith)
                        (λ i h. let in_part : i < to - from = omega arith in ap test (part_at i label in_part) ∙ not_other k label within passes (from + i) (omega arith) (omega arith))
                        (ap test (part_at (k - from) label here ∙ ap (λ n. get_or labels n label) at) ∙ passes) in
                        rw (found, not_before) refl
                    | inr not_inside ↦
                        let past : to ≤ k = grind (arith, nat_tests) in
                        let none : index_where test (slice_range labels from to) ≡ None =
                        none_there label (λ i h. not_other k label within passes (from + i) (omega arith) (omega arith)) in
                        rw (none, not_before) (sym (get_or_past cells (k - from) Empty (omega arith)))
                  ]
            ]

-- ---- labels of a scope

number_unique : (z : ℤ) (labels : List ℤ) → AllPairs (λ a b. a ≢ b) labels → (i j : ℕ) (d : ℤ) → i < j → j < length labels
    → same_number z (get_or labels i d) ≡ true → same_number z (get_or labels j d) ≡ true → ⊥
number_unique z labels distinct i j d h within a b = distinct i j d h within (same_number_is z (get_or labels i d) a ∙ sym (same_number_is z (get_or labels j d) b))

name_unique : (name : List ℕ) (labels : List (List ℕ)) → AllPairs (λ a b. a ≢ b) labels → (i j : ℕ) (d : List ℕ) → i < j → j < length labels
    → same_name name (get_or labels i d) ≡ true → same_name name (get_or labels j d) ≡ true → ⊥
name_unique name labels distinct i j d h within a b = distinct i j d h within (same_name_is name (get_or labels i d) a ∙ sym (same_name_is name (get_or labels j d) b))

module _ (part : ListPart) (cells : List Cell) (as_many : length cells ≡ part.to - part.from) where
  number_element : (z : ℤ) (labels : List ℤ) → AllPairs (λ a b. a ≢ b) labels → LiesWithin (length labels) part
      → element_of cells (index_where (same_number z) (slice_range labels part.from part.to)) ≡ found_element cells part.from (index_where (same_number z) labels)
  number_element z labels distinct lies = part_element (same_number z) labels (number_unique z labels distinct) part.from part.to lies.rises lies.ends cells as_many

  read_element : (labels : List ℤ) → AllPairs (λ a b. a ≢ b) labels → LiesWithin (length labels) part → (read : Option ℤ)
      → element_of cells (option_and_then (λ (z : ℤ). index_where (same_number z) (slice_range labels part.from part.to)) read)
      ≡ found_element cells part.from (option_and_then (λ (z : ℤ). index_where (same_number z) labels) read)
  read_element labels distinct lies None = refl
  read_element labels distinct lies (Some z) = number_element z labels distinct lies

  pub label_element : (labels : PlainLabels) (label : Label) → AreDistinct labels → LiesWithin (count_labels labels) part
      → element_of cells (label_index (labels_in labels part) label) ≡ found_element cells part.from (label_index labels label)
  label_element (plain_instants labels) (text spelling) distinct lies = read_element labels distinct lies (read_or_none (instant_read spelling))
  label_element (plain_names labels) (text name) distinct lies =
      part_element (same_name name) labels (name_unique name labels distinct) part.from part.to lies.rises lies.ends cells as_many
  label_element (plain_coordinates labels) (whole z) distinct lies = number_element z labels distinct lies
  label_element (plain_instants labels) (whole z) distinct lies = refl
  label_element (plain_names labels) (whole z) distinct lies = refl
  label_element (plain_coordinates labels) (text spelling) distinct lies = refl

pub count_in : (labels : PlainLabels) (part : ListPart) → LiesWithin (count_labels labels) part → count_labels (labels_in labels part) ≡ part.to - part.from
count_in (plain_instants labels) part lies = let long : length (drop part.from labels) ≡ length labels - part.from = length-drop part.from labels in let rises = lies.rises in let ends = lies.ends in length-take-le (part.to - part.from) (drop part.from labels) (omega arith)
count_in (plain_names labels) part lies = let long : length (drop part.from labels) ≡ length labels - part.from = length-drop part.from labels in let rises = lies.rises in let ends = lies.ends in length-take-le (part.to - part.from) (drop part.from labels) (omega arith)
count_in (plain_coordinates labels) part lies = let long : length (drop part.from labels) ≡ length labels - part.from = length-drop part.from labels in let rises = lies.rises in let ends = lies.ends in length-take-le (part.to - part.from) (drop part.from labels) (omega arith)
