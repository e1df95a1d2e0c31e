-- Labels that stand in order stand in the same order in an argument, so that the first and the last of a span are
-- enough to find those between.
use Rattle.std.proofs.Common.{◌≡◌, ℕ, ◌+◌, ◌-◌, ◌<◌, ◌≤◌, false, List, [], length, get_or, refl, sym, ap, ◌∙◌, subst, arith, inl, inr, Option, Some, None, ℤ, pos, ◌<ℤ◌}
use Rattle.std.specs.List.{slice_get}
use Rattle.std.specs.Option.{unwrap_or}
use Rattle.std.proofs.lemmas.Bool.{cases_eq, cases_lt}
use Rattle.std.proofs.lemmas.Int.{ints}
use Rattle.std.proofs.lemmas.Option.{same_Some, slice_get-get_or}
use Rattle.oe_dims.specs.Dimensions.{Dimensions, IsShape}
use Rattle.oe_dims.specs.Indices.{same_number}
use Rattle.oe_dims.specs.declared.kind.Kind.{Kind}
use Rattle.oe_dims.specs.declared.kind.Kind.TheVariants.{Time, Bands, Y, X}
use Rattle.oe_dims.proofs.IndexLemmas.{same_number_is}
use Rattle.oe_dims.proofs.ReaderLemmas.{IsInOrder-shape}
use Rattle.oe_window.specs.declared.window.Span.{Span}
use Rattle.oe_check.specs.Reach.{same_kind}
use Rattle.oe_ops.specs.Indices.{index_in_argument, index_under}
use Rattle.oe_ops.specs.Spans.{IsLabelAt, IsSpanOf}
use Rattle.oe_ops.proofs.FoundLemmas.{found_label}

-- any two labels stand so
abbrev IsOrdered : (ℤ → ℤ → Type 0) → List ℤ → Type 0
IsOrdered Before labels =
    (i j : ℕ) (a b : ℤ) → i < j → slice_get labels i ≡ Some a → slice_get labels j ≡ Some b → Before a b

module _ (Before : ℤ → ℤ → Type 0) (one_way : (a b : ℤ) → Before a b → Before b a → ⊥) where
  -- of two labels that are found, the later one is not found before the other
  found_in_order : (labels others : List ℤ) → IsOrdered Before labels → IsOrdered Before others → (i k j l : ℕ) → i ≤ k
      → slice_get others j ≡ slice_get labels i → slice_get others l ≡ slice_get labels k → j < length others → l < length others → j ≤ l
  found_in_order labels others ordered kept i k j l le first last within inside =
      let a = get_or others j (pos 0) in
      let b = get_or others l (pos 0) in
      let at_j = slice_get-get_or others j (pos 0) within in
      let at_l = slice_get-get_or others l (pos 0) inside in
      elim (cases_lt l j) [
        | inr ge ↦ ge
        | inl lt ↦
            let back = kept l j b a lt at_l at_j in
            elim (cases_eq i k) [
              | inl same ↦
                  let one : Some b ≡ Some a = sym at_l ∙ (last ∙ (ap (slice_get labels) (sym same) ∙ (sym first ∙ at_j))) in
                  let is : b ≡ a = same_Some b a one in
                  absurd (one_way a a (subst (λ v. Before v a) is back) (subst (λ v. Before v a) is back))
              | inr other ↦ absurd (one_way a b (ordered i k a b (omega arith) (sym first ∙ at_j) (sym last ∙ at_l)) back)
            ]
      ]

  under_in_order : (labels others : Option (List ℤ)) → IsOrdered Before (unwrap_or labels []) → IsOrdered Before (unwrap_or others [])
      → (i k j l : ℕ) → i ≤ k → index_under same_number labels others i ≡ Some j → index_under same_number labels others k ≡ Some l → j ≤ l
  under_in_order labels None ordered kept i k j l le first last =
      let here : 0 ≡ j = same_Some 0 j first in omega arith
  under_in_order None (Some others) ordered kept i k j l le first last = cc
  under_in_order (Some labels) (Some others) ordered kept i k j l le first last =
      let one = found_label same_number same_number_is (Some others) (slice_get labels i) j first in
      let two = found_label same_number same_number_is (Some others) (slice_get labels k) l last in
      found_in_order labels others ordered kept i k j l le one.0 two.0 one.1 two.1

rising_one_way : (a b : ℤ) → a <ℤ b → b <ℤ a → ⊥
rising_one_way a b h k = omega (arith, ints)

falling_one_way : (a b : ℤ) → b <ℤ a → a <ℤ b → ⊥
falling_one_way a b h k = omega (arith, ints)

module _ (shape argument : Dimensions) (valid : IsShape shape) (sound : IsShape argument) where
  in_order : (along : Kind) → same_kind along Bands ≡ false → (i k j l : ℕ) → i ≤ k
      → index_in_argument along shape argument i ≡ Some j → index_in_argument along shape argument k ≡ Some l → j ≤ l
  in_order Time other = under_in_order (λ a b. a <ℤ b) rising_one_way shape.t argument.t (IsInOrder-shape shape Time valid) (IsInOrder-shape argument Time sound)
  in_order Bands other = absurd cc
  in_order Y other = under_in_order (λ a b. b <ℤ a) falling_one_way shape.y argument.y (IsInOrder-shape shape Y valid) (IsInOrder-shape argument Y sound)
  in_order X other = under_in_order (λ a b. a <ℤ b) rising_one_way shape.x argument.x (IsInOrder-shape shape X valid) (IsInOrder-shape argument X sound)

  pub span_between : (along : Kind) → same_kind along Bands ≡ false → (span : Span) → span.from < span.to → (first last : ℕ)
      → index_in_argument along shape argument span.from ≡ Some first → index_in_argument along shape argument (span.to - 1) ≡ Some last
      → IsSpanOf (IsLabelAt along shape argument) span (record { from = first; to = last + 1 })
  span_between along other span some first last at_first at_last = record {
    holds = λ j n.
        let begun = n.along.begun in
        let before = n.along.before in
        let low = in_order along other span.from n.from first j begun at_first n.needed in
        let high = in_order along other n.from (span.to - 1) j last (omega arith) n.needed at_last in
        record { begun = low; before = omega arith };
    least = inr (record {
      first = record { from = span.from; along = record { begun = omega arith; before = some }; needed = at_first };
      last = last;
      last_needed = record { from = span.to - 1; along = record { begun = omega arith; before = omega arith }; needed = at_last };
      ends = refl;
    });
  }
