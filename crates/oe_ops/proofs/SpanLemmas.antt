-- The least span with the indices that are needed for those of another.
use Rattle.std.proofs.Common.{◌≡◌, ◌⊎◌, inl, inr, ℕ, ◌+◌, ◌-◌, ◌<◌, ◌≤◌, true, false, min, max, refl, sym, subst, arith, Option, Some, None}
use Rattle.std.proofs.lemmas.Bool.Decides.{nat_tests}
use Rattle.std.specs.Prelude.{nat_le}
use Rattle.std.proofs.lemmas.Bool.{cases_lt}
use Rattle.oe_window.specs.Windows.{span_below}
use Rattle.oe_window.specs.declared.window.Span.{Span}
use Rattle.oe_ops.specs.Spans.{EndsAreNeeded, IsAnyOf, IsNeededFor, IsReached, IsSpanOf, with_found, with_index}

no_some : (j : ℕ) → None ≡ Some j → ⊥
no_some j e = cc

-- ---- one index more

with_empty : (found : Span) (j : ℕ) → found.to ≤ found.from → with_index found j ≡ record { from = j; to = j + 1 }
with_empty found j h = let t : nat_le found.to found.from ≡ true = grind (arith, nat_tests) in rw t refl

with_filled : (found : Span) (j : ℕ) → found.from < found.to → with_index found j ≡ record { from = min found.from j; to = max found.to (j + 1) }
with_filled found j h = let f : nat_le found.to found.from ≡ false = grind (arith, nat_tests) in rw f refl

module _ (R : ℕ → ℕ → Type 0) (from i : ℕ) (risen : from ≤ i) where
  later : (j : ℕ) → IsNeededFor R (record { from = from; to = i }) j → IsNeededFor R (record { from = from; to = i + 1 }) j
  later j n = let before = n.along.before in record { from = n.from; along = record { begun = n.along.begun; before = omega arith }; needed = n.needed }

  here : (j : ℕ) → R i j → IsNeededFor R (record { from = from; to = i + 1 }) j
  here j r = record { from = i; along = record { begun = risen; before = omega arith }; needed = r }

  -- an index is needed for the last of the span, or for one before it
  earlier : (j : ℕ) → IsNeededFor R (record { from = from; to = i + 1 }) j → IsNeededFor R (record { from = from; to = i }) j ⊎ R i j
  earlier j n = elim (cases_lt n.from i) [
    | inl lt ↦ inl (record { from = n.from; along = record { begun = n.along.begun; before = lt }; needed = n.needed })
    | inr ge ↦ let before = n.along.before in let same : n.from ≡ i = omega arith in inr (subst (λ a. R a j) same n.needed)
  ]

  ends_later : (found : Span) → EndsAreNeeded R (record { from = from; to = i }) found → EndsAreNeeded R (record { from = from; to = i + 1 }) found
  ends_later found e = record { first = later found.from e.first; last = e.last; last_needed = later e.last e.last_needed; ends = e.ends }

  none_more : (found : Span) → ((j : ℕ) → ¬ R i j) → IsSpanOf R (record { from = from; to = i }) found → IsSpanOf R (record { from = from; to = i + 1 }) found
  none_more found none h = record {
    holds = λ j n. elim (earlier j n) [ inl old ↦ h.holds j old | inr r ↦ absurd (none j r) ];
    least = elim h.least [ inl e ↦ inl e | inr e ↦ inr (ends_later found e) ];
  }

  -- the first index that is found
  first_more : (found : Span) (k : ℕ) → found.to ≤ found.from → R i k → ((j : ℕ) → R i j → k ≡ j) → IsSpanOf R (record { from = from; to = i }) found → IsSpanOf R (record { from = from; to = i + 1 }) (record { from = k; to = k + 1 })
  first_more found k empty r only h = record {
    holds = λ j n. elim (earlier j n) [
      | inl old ↦ let along = h.holds j old in let begun = along.begun in let before = along.before in absurd (omega arith)
      | inr s ↦ let same = only j s in record { begun = omega arith; before = omega arith }
    ];
    least = inr (record { first = here k r; last = k; last_needed = here k r; ends = refl });
  }

  least_of : (a k : ℕ) → IsNeededFor R (record { from = from; to = i + 1 }) a → IsNeededFor R (record { from = from; to = i + 1 }) k → IsNeededFor R (record { from = from; to = i + 1 }) (min a k)
  least_of a k h r = elim (cases_lt a k) [
    | inl lt ↦ let m : a ≡ min a k = omega arith in subst (λ v. IsNeededFor R (record { from = from; to = i + 1 }) v) m h
    | inr ge ↦ let m : k ≡ min a k = omega arith in subst (λ v. IsNeededFor R (record { from = from; to = i + 1 }) v) m r
  ]

  most_of : (a k : ℕ) → IsNeededFor R (record { from = from; to = i + 1 }) a → IsNeededFor R (record { from = from; to = i + 1 }) k → IsNeededFor R (record { from = from; to = i + 1 }) (max a k)
  most_of a k h r = elim (cases_lt a k) [
    | inl lt ↦ let m : k ≡ max a k = omega arith in subst (λ v. IsNeededFor R (record { from = from; to = i + 1 }) v) m r
    | inr ge ↦ let m : a ≡ max a k = omega arith in subst (λ v. IsNeededFor R (record { from = from; to = i + 1 }) v) m h
  ]

  wider_ends : (found : Span) (k : ℕ) → R i k → EndsAreNeeded R (record { from = from; to = i }) found → EndsAreNeeded R (record { from = from; to = i + 1 }) (record { from = min found.from k; to = max found.to (k + 1) })
  wider_ends found k r e =
      let ends = e.ends in
      record {
        first = least_of found.from k (later found.from e.first) (here k r);
        last = max e.last k;
        last_needed = most_of e.last k (later e.last e.last_needed) (here k r);
        ends = omega arith;
      }

  -- one more than those that were found
  one_more : (found : Span) (k : ℕ) → found.from < found.to → R i k → ((j : ℕ) → R i j → k ≡ j) → IsSpanOf R (record { from = from; to = i }) found → IsSpanOf R (record { from = from; to = i + 1 }) (record { from = min found.from k; to = max found.to (k + 1) })
  one_more found k filled r only h = record {
    holds = λ j n. elim (earlier j n) [
      | inl old ↦ let along = h.holds j old in let begun = along.begun in let before = along.before in record { begun = omega arith; before = omega arith }
      | inr s ↦ let same = only j s in record { begun = omega arith; before = omega arith }
    ];
    least = elim h.least [ inl e ↦ absurd (omega arith) | inr e ↦ inr (wider_ends found k r e) ];
  }

  -- with an index that may have been found
  pub span_more : (o : Option ℕ) (found : Span) → ((j : ℕ) → R i j → o ≡ Some j) → ((j : ℕ) → o ≡ Some j → R i j) → IsSpanOf R (record { from = from; to = i }) found → IsSpanOf R (record { from = from; to = i + 1 }) (with_found o found)
  span_more None found only there h = none_more found (λ j r. no_some j (only j r)) h
  span_more (Some k) found only there h = elim (cases_lt found.from found.to) [
    | inl filled ↦ subst (λ (s : Span). IsSpanOf R (record { from = from; to = i + 1 }) s) (sym (with_filled found k filled)) (one_more found k filled (there k refl) (λ j r. let e = only j r in cc) h)
    | inr empty ↦ subst (λ (s : Span). IsSpanOf R (record { from = from; to = i + 1 }) s) (sym (with_empty found k empty)) (first_more found k empty (there k refl) (λ j r. let e = only j r in cc) h)
  ]

-- ---- whole spans

-- nothing is needed for no index
pub span_none : (R : ℕ → ℕ → Type 0) (span : Span) → span.to ≤ span.from → IsSpanOf R span (span_below 0)
span_none R span empty = record {
  holds = λ j n. let begun = n.along.begun in let before = n.along.before in absurd (omega arith);
  least = inl (omega arith);
}

pub span_any : (side : ℕ) (span : Span) → span.from < span.to → IsSpanOf (IsAnyOf side) span (span_below side)
span_any side span some = record {
  holds = λ j n. let below = n.needed in record { begun = omega arith; before = below };
  least = elim (cases_lt 0 side) [
    | inl lt ↦ inr (record {
      first = record { from = span.from; along = record { begun = omega arith; before = some }; needed = lt };
      last = side - 1;
      last_needed = record { from = span.from; along = record { begun = omega arith; before = some }; needed = (let q : side - 1 < side = omega arith in q) };
      ends = omega arith;
    })
    | inr ge ↦ inl ge
  ];
}

pub span_whole : (reach side : ℕ) (span : Span) → span.from < span.to → span.to ≤ side → IsSpanOf (IsReached true reach side) span (span_below side)
span_whole reach side span some within = record {
  holds = λ j n. let below = n.needed.on_side in record { begun = omega arith; before = below };
  least = inr (record {
    first = record { from = span.from; along = record { begun = omega arith; before = some }; needed = record { on_side = omega arith; within = tt } };
    last = side - 1;
    last_needed = record { from = span.from; along = record { begun = omega arith; before = some }; needed = record { on_side = omega arith; within = tt } };
    ends = omega arith;
  });
}

pub span_near : (reach side : ℕ) (span : Span) → span.from < span.to → span.to ≤ side → IsSpanOf (IsReached false reach side) span (record { from = span.from - reach; to = min side (span.to + reach) })
span_near reach side span some within = record {
  holds = λ j n.
      let begun = n.along.begun in
      let before = n.along.before in
      let on = n.needed.on_side in
      let below = n.needed.within.0 in
      let above = n.needed.within.1 in
      record { begun = omega arith; before = omega arith };
  least = inr (record {
    first = record { from = span.from; along = record { begun = omega arith; before = some }; needed = record { on_side = omega arith; within = (omega arith, omega arith) } };
    last = min side (span.to + reach) - 1;
    last_needed = record { from = span.to - 1; along = record { begun = omega arith; before = omega arith }; needed = record { on_side = omega arith; within = (omega arith, omega arith) } };
    ends = omega arith;
  });
}

-- the same of what is the same
pub span_same : (R S : ℕ → ℕ → Type 0) (span found : Span) → ((i j : ℕ) → R i j → S i j) → ((i j : ℕ) → S i j → R i j) → IsSpanOf R span found → IsSpanOf S span found
span_same R S span found there back h = record {
  holds = λ j n. h.holds j (record { from = n.from; along = n.along; needed = back n.from j n.needed });
  least = elim h.least [
    | inl e ↦ inl e
    | inr e ↦ inr (record {
      first = record { from = e.first.from; along = e.first.along; needed = there e.first.from found.from e.first.needed };
      last = e.last;
      last_needed = record { from = e.last_needed.from; along = e.last_needed.along; needed = there e.last_needed.from e.last e.last_needed.needed };
      ends = e.ends;
    })
  ];
}
