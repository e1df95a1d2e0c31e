-- The benches of a round: what holds of the first so many of them, each with its chunk.
use Rattle.std.proofs.Common.{◌≡◌, ◌≢◌, ℕ, zero, suc, ◌+◌, ◌<◌, ◌≤◌, List, [], ◌∷◌, length, get_or, set, Some, inl, inr, refl, sym, ap, ◌∙◌, subst, arith}
use Rattle.std.specs.List.{slice_get}
use Rattle.std.proofs.lemmas.Bool.{cases_eq}
use Rattle.std.proofs.lemmas.Option.{same_Some, slice_get_within, slice_get-get_or}
use Rattle.oe_engine.specs.Benches.{BenchOf}
use Rattle.oe_engine.specs.Chunks.{EachBench}

-- each of the first so many benches with its chunk, and each from there on
abbrev pub EachBefore : ℕ → ℕ → (ℕ → BenchOf → Type 0) → List BenchOf → Type 0
EachBefore first n Holds benches = (i : ℕ) (b : BenchOf) → i < n → slice_get benches i ≡ Some b → Holds (first + i) b

abbrev pub EachFrom : ℕ → ℕ → (ℕ → BenchOf → Type 0) → List BenchOf → Type 0
EachFrom first n Holds benches = (i : ℕ) (b : BenchOf) → n ≤ i → slice_get benches i ≡ Some b → Holds (first + i) b

set_same : (benches : List BenchOf) (n : ℕ) (y : BenchOf) → n < length benches → slice_get (set benches n y) n ≡ Some y
set_same [] n y h = absurd (omega arith)
set_same (x ∷ xs) zero y h = refl
set_same (x ∷ xs) (suc n) y h = set_same xs n y (omega arith)

set_other : (benches : List BenchOf) (n i : ℕ) (y : BenchOf) → i ≢ n → slice_get (set benches n y) i ≡ slice_get benches i
set_other [] n i y other = refl
set_other (x ∷ xs) zero zero y other = absurd (other refl)
set_other (x ∷ xs) zero (suc i) y other = refl
set_other (x ∷ xs) (suc n) zero y other = refl
set_other (x ∷ xs) (suc n) (suc i) y other = set_other xs n i y (λ e. other (ap suc e))

module _ (first : ℕ) (Holds : ℕ → BenchOf → Type 0) where
  pub each_none : (benches : List BenchOf) → EachBefore first 0 Holds benches
  each_none benches i b h at = absurd (omega arith)

  pub each_all : (benches : List BenchOf) (n : ℕ) → length benches ≤ n → EachBefore first n Holds benches → EachBench first Holds benches
  each_all benches n most each i b at =
      let within = slice_get_within benches i b at in
      each i b (omega arith) at

  pub each_more : (benches : List BenchOf) (n : ℕ) (b : BenchOf) → slice_get benches n ≡ Some b → EachBefore first n Holds benches
      → Holds (first + n) b → EachBefore first (n + 1) Holds benches
  each_more benches n b here each own i x before at = elim (cases_eq i n) [
    | inl same ↦
        let is : b ≡ x = same_Some b x (sym here ∙ ap (slice_get benches) (sym same) ∙ at) in
        subst (λ j. Holds (first + j) x) (sym same) (subst (λ y. Holds (first + n) y) is own)
    | inr other ↦ each i x (omega arith) at
  ]

  -- one of them is written
  pub each_set : (benches : List BenchOf) (n : ℕ) (y : BenchOf) → n < length benches → EachBefore first n Holds benches
      → Holds (first + n) y → EachBefore first (n + 1) Holds (set benches n y)
  each_set benches n y within each own =
      each_more (set benches n y) n y (set_same benches n y within)
      (λ i x before at. (let other : i ≢ n = omega arith in each i x before (sym (set_other benches n i y other) ∙ at))) own

  pub each_left : (benches : List BenchOf) (n : ℕ) (y : BenchOf) → EachFrom first n Holds benches → EachFrom first (n + 1) Holds (set benches n y)
  each_left benches n y each i x from at =
      let other : i ≢ n = omega arith in
      each i x (omega arith) (sym (set_other benches n i y other) ∙ at)

  pub each_here : (benches : List BenchOf) (n : ℕ) (other : BenchOf) → n < length benches → EachFrom first n Holds benches
      → Holds (first + n) (get_or benches n other)
  each_here benches n other within each =
      each n (get_or benches n other) (omega arith) (slice_get-get_or benches n other within)
