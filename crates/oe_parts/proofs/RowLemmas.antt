-- The numbers of a row follow one another.
use Rattle.std.proofs.Common.{◌≡◌, ℕ, zero, suc, ◌+◌, ◌-◌, ◌*◌, ◌<◌, List, [], ◌∷◌, ◌++◌, length, map, refl, sym, ap, ◌∙◌, subst, arith}
use Rattle.std.specs.List.{range_with_len}
use Rattle.std.proofs.lemmas.List.{append-nil, length-append}
use Rattle.std.proofs.lemmas.List.FromFn.{length-range_with_len}
use Rattle.oe_dims.specs.Dimensions.{Dimensions, extent}
use Rattle.oe_dims.specs.Positions.{number_of}
use Rattle.oe_spool.proofs.RunRecords.{length-numbers}
use Rattle.oe_window.specs.Parts.{row_of}
use Rattle.oe_window.specs.Runs.{AreFilled, laid, window_numbers}
use Rattle.oe_window.specs.Windows.{position_count, positions, span_at, span_indices, span_length}
use Rattle.oe_window.specs.declared.window.Span.{Span}
use Rattle.oe_window.specs.declared.window.Window.{Window}
use Rattle.oe_window.proofs.PartLemmas.{row_of_size}
use Rattle.oe_parts.specs.Rows.{HasNumbersFrom}

one_index : (a : ℕ) → span_indices (span_at a) ≡ a ∷ []
one_index a = let one : a + 1 - a ≡ 1 = omega arith in ap (range_with_len a) one

abbrev line : ℕ → ℕ → ℕ → Span → Window
line a b c x = record { t = span_at a; bands = span_at b; y = span_at c; x = x }

line_positions : (a b c : ℕ) (x : Span) → positions (line a b c x) ≡ map (λ i. record { t = a; band = b; y = c; x = i }) (span_indices x)
line_positions a b c x = rw (one_index a, one_index b, one_index c) (simp append-nil)

line_numbers : (d : Dimensions) (a b c from n : ℕ) → map (number_of d) (map (λ i. record { t = a; band = b; y = c; x = i }) (range_with_len from n)) ≡ range_with_len (((a * extent d.bands + b) * extent d.y + c) * extent d.x + from) n
line_numbers d a b c from zero = refl
line_numbers d a b c from (suc n) =
    let k = ((a * extent d.bands + b) * extent d.y + c) * extent d.x in
    let next : k + (from + 1) ≡ k + from + 1 = omega arith in
    ap (λ (ks : List ℕ). (k + from) ∷ ks) (line_numbers d a b c (from + 1) n ∙ ap (λ (m : ℕ). range_with_len m n) next)

-- the numbers of a row count up from some number
row_numbers : (d : Dimensions) (w : Window) (n : ℕ) → (first : ℕ) × (window_numbers d (row_of w n) ≡ range_with_len first (span_length w.x))
row_numbers d w n =
    let r = row_of w n in (
      ((r.t.from * extent d.bands + r.bands.from) * extent d.y + r.y.from) * extent d.x + w.x.from,
      ap (map (number_of d)) (line_positions r.t.from r.bands.from r.y.from w.x) ∙ line_numbers d r.t.from r.bands.from r.y.from w.x.from (span_length w.x),
    )

-- the first number of the first run is the first of all
begins_with : (first count k n : ℕ) (rest : List ℕ) → 0 < count → range_with_len first count ++ rest ≡ range_with_len k n → range_with_len k n ≡ range_with_len first n
begins_with first zero k n rest some e = absurd (omega arith)
begins_with first (suc count) k zero rest some e = absurd cc
begins_with first (suc count) k (suc n) rest some e =
    let same : first ≡ k = head_of _ _ _ _ e in ap (λ (m : ℕ). range_with_len m (suc n)) (sym same)
  where
    head_of : (a b : ℕ) (xs ys : List ℕ) → a ∷ xs ≡ b ∷ ys → a ≡ b
    head_of a b xs ys e = cc

pub first_run : (d : Dimensions) (w : Window) (n : ℕ) (runs next : List (ℕ × ℕ)) (first count : ℕ) → laid runs ≡ window_numbers d (row_of w n) → AreFilled runs → runs ≡ (first, count) ∷ next → HasNumbersFrom d (row_of w n) first
first_run d w n runs next first count numbers filled e =
    let row = row_numbers d w n in
    let some : AreFilled ((first, count) ∷ next) = subst AreFilled e filled in
    let here : range_with_len first count ++ laid next ≡ range_with_len row.0 (span_length w.x) = ap laid (sym e) ∙ numbers ∙ row.1 in
    row.1 ∙ begins_with first count row.0 (span_length w.x) (laid next) some.0 here ∙ ap (range_with_len first) (sym (row_of_size w n))

pub run_some : (numbers : List ℕ) (runs next : List (ℕ × ℕ)) (first count most : ℕ) → laid runs ≡ numbers → AreFilled runs → runs ≡ (first, count) ∷ next → length numbers ≡ most → 0 < most
run_some numbers runs next first count most same filled e long =
    let some : AreFilled ((first, count) ∷ next) = subst AreFilled e filled in
    let here : range_with_len first count ++ laid next ≡ numbers = ap laid (sym e) ∙ same in
    omega (arith, some.0, ap length here, length-append (range_with_len first count) (laid next), length-range_with_len first count, long)

pub no_run : (d : Dimensions) (w : Window) (n : ℕ) (runs : List (ℕ × ℕ)) → laid runs ≡ window_numbers d (row_of w n) → runs ≡ [] → HasNumbersFrom d (row_of w n) 0
no_run d w n runs numbers none =
    let empty : [] ≡ window_numbers d (row_of w n) = ap laid (sym none) ∙ numbers in
    let count : position_count (row_of w n) ≡ 0 = sym (length-numbers d (row_of w n)) ∙ ap length (sym empty) in
    sym empty ∙ ap (range_with_len 0) (sym count)
