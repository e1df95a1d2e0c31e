-- The kernel of rows, seen by their values.
use Rattle.std.proofs.Common.{◌≡◌, ◌≢◌, ℕ, ◌==◌, ◌&&◌, Bool, true, false, List, [], ◌∷◌, length, map, refl, sym, ap, ◌∙◌, arith, Some, None, if◌then◌else◌}
use Rattle.std.specs.List.{list_all, flat_map}
use Rattle.std.proofs.lemmas.Bool.{and_left, and_right, and_from}
use Rattle.std.proofs.lemmas.List.Folds.{list_all-map}
use Rattle.oe_cell.specs.Fraction.{Fraction}
use Rattle.oe_kernel.specs.Kernels.{KernelValues}
use Rattle.oe_requests.specs.Parameters.{is_given, kernel_of}

given_by : (row : List Fraction) → length row ≢ 0 → is_given row ≡ true
given_by [] h = absurd (h refl)
given_by (q ∷ row) h = refl

not_given : (row : List Fraction) → length row ≡ 0 → is_given row ≡ false
not_given [] h = refl
not_given (q ∷ row) h = absurd (omega (arith, h))

-- the kernel of a row and those behind it, where they are even
abbrev pub all_rows : List Fraction → List (List Fraction) → KernelValues
all_rows row rows = record {
  width = length row;
  height = length (row ∷ rows);
  values = flat_map (λ (values : List Fraction). values) (row ∷ rows);
}

abbrev are_even : List Fraction → List (List Fraction) → Bool
are_even row rows = list_all (λ (other : List Fraction). length other == length row) rows

some_kernel : (row : List Fraction) (rows : List (List Fraction)) → (is_given row && are_even row rows) ≡ true
    → Some (all_rows row rows) ≡ kernel_of (row ∷ rows)
some_kernel row rows h = sym (ap (λ b. if b then Some (all_rows row rows) else None) h)

no_kernel : (row : List Fraction) (rows : List (List Fraction)) → (is_given row && are_even row rows) ≡ false
    → None ≡ kernel_of (row ∷ rows)
no_kernel row rows h = sym (ap (λ b. if b then Some (all_rows row rows) else None) h)

module _ {R : Type 0} (view : R → List Fraction) where
  same_widths : (width : ℕ) (first : R) (others : List R) → width ≡ length (view first)
      → are_even (view first) (map view others) ≡ list_all (λ r. length (view r) == width) others
  same_widths width first others is =
      list_all-map (λ (row : List Fraction). length row == length (view first)) view others
      ∙ ap (λ (n : ℕ). list_all (λ r. length (view r) == n) others) (sym is)

  pub kernel_given : (first : R) (others : List R) (width height : ℕ) (values : List Fraction) → width ≡ length (view first) → width ≢ 0
      → list_all (λ r. length (view r) == width) others ≡ true → height ≡ length (map view (first ∷ others))
      → values ≡ flat_map (λ (v : List Fraction). v) (map view (first ∷ others))
      → Some (record { width = width; height = height; values = values }) ≡ kernel_of (map view (first ∷ others))
  kernel_given first others width height values is some even high same =
      let given = given_by (view first) (λ none. some (is ∙ none)) in
      rw (is, high, same)
      (some_kernel (view first) (map view others)
      (and_from (is_given (view first)) (are_even (view first) (map view others)) given (same_widths width first others is ∙ even)))

  pub kernel_empty : (first : R) (others : List R) (width : ℕ) → width ≡ length (view first) → width ≡ 0 → None ≡ kernel_of (map view (first ∷ others))
  kernel_empty first others width is none =
      no_kernel (view first) (map view others)
      (and_left (is_given (view first)) (are_even (view first) (map view others)) (not_given (view first) (sym is ∙ none)))

  pub kernel_uneven : (first : R) (others : List R) (width : ℕ) → width ≡ length (view first)
      → list_all (λ r. length (view r) == width) others ≡ false → None ≡ kernel_of (map view (first ∷ others))
  kernel_uneven first others width is uneven =
      no_kernel (view first) (map view others)
      (and_right (is_given (view first)) (are_even (view first) (map view others)) (same_widths width first others is ∙ uneven))
