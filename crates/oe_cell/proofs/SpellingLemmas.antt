-- No two cells have one spelling.
use Rattle.std.proofs.Common.{◌≡◌, ◌≢◌, ◌==◌, ℕ, zero, suc, ◌<◌, ◌≤◌, ◌^◌, true, false, List, [], ◌∷◌, ◌++◌, length, get_or, drop, inl, inr, refl, sym, ap, ◌∙◌, subst, append_assoc, arith, ℤ, pos}
use Rattle.std.specs.Prelude.{negsuc, unsigned_abs, decimal, codes}
use Rattle.std.specs.Fmt.{signed_decimal}
use Rattle.std.proofs.lemmas.Bool.{cases_Bool, cond-true, cond-false}
use Rattle.std.proofs.lemmas.Bool.Decides.{Decides-eqb}
use Rattle.std.proofs.lemmas.Fmt.{decimal_injective, signed_decimal_injective, digits_decimal, decimal_nonempty}
use Rattle.std.proofs.lemmas.Str.Parse.{tells_by_index, numerals_by_value}
use Rattle.std.specs.Int.Signed.{mag}
use Rattle.oe_cell.specs.Fraction.{Fraction, IsNumber}
use Rattle.oe_cell.specs.Cells.{IsCell}
use Rattle.oe_cell.specs.Spelling.{cell_text, number_text}
use Rattle.oe_cell.specs.declared.cell.Cell.{Cell}
use Rattle.oe_cell.specs.declared.cell.Cell.TheVariants.{Empty, Flag, Number, Over}

-- the byte is none of the text
abbrev IsWithout : ℕ → List ℕ → Type 0
IsWithout s bs = (k : ℕ) → k < length bs → get_or bs k 0 ≢ s

-- texts before the first separator, and after it
split_same : (s : ℕ) (xs ys us vs : List ℕ) → IsWithout s xs → IsWithout s ys → xs ++ s ∷ us ≡ ys ++ s ∷ vs → (xs ≡ ys) × (us ≡ vs)
split_same s [] [] us vs h k e = (refl, ap (drop 1) e)
split_same s [] (y ∷ ys) us vs h k e = absurd (k 0 (omega arith) (sym (ap (λ (bs : List ℕ). get_or bs 0 0) e)))
split_same s (x ∷ xs) [] us vs h k e = absurd (h 0 (omega arith) (ap (λ (bs : List ℕ). get_or bs 0 0) e))
split_same s (x ∷ xs) (y ∷ ys) us vs h k e =
    let rest = split_same s xs ys us vs (λ j b. h (suc j) (omega (arith, b))) (λ j b. k (suc j) (omega (arith, b))) (ap (drop 1) e) in
    (ap (λ (b : ℕ). b ∷ xs) (ap (λ (bs : List ℕ). get_or bs 0 0) e) ∙ ap (λ (bs : List ℕ). y ∷ bs) rest.0, rest.1)

digit-at : (n : ℕ) → n < 2 ^ 64 → (k : ℕ) → k < length (decimal n) → (48 ≤ get_or (decimal n) k 0) × (get_or (decimal n) k 0 ≤ 57)
digit-at n fits k h = digits_decimal (numerals_by_value _ tells_by_index) n fits k h

-- digits, and a sign before them, are none of the signs that part a fraction
within_digits : (n s : ℕ) → n < 2 ^ 64 → s < 48 → IsWithout s (decimal n)
within_digits n s fits low k h e =
    let least : 48 ≤ get_or (decimal n) k 0 = (digit-at n fits k h).0 in omega (arith, least, e)

within_signed : (z : ℤ) (s : ℕ) → unsigned_abs z < 2 ^ 63 → s ≢ 45 → s < 48 → IsWithout s (signed_decimal z)
within_signed (pos n) s fits other low k h e = within_digits n s (omega arith) low k h e
within_signed (negsuc n) s fits other low zero h e = absurd (other (sym e))
within_signed (negsuc n) s fits other low (suc k) h e = within_digits (suc n) s (omega arith) low k (omega (arith, h)) e

-- a whole number begins with a digit or a sign
signed-lead : (z : ℤ) → unsigned_abs z < 2 ^ 63 → (45 ≤ get_or (signed_decimal z) 0 0) × (get_or (signed_decimal z) 0 0 ≤ 57)
signed-lead (pos n) fits =
    let digit : (48 ≤ get_or (decimal n) 0 0) × (get_or (decimal n) 0 0 ≤ 57) = digit-at n (omega arith) 0 (decimal_nonempty n (omega arith)) in
    (omega (arith, digit.0), digit.1)
signed-lead (negsuc n) fits = (omega arith, omega arith)

mag-fits : (z : ℤ) → unsigned_abs z < 2 ^ 63 → mag z < 2 ^ 63
mag-fits (pos n) h = h
mag-fits (negsuc n) h = omega (arith, h)

-- a fraction, with its separators as single bytes
fraction_text : (s d : List ℕ) → codes "\"" ++ s ++ codes "/" ++ d ++ codes "\"" ≡ 34 ∷ (s ++ 47 ∷ (d ++ 34 ∷ []))
fraction_text s d =
    ap (λ (bs : List ℕ). 34 ∷ bs)
    (ap (λ (bs : List ℕ). bs ++ codes "\"") (append_assoc s (codes "/") d) ∙ append_assoc s (47 ∷ d) (codes "\""))

same_number : (p q : Fraction) → p.num ≡ q.num → p.den ≡ q.den → p ≡ q
same_number p q e f = λ i. record { num = e i; den = f i }

-- the two spellings of a number
whole_text : (q : Fraction) → (q.den == 1) ≡ true → number_text q ≡ signed_decimal q.num
whole_text q e = cond-true _ _ _ e

parts_text : (q : Fraction) → (q.den == 1) ≡ false → number_text q ≡ 34 ∷ (signed_decimal q.num ++ 47 ∷ (decimal q.den ++ 34 ∷ []))
parts_text q e = cond-false _ _ _ e ∙ fraction_text (signed_decimal q.num) (decimal q.den)

eq_one : (n : ℕ) → (n == 1) ≡ true → n ≡ 1
eq_one n e = (Decides-eqb n 1).0 e

whole_not_parts : (p q : Fraction) → IsNumber p → (p.den == 1) ≡ true → (q.den == 1) ≡ false → ¬ (number_text p ≡ number_text q)
whole_not_parts p q h e f same =
    let lead : get_or (signed_decimal p.num) 0 0 ≡ 34 = ap (λ (bs : List ℕ). get_or bs 0 0) (sym (whole_text p e) ∙ same ∙ parts_text q f) in
    let least : 45 ≤ get_or (signed_decimal p.num) 0 0 = (signed-lead p.num h.num_fits).0 in omega (arith, lead, least)

pub number_text_injective : (p q : Fraction) → IsNumber p → IsNumber q → number_text p ≡ number_text q → p ≡ q
number_text_injective p q h k same =
    elim (cases_Bool (p.den == 1)) [
      | inl e ↦
          elim (cases_Bool (q.den == 1)) [
            | inl f ↦
                same_number p q
                (signed_decimal_injective p.num q.num (mag-fits p.num h.num_fits) (mag-fits q.num k.num_fits) (sym (whole_text p e) ∙ same ∙ whole_text q f))
                (eq_one p.den e ∙ sym (eq_one q.den f))
            | inr f ↦ absurd (whole_not_parts p q h e f same)
          ]
      | inr e ↦
          elim (cases_Bool (q.den == 1)) [
            | inl f ↦ absurd (whole_not_parts q p k f e (sym same))
            | inr f ↦ by_parts e f
          ]
    ]
  where
    by_parts : (p.den == 1) ≡ false → (q.den == 1) ≡ false → p ≡ q
    by_parts e f =
        let texts : signed_decimal p.num ++ 47 ∷ (decimal p.den ++ 34 ∷ []) ≡ signed_decimal q.num ++ 47 ∷ (decimal q.den ++ 34 ∷ []) = ap (drop 1) (sym (parts_text p e) ∙ same ∙ parts_text q f) in
        let parts : (signed_decimal p.num ≡ signed_decimal q.num) × (decimal p.den ++ 34 ∷ [] ≡ decimal q.den ++ 34 ∷ []) = split_same 47 (signed_decimal p.num) (signed_decimal q.num) _ _ (within_signed p.num 47 h.num_fits (omega arith) (omega arith)) (within_signed q.num 47 k.num_fits (omega arith) (omega arith)) texts in
        let p_fits : p.den < 2 ^ 63 = h.den_fits in
        let q_fits : q.den < 2 ^ 63 = k.den_fits in
        let p_wide : p.den < 2 ^ 64 = omega (arith, p_fits) in
        let q_wide : q.den < 2 ^ 64 = omega (arith, q_fits) in
        let dens : decimal p.den ≡ decimal q.den = (split_same 34 (decimal p.den) (decimal q.den) [] [] (within_digits p.den 34 p_wide (omega arith)) (within_digits q.den 34 q_wide (omega arith)) parts.1).0 in
        same_number p q
        (signed_decimal_injective p.num q.num (mag-fits p.num h.num_fits) (mag-fits q.num k.num_fits) parts.0)
        (decimal_injective p.den q.den p_wide q_wide dens)

-- a number begins with no letter
number-lead : (q : Fraction) → IsNumber q → get_or (number_text q) 0 0 ≤ 57
number-lead q h =
    elim (cases_Bool (q.den == 1)) [
      | inl e ↦
          subst (λ (bs : List ℕ). get_or bs 0 0 ≤ 57) (sym (whole_text q e)) (signed-lead q.num h.num_fits).1
      | inr e ↦
          subst (λ (bs : List ℕ). get_or bs 0 0 ≤ 57) (sym (parts_text q e)) (omega arith)
    ]

not_letter : (q : Fraction) (letter : ℕ) (bs : List ℕ) → IsNumber q → 57 < letter → number_text q ≡ letter ∷ bs → ⊥
not_letter q letter bs h high same =
    let lead : get_or (number_text q) 0 0 ≡ letter = ap (λ (xs : List ℕ). get_or xs 0 0) same in
    let low : get_or (number_text q) 0 0 ≤ 57 = number-lead q h in omega (arith, lead, low, high)

leads : (xs ys : List ℕ) → xs ≡ ys → get_or xs 0 0 ≡ get_or ys 0 0
leads xs ys e = ap (λ (bs : List ℕ). get_or bs 0 0) e

pub cell_text_injective : (a b : Cell) → IsCell a → IsCell b → a ≢ Over → b ≢ Over → cell_text a ≡ cell_text b → a ≡ b
cell_text_injective Over b h k over other e = absurd (over refl)
cell_text_injective Empty Over h k over other e = absurd (other refl)
cell_text_injective Empty Empty h k over other e = refl
cell_text_injective Empty (Flag true) h k over other e = absurd (omega (arith, leads _ _ e))
cell_text_injective Empty (Flag false) h k over other e = absurd (omega (arith, leads _ _ e))
cell_text_injective Empty (Number q) h k over other e = absurd (not_letter q 110 _ k (omega arith) (sym e))
cell_text_injective (Flag true) Over h k over other e = absurd (other refl)
cell_text_injective (Flag true) Empty h k over other e = absurd (omega (arith, leads _ _ e))
cell_text_injective (Flag true) (Flag true) h k over other e = refl
cell_text_injective (Flag true) (Flag false) h k over other e = absurd (omega (arith, leads _ _ e))
cell_text_injective (Flag true) (Number q) h k over other e = absurd (not_letter q 116 _ k (omega arith) (sym e))
cell_text_injective (Flag false) Over h k over other e = absurd (other refl)
cell_text_injective (Flag false) Empty h k over other e = absurd (omega (arith, leads _ _ e))
cell_text_injective (Flag false) (Flag true) h k over other e = absurd (omega (arith, leads _ _ e))
cell_text_injective (Flag false) (Flag false) h k over other e = refl
cell_text_injective (Flag false) (Number q) h k over other e = absurd (not_letter q 102 _ k (omega arith) (sym e))
cell_text_injective (Number p) Over h k over other e = absurd (other refl)
cell_text_injective (Number p) Empty h k over other e = absurd (not_letter p 110 _ h (omega arith) e)
cell_text_injective (Number p) (Flag true) h k over other e = absurd (not_letter p 116 _ h (omega arith) e)
cell_text_injective (Number p) (Flag false) h k over other e = absurd (not_letter p 102 _ h (omega arith) e)
cell_text_injective (Number p) (Number q) h k over other e = ap Number (number_text_injective p q h k e)

-- no other cell has the text of this one
pub only_spelling : (cell c other : Cell) (text : List ℕ) → cell ≡ c → IsCell c → c ≢ Over → text ≡ cell_text c → IsCell other → other ≢ Over → cell_text other ≡ text → other ≡ cell
only_spelling cell c other text is h fits written k other_fits same =
    cell_text_injective other c k h other_fits fits (same ∙ written) ∙ sym is
