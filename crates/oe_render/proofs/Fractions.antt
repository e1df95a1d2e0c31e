-- Texts that spell whole numbers, and texts n/d.
use Rattle.std.proofs.Common.{◌≡◌, ◌≢◌, ℕ, zero, suc, ◌+◌, ◌<◌, ◌≤◌, ◌^◌, ℤ, pos, negsuc, unsigned_abs, List, [], ◌∷◌, ◌++◌, length, get_or, drop, codes, decimal, MatchOption, Option, Some, None, Result, Ok, Err, refl, sym, ap, ap₂, ◌∙◌, subst, append_assoc, arith}
use Rattle.std.specs.Fmt.{signed_decimal}
use Rattle.std.specs.Int.Signed.{mag}
use Rattle.std.specs.Str.Parse.{ParsesUnsigned, ParsesSigned}
use Rattle.std.proofs.Common.{FitsSigned, w64}
use Rattle.std.proofs.Math.Seq.{get_or-append_seam}
use Rattle.std.proofs.lemmas.List.{length-append}
use Rattle.std.proofs.lemmas.Fmt.{digits_decimal, parse-decimal, parse-signed_decimal}
use Rattle.std.proofs.lemmas.Str.Parse.{tells_by_index, numerals_by_value}
use Rattle.oe_cell.specs.Fraction.{Fraction, IsNumber}
use Rattle.oe_render.specs.CubeText.{IsFraction}

-- no byte of the text is a slash
abbrev pub Lacks : List ℕ → Type 0
Lacks bs = (i : ℕ) → i < length bs → get_or bs i 0 ≢ 47

decimal_lacks : (n : ℕ) → n < 2 ^ 64 → Lacks (decimal n)
decimal_lacks n fits i h e =
    let least : 48 ≤ get_or (decimal n) i 0 = (digits_decimal (numerals_by_value _ tells_by_index) n fits i h).0 in omega (arith, least, e)

signed_lacks : (z : ℤ) → unsigned_abs z < 2 ^ 63 → Lacks (signed_decimal z)
signed_lacks (pos n) fits i h e = decimal_lacks n (omega arith) i h e
signed_lacks (negsuc n) fits zero h e = omega (arith, e)
signed_lacks (negsuc n) fits (suc i) h e = decimal_lacks (suc n) (omega arith) i (omega (arith, h)) e

-- the parts before and behind the first slash
same_cut : (xs ys us vs : List ℕ) → Lacks xs → Lacks ys → xs ++ 47 ∷ us ≡ ys ++ 47 ∷ vs → (xs ≡ ys) × (us ≡ vs)
same_cut [] [] us vs h k e = (refl, ap (drop 1) e)
same_cut [] (y ∷ ys) us vs h k e = absurd (k 0 (omega arith) (sym (ap (λ (bs : List ℕ). get_or bs 0 0) e)))
same_cut (x ∷ xs) [] us vs h k e = absurd (h 0 (omega arith) (ap (λ (bs : List ℕ). get_or bs 0 0) e))
same_cut (x ∷ xs) (y ∷ ys) us vs h k e =
    let rest = same_cut xs ys us vs (λ j b. h (suc j) (omega (arith, b))) (λ j b. k (suc j) (omega (arith, b))) (ap (drop 1) e) in
    (ap (λ (b : ℕ). b ∷ xs) (ap (λ (bs : List ℕ). get_or bs 0 0) e) ∙ ap (λ (bs : List ℕ). y ∷ bs) rest.0, rest.1)

-- the text of a fraction, with its slash as a byte
slashed : (text : List ℕ) (q : Fraction) → IsFraction text q → text ≡ signed_decimal q.num ++ 47 ∷ decimal q.den
slashed text q is = is.2 ∙ append_assoc (signed_decimal q.num) (codes "/") (decimal q.den)

-- where the text of a fraction is cut
pub cut_is : (text front back : List ℕ) (q : Fraction) → text ≡ front ++ 47 ∷ back → Lacks front → IsFraction text q → (front ≡ signed_decimal q.num) × (back ≡ decimal q.den)
cut_is text front back q cut lacks is =
    same_cut front (signed_decimal q.num) back (decimal q.den) lacks (signed_lacks q.num is.0.num_fits) (sym cut ∙ slashed text q is)

-- a text without a slash is none
pub uncut : (text : List ℕ) → Lacks text → (q : Fraction) → ¬ IsFraction text q
uncut text lacks q is =
    let s = signed_decimal q.num in
    let long : length text ≡ length s + length (47 ∷ decimal q.den) = ap length (slashed text q is) ∙ length-append s (47 ∷ decimal q.den) in
    lacks (length s) (omega (arith, long))
    (ap (λ (bs : List ℕ). get_or bs (length s) 0) (slashed text q is) ∙ get_or-append_seam s 47 (decimal q.den) 0)

-- what the parts of a text spell, as a fraction
pub fraction_answer : (text front back : List ℕ) (num : ℤ) (den : ℕ) (o : Option Fraction) → text ≡ front ++ 47 ∷ back → Lacks front → front ≡ signed_decimal num → back ≡ decimal den
    → ((z : ℤ) → unsigned_abs z < 2 ^ 63 → front ≡ signed_decimal z → num ≡ z) → ((n : ℕ) → n < 2 ^ 63 → back ≡ decimal n → den ≡ n)
    → MatchOption o (¬ (IsNumber (record { num = num; den = den }) × (2 ≤ den))) (λ q. (q ≡ record { num = num; den = den }) × IsNumber (record { num = num; den = den }) × (2 ≤ den))
    → MatchOption o ((q : Fraction) → ¬ IsFraction text q) (IsFraction text)
fraction_answer text front back num den None cut lacks n d one_num one_den none = λ q is.
    let parts = cut_is text front back q cut lacks is in
    let same : q ≡ record { num = num; den = den } = λ i. record { num = sym (one_num q.num is.0.num_fits parts.0) i; den = sym (one_den q.den is.0.den_fits parts.1) i } in
    let least : 2 ≤ den = subst (λ (m : ℕ). 2 ≤ m) (sym (one_den q.den is.0.den_fits parts.1)) is.1 in
    none (subst IsNumber same is.0, least)
fraction_answer text front back num den (Some p) cut lacks n d one_num one_den h =
    subst (IsFraction text) (sym h.0)
    (h.1, h.2, cut ∙ ap₂ (λ (x y : List ℕ). x ++ 47 ∷ y) n d ∙ sym (append_assoc (signed_decimal num) (codes "/") (decimal den)))

-- ---- whole numbers

pub none_decimal : (E : Type 0) (n : ℕ) (bytes : List ℕ) (e : E) → n < 2 ^ 63 → ParsesUnsigned 64 10 bytes (Err e) → bytes ≡ decimal n → ⊥
none_decimal E n bytes e fits parses is =
    let P : Result ℕ E → Type 0 = λ s. s ≡ Ok n in
    let same : P (Err e) = parse-decimal 64 n bytes (Err e) (omega arith) (omega arith) is parses in cc

pub one_decimal : (n m : ℕ) (bytes : List ℕ) → n < 2 ^ 63 → ParsesUnsigned {E = ℕ} 64 10 bytes (Ok m) → bytes ≡ decimal n → m ≡ n
one_decimal n m bytes fits parses is =
    let P : Result ℕ ℕ → Type 0 = λ s. s ≡ Ok n in
    let same : P (Ok m) = parse-decimal 64 n bytes (Ok m) (omega arith) (omega arith) is parses in cc

signed_fits : (z : ℤ) → unsigned_abs z < 2 ^ 63 → FitsSigned w64 z × (mag z < 2 ^ 63)
signed_fits (pos n) h = (omega (arith, h), h)
signed_fits (negsuc n) h = (omega (arith, h), omega (arith, h))

pub none_signed : (E : Type 0) (z : ℤ) (bytes : List ℕ) (e : E) → unsigned_abs z < 2 ^ 63 → ParsesSigned w64 10 bytes (Err e) → bytes ≡ signed_decimal z → ⊥
none_signed E z bytes e fits parses is =
    let P : Result ℤ E → Type 0 = λ s. s ≡ Ok z in
    let f = signed_fits z fits in
    let same : P (Err e) = parse-signed_decimal w64 z bytes (Err e) f.0 f.1 is parses in cc

pub one_signed : (z y : ℤ) (bytes : List ℕ) → unsigned_abs z < 2 ^ 63 → ParsesSigned {E = ℕ} w64 10 bytes (Ok y) → bytes ≡ signed_decimal z → y ≡ z
one_signed z y bytes fits parses is =
    let P : Result ℤ ℕ → Type 0 = λ s. s ≡ Ok z in
    let f = signed_fits z fits in
    let same : P (Ok y) = parse-signed_decimal w64 z bytes (Ok y) f.0 f.1 is parses in cc
