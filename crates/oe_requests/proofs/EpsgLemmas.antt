-- Codes of reference systems, as decimal digits spell them.
use Rattle.std.proofs.Common.{◌≡◌, ℕ, ◌+◌, ◌-◌, ◌*◌, ◌<◌, ◌≤◌, ◌&&◌, true, false, nat_le, List, [], ◌∷◌, length, take, drop, get_or, None, codes, if◌then◌else◌, refl, sym, ap, ◌∙◌, arith}
use Rattle.std.specs.List.{list_all, fold}
use Rattle.std.proofs.lemmas.Bool.{and_parts, and_left, and_right, and_from, leb-true, le-leb, lt-leb}
use Rattle.std.proofs.lemmas.List.{at_drop_more, drop_all}
use Rattle.oe_dims.specs.Names.{same_name, is_byte_in}
use Rattle.oe_requests.specs.Parameters.{where_it, is_digit, is_decimal, digits_value, is_epsg, spelled_epsg}

-- the number that digits spell behind others
abbrev pub value_behind : ℕ → List ℕ → ℕ
value_behind value digits = fold (λ value digit. value * 10 + (digit - 48)) value digits

-- the digits that are left
pub next_value : (digits : List ℕ) (i value : ℕ) → i < length digits
    → value_behind value (drop i digits) ≡ value_behind (value * 10 + (get_or digits i 0 - 48)) (drop (i + 1) digits)
next_value digits i value below = at_drop_more (λ ds. value_behind value ds) digits i 0 below

-- more digits make no number smaller
pub value_grows : (digits : List ℕ) (value : ℕ) → value ≤ value_behind value digits
value_grows [] value = omega arith
value_grows (digit ∷ digits) value =
    let rest : value * 10 + (digit - 48) ≤ value_behind (value * 10 + (digit - 48)) digits = value_grows digits (value * 10 + (digit - 48)) in
    omega (arith, rest)

pub too_large : (n : ℕ) → 999999 < n → where_it is_epsg n ≡ None
too_large n h =
    let no : is_epsg n ≡ false = and_right (nat_le 1 n) (nat_le n 999999) (lt-leb n 999999 h) in
    rw no refl

-- ---- texts

pub decimal_digits : (digits : List ℕ) → is_decimal digits ≡ true → list_all is_digit digits ≡ true
decimal_digits [] h = refl
decimal_digits (digit ∷ digits) h =
    let parts = and_parts (is_byte_in 49 57 digit) (list_all is_digit digits) h in
    let range = and_parts (nat_le 49 digit) (nat_le digit 57) parts.0 in
    let low : 49 ≤ digit = leb-true 49 digit range.0 in
    and_from (is_digit digit) (list_all is_digit digits)
    (and_from (nat_le 48 digit) (nat_le digit 57) (le-leb 48 digit (omega (arith, low))) range.1) parts.1

pub too_short : (s : List ℕ) → length s ≤ 5 → None ≡ spelled_epsg s
too_short s h =
    let rest : drop 5 s ≡ [] = drop_all 5 s h in
    let no : (same_name (take 5 s) (codes "EPSG:") && is_decimal (drop 5 s)) ≡ false
    = and_right (same_name (take 5 s) (codes "EPSG:")) (is_decimal (drop 5 s)) (ap is_decimal rest) in
    sym (ap (λ b. if b then where_it is_epsg (digits_value (drop 5 s)) else None) no)

pub spelled : (s prefix digits : List ℕ) → prefix ≡ take 5 s → digits ≡ drop 5 s → same_name prefix (codes "EPSG:") ≡ true → is_decimal digits ≡ true
    → where_it is_epsg (digits_value digits) ≡ spelled_epsg s
spelled s prefix digits front back same decimal =
    let first : same_name (take 5 s) (codes "EPSG:") ≡ true = ap (λ p. same_name p (codes "EPSG:")) (sym front) ∙ same in
    let rest : is_decimal (drop 5 s) ≡ true = ap is_decimal (sym back) ∙ decimal in
    ap (λ ds. where_it is_epsg (digits_value ds)) back
    ∙ sym (ap (λ b. if b then where_it is_epsg (digits_value (drop 5 s)) else None)
    (and_from (same_name (take 5 s) (codes "EPSG:")) (is_decimal (drop 5 s)) first rest))

pub other_prefix : (s prefix : List ℕ) → prefix ≡ take 5 s → same_name prefix (codes "EPSG:") ≡ false → None ≡ spelled_epsg s
other_prefix s prefix front other =
    sym (ap (λ b. if b then where_it is_epsg (digits_value (drop 5 s)) else None)
    (and_left (same_name (take 5 s) (codes "EPSG:")) (is_decimal (drop 5 s)) (ap (λ p. same_name p (codes "EPSG:")) (sym front) ∙ other)))

pub no_decimal : (s digits : List ℕ) → digits ≡ drop 5 s → is_decimal digits ≡ false → None ≡ spelled_epsg s
no_decimal s digits back other =
    sym (ap (λ b. if b then where_it is_epsg (digits_value (drop 5 s)) else None)
    (and_right (same_name (take 5 s) (codes "EPSG:")) (is_decimal (drop 5 s)) (ap is_decimal (sym back) ∙ other)))
