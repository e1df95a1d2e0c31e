-- What the bytes of a record tell.
use Rattle.std.proofs.Common.{◌≡◌, ◌≢◌, ◌==◌, true, false, ℕ, suc, ◌+◌, ◌<◌, ◌≤◌, ◌^◌, w64, List, [], ◌∷◌, ◌++◌, length, get_or, take, drop, Option, Some, None, IfSome, IfNone, inl, inr, refl, sym, ap, ◌∙◌, subst, arith, ℤ, pos, FitsSigned}
use Rattle.std.specs.Prelude.{if◌then◌else◌}
use Rattle.std.specs.Int.{to_be_bytes, from_be_bytes, cast_unsigned, cast_signed}
use Rattle.std.proofs.lemmas.Bool.{cases_lt}
use Rattle.std.proofs.lemmas.List.{length-take, length-drop, get_or-take, get_or-drop, get_or_past}
use Rattle.std.proofs.Math.Seq.{take-add, take-length}
use Rattle.std.proofs.lemmas.Nat.{be_bytes_8, from_be_bytes-to_be_bytes_8}
use Rattle.std.proofs.lemmas.Int.{to_z-of_z, of_z-to_z, fits_signed_from_abs, ints}
use Rattle.oe_cell.specs.Fraction.{IsNumber}
use Rattle.oe_cell.specs.Cells.{IsCell}
use Rattle.oe_cell.specs.Record.{bytes_of, record_of, IsRecord}
use Rattle.oe_cell.specs.declared.cell.Cell.{Cell}
use Rattle.oe_cell.specs.declared.cell.Cell.TheVariants.{Empty, Flag, Number, Over}

pub cast_below : (z : ℤ) → FitsSigned w64 z → cast_unsigned w64 z < 2 ^ 64
cast_below z fits = omega (arith, ints)

pub tag_from_bytes : (s t : ℕ) (m n : ℤ) (c d : ℕ) → bytes_of s m c ≡ bytes_of t n d → s ≡ t
unfolding bytes_of
tag_from_bytes s t m n c d e = ap (λ (bs : List ℕ). get_or bs 0 0) e

num_of : List ℕ → ℤ
num_of bs = cast_signed w64 (from_be_bytes w64 (take 8 (drop 1 bs)))

num_of-bytes_of : (t : ℕ) (n : ℤ) (d : ℕ) → FitsSigned w64 n → num_of (bytes_of t n d) ≡ n
unfolding bytes_of num_of
num_of-bytes_of t n d fits =
    ap (cast_signed w64) (from_be_bytes-to_be_bytes_8 (cast_unsigned w64 n) (cast_below n fits)) ∙ to_z-of_z w64 n fits

pub num_from_bytes : (s t : ℕ) (m n : ℤ) (c d : ℕ) → FitsSigned w64 m → FitsSigned w64 n → bytes_of s m c ≡ bytes_of t n d → m ≡ n
num_from_bytes s t m n c d m_fits n_fits e =
    sym (num_of-bytes_of s m c m_fits) ∙ ap num_of e ∙ num_of-bytes_of t n d n_fits

den_of : List ℕ → ℕ
den_of bs = from_be_bytes w64 (take 8 (drop 9 bs))

den_of-bytes_of : (t : ℕ) (n : ℤ) (d : ℕ) → d < 2 ^ 64 → den_of (bytes_of t n d) ≡ d
unfolding bytes_of den_of
den_of-bytes_of t n d fits = from_be_bytes-to_be_bytes_8 d fits

pub den_from_bytes : (s t : ℕ) (m n : ℤ) (c d : ℕ) → c < 2 ^ 64 → d < 2 ^ 64 → bytes_of s m c ≡ bytes_of t n d → c ≡ d
den_from_bytes s t m n c d c_fits d_fits e =
    sym (den_of-bytes_of s m c c_fits) ∙ ap den_of e ∙ den_of-bytes_of t n d d_fits

-- the fields of the record of a cell
pub tag_of : Cell → ℕ
tag_of Empty = 0
tag_of (Flag false) = 1
tag_of (Flag true) = 2
tag_of (Number q) = 3
tag_of Over = 4

pub num_in : Cell → ℤ
num_in (Number q) = q.num
num_in Empty = pos 0
num_in (Flag b) = pos 0
num_in Over = pos 0

pub den_in : Cell → ℕ
den_in (Number q) = q.den
den_in Empty = 0
den_in (Flag b) = 0
den_in Over = 0

record_is : (c : Cell) → record_of c ≡ bytes_of (tag_of c) (num_in c) (den_in c)
unfolding tag_of num_in den_in
record_is Empty = refl
record_is (Flag false) = refl
record_is (Flag true) = refl
record_is (Number q) = refl
record_is Over = refl

num_fits : (c : Cell) → IsCell c → FitsSigned w64 (num_in c)
unfolding num_in
num_fits (Number q) h = fits_signed_from_abs w64 q.num h.num_fits
num_fits Empty h = omega (arith, ints)
num_fits (Flag b) h = omega (arith, ints)
num_fits Over h = omega (arith, ints)

den_fits : (c : Cell) → IsCell c → den_in c < 2 ^ 64
unfolding den_in
den_fits (Number q) h = let below : q.den < 2 ^ 63 = h.den_fits in omega arith
den_fits Empty h = omega arith
den_fits (Flag b) h = omega arith
den_fits Over h = omega arith

-- a record tells its fields
pub record Fields (c : Cell) (t : ℕ) (n : ℤ) (d : ℕ) : Type 0 where
  pub tag_is : tag_of c ≡ t
  pub num_is : num_in c ≡ n
  pub den_is : den_in c ≡ d

pub fields_from_record : (c : Cell) (t : ℕ) (n : ℤ) (d : ℕ) → IsCell c → FitsSigned w64 n → d < 2 ^ 64 → record_of c ≡ bytes_of t n d → Fields c t n d
fields_from_record c t n d h n_fits d_fits e =
    let same : bytes_of (tag_of c) (num_in c) (den_in c) ≡ bytes_of t n d = sym (record_is c) ∙ e in
    record {
      tag_is = tag_from_bytes (tag_of c) t (num_in c) n (den_in c) d same;
      num_is = num_from_bytes (tag_of c) t (num_in c) n (den_in c) d (num_fits c h) n_fits same;
      den_is = den_from_bytes (tag_of c) t (num_in c) n (den_in c) d (den_fits c h) d_fits same;
    }

rebuilt : ℕ → ℤ → ℕ → Cell
rebuilt t n d =
    if t == 0 then Empty
    else (if t == 1 then Flag false
    else (if t == 2 then Flag true else (if t == 3 then Number (record { num = n; den = d }) else Over)))

rebuilt-fields : (c : Cell) → rebuilt (tag_of c) (num_in c) (den_in c) ≡ c
unfolding rebuilt tag_of num_in den_in
rebuilt-fields Empty = refl
rebuilt-fields (Flag false) = refl
rebuilt-fields (Flag true) = refl
rebuilt-fields (Number q) = refl
rebuilt-fields Over = refl

-- two cells with one record are the same
pub same_from_fields : (c e : Cell) (t : ℕ) (n : ℤ) (d : ℕ) → Fields c t n d → Fields e t n d → c ≡ e
same_from_fields c e t n d h k =
    sym (rebuilt-fields c) ∙ ap (λ (x : ℕ). rebuilt x (num_in c) (den_in c)) (h.tag_is ∙ sym k.tag_is) ∙ ap (λ (z : ℤ). rebuilt (tag_of e) z (den_in c)) (h.num_is ∙ sym k.num_is) ∙ ap (λ (x : ℕ). rebuilt (tag_of e) (num_in e) x) (h.den_is ∙ sym k.den_is) ∙ rebuilt-fields e

pub same_from_record : (c e : Cell) → IsCell c → IsCell e → record_of c ≡ record_of e → c ≡ e
same_from_record c e h k same =
    same_from_fields c e (tag_of e) (num_in e) (den_in e)
    (fields_from_record c (tag_of e) (num_in e) (den_in e) h (num_fits e k) (den_fits e k) (same ∙ record_is e))
    (record { tag_is = refl; num_is = refl; den_is = refl })

tag_of-le : (c : Cell) → tag_of c ≤ 4
unfolding tag_of
tag_of-le Empty = omega arith
tag_of-le (Flag false) = omega arith
tag_of-le (Flag true) = omega arith
tag_of-le (Number q) = omega arith
tag_of-le Over = omega arith

-- a tag above 4 is of no record
pub none_from_tag : (c : Cell) (t : ℕ) (n : ℤ) (d : ℕ) → 4 < t → ¬ (Fields c t n d)
none_from_tag c t n d h k = let small : tag_of c ≤ 4 = tag_of-le c in let same : tag_of c ≡ t = k.tag_is in omega arith

zeros : (c : Cell) → tag_of c ≢ 3 → (num_in c ≡ pos 0) × (den_in c ≡ 0)
unfolding tag_of num_in den_in
zeros Empty h = (refl, refl)
zeros (Flag b) h = (refl, refl)
zeros (Number q) h = absurd (h refl)
zeros Over h = (refl, refl)

-- after each tag but that of a number stand zeros
pub zeros_from_fields : (c : Cell) (t : ℕ) (n : ℤ) (d : ℕ) → t ≢ 3 → Fields c t n d → (n ≡ pos 0) × (d ≡ 0)
zeros_from_fields c t n d h k =
    let parts = zeros c (λ e. h (sym k.tag_is ∙ e)) in
    (sym k.num_is ∙ parts.0, sym k.den_is ∙ parts.1)

number_in : (c : Cell) → tag_of c ≡ 3 → IsCell c → IsNumber (record { num = num_in c; den = den_in c })
unfolding tag_of num_in den_in
number_in Empty e h = absurd (omega arith)
number_in (Flag false) e h = absurd (omega arith)
number_in (Flag true) e h = absurd (omega arith)
number_in (Number q) e h = h
number_in Over e h = absurd (omega arith)

-- after the tag of a number stands a number
pub number_from_fields : (c : Cell) (t : ℕ) (n : ℤ) (d : ℕ) → t ≡ 3 → IsCell c → Fields c t n d → IsNumber (record { num = n; den = d })
number_from_fields c t n d e h k =
    subst (λ (x : ℕ). IsNumber (record { num = n; den = x })) k.den_is
    (subst (λ (z : ℤ). IsNumber (record { num = z; den = den_in c })) k.num_is (number_in c (k.tag_is ∙ e) h))

pub from_bytes_below : (bs : List ℕ) → ((k : ℕ) → get_or bs k 0 < 256) → from_be_bytes w64 bs < 2 ^ 64
from_bytes_below bs h = omega (arith, h 0, h 1, h 2, h 3, h 4, h 5, h 6, h 7)

parts_are : (t : ℕ) (front back : List ℕ) → length front ≡ 8 → length back ≡ 8 → ((k : ℕ) → get_or front k 0 < 256) → ((k : ℕ) → get_or back k 0 < 256) → bytes_of t (cast_signed w64 (from_be_bytes w64 front)) (from_be_bytes w64 back) ≡ t ∷ front ++ back
unfolding bytes_of
parts_are t front back front_len back_len front_bytes back_bytes =
    let m = from_be_bytes w64 front in
    let n = from_be_bytes w64 back in
    ap (λ (k : ℕ). t ∷ to_be_bytes w64 k ++ to_be_bytes w64 n) (of_z-to_z w64 m (from_bytes_below front front_bytes)) ∙ ap (λ (xs : List ℕ). t ∷ xs ++ to_be_bytes w64 n) (be_bytes_8 front m front_len front_bytes refl) ∙ ap (λ (xs : List ℕ). t ∷ front ++ xs) (be_bytes_8 back n back_len back_bytes refl)

pub take_below : (n : ℕ) (bs : List ℕ) → ((k : ℕ) → get_or bs k 0 < 256) → (k : ℕ) → get_or (take n bs) k 0 < 256
take_below n bs h k =
    elim (cases_lt k n) [
      | inl below ↦ rw (get_or-take n bs k 0 below) (h k)
      | inr above ↦ rw (get_or_past (take n bs) k 0 (omega (arith, length-take n bs))) (omega arith)
    ]

-- any 17 bytes are those of their three parts
pub bytes_of-parts : (bs : List ℕ) → length bs ≡ 17 → ((k : ℕ) → get_or bs k 0 < 256) → bytes_of (get_or bs 0 0) (cast_signed w64 (from_be_bytes w64 (take 8 (drop 1 bs)))) (from_be_bytes w64 (take 8 (drop 9 bs))) ≡ bs
bytes_of-parts [] h small = absurd (omega arith)
bytes_of-parts (x ∷ xs) h small =
    let len : length xs ≡ 16 = omega arith in
    let front_len : length (take 8 xs) ≡ 8 = length-take 8 xs ∙ omega arith in
    let back_len : length (take 8 (drop 8 xs)) ≡ 8 = length-take 8 (drop 8 xs) ∙ omega (arith, length-drop 8 xs) in
    let whole : take 8 xs ++ take 8 (drop 8 xs) ≡ xs = sym (take-add 8 8 xs) ∙ ap (λ (n : ℕ). take n xs) (sym len) ∙ take-length xs in
    parts_are x (take 8 xs) (take 8 (drop 8 xs)) front_len back_len
    (λ k. take_below 8 xs (λ j. small (suc j)) k)
    (λ k. take_below 8 (drop 8 xs) (λ j. rw get_or-drop (small (suc (8 + j)))) k) ∙ ap (λ (ys : List ℕ). x ∷ ys) whole

-- what `read_record` makes of the parts of 17 bytes
pub bytes_of-read : (bs front back : List ℕ) (m n : ℤ) (d : ℕ) → length bs ≡ 17 → ((k : ℕ) → get_or bs k 0 < 256) → front ≡ take 8 (drop 1 bs) → back ≡ take 8 (drop 9 bs) → m ≡ cast_signed w64 (from_be_bytes w64 front) → n ≡ m → d ≡ from_be_bytes w64 back → bytes_of (get_or bs 0 0) n d ≡ bs
bytes_of-read bs front back m n d len small front_is back_is m_is n_is d_is =
    ap (λ (z : ℤ). bytes_of (get_or bs 0 0) z d) (n_is ∙ m_is ∙ ap (λ (xs : List ℕ). cast_signed w64 (from_be_bytes w64 xs)) front_is) ∙ ap (λ (k : ℕ). bytes_of (get_or bs 0 0) (cast_signed w64 (from_be_bytes w64 (take 8 (drop 1 bs)))) k) (d_is ∙ ap (from_be_bytes w64) back_is) ∙ bytes_of-parts bs len small

-- no cell has the bytes for its record where reading gives none
pub none_from_round_trip : (r : Option Cell) (bs : List ℕ) → ((c : Cell) → IsCell c → record_of c ≡ bs → r ≡ Some c) → IfNone r (¬ (IsRecord bs))
none_from_round_trip None bs h = λ k. (let e : None ≡ Some k.0 = h k.0 k.1 k.2 in cc)
none_from_round_trip (Some c) bs h = tt

pub IfSome-same : (r : Option Cell) (bs cs : List ℕ) → bs ≡ cs → IfSome r (λ c. IsCell c × (record_of c ≡ bs)) → IfSome r (λ c. IsCell c × (record_of c ≡ cs))
IfSome-same r bs cs e h = subst (λ (x : List ℕ). IfSome r (λ c. IsCell c × (record_of c ≡ x))) e h

-- a record has 17 bytes
pub length-record_of : (c : Cell) → length (record_of c) ≡ 17
unfolding bytes_of
length-record_of Empty = refl
length-record_of (Flag false) = refl
length-record_of (Flag true) = refl
length-record_of (Number q) = refl
length-record_of Over = refl
