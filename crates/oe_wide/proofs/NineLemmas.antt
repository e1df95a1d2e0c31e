-- What the bytes of records of 1 and of 9 bytes tell.
use Rattle.std.proofs.Common.{◌≡◌, ◌≢◌, ◌==◌, true, false, Bool, ℕ, suc, ◌+◌, ◌<◌, ◌≤◌, ◌^◌, w64, List, [], ◌∷◌, length, get_or, take, drop, Some, None, refl, sym, ap, ◌∙◌, arith, ℤ, pos, FitsSigned, unsigned_abs}
use Rattle.std.specs.Prelude.{if◌then◌else◌}
use Rattle.std.specs.Int.{to_be_bytes, from_be_bytes, cast_unsigned, cast_signed}
use Rattle.std.proofs.lemmas.List.{length-take, length-drop, get_or-take, get_or-drop, take-take, drop-take, drop-drop}
use Rattle.std.proofs.Math.Seq.{take-length}
use Rattle.std.proofs.lemmas.Nat.{be_bytes_8, from_be_bytes-to_be_bytes_8}
use Rattle.std.proofs.lemmas.Int.{to_z-of_z, of_z-to_z, ints}
use Rattle.std.proofs.lemmas.Option.{same_Some}
use Rattle.oe_cell.specs.Cells.{IsCell}
use Rattle.oe_cell.specs.Fraction.{Fraction, IsNumber}
use Rattle.oe_cell.specs.Kinds.{IsNumeric}
use Rattle.oe_cell.proofs.RecordLemmas.{cast_below, from_bytes_below, take_below}
use Rattle.oe_cell.specs.declared.cell.Cell.{Cell}
use Rattle.oe_cell.specs.declared.cell.Cell.TheVariants.{Empty, Flag, Number, Over}
use Rattle.oe_wide.specs.Wide.{IsRecordIn, nine_bytes, record_in}
use Rattle.oe_wide.specs.declared.width.Width.TheVariants.{One, Nine}

zero_fits : FitsSigned w64 (pos 0)
zero_fits = omega (arith, ints)

-- a choice that gives something was made
pub guarded : {A : Type 0} (b : Bool) (x y : A) → (if b then Some x else None) ≡ Some y → (b ≡ true) × (x ≡ y)
guarded true x y e = (refl, same_Some x y e)
guarded false x y e = cc

tag_from_nine : (s t : ℕ) (m n : ℤ) → nine_bytes s m ≡ nine_bytes t n → s ≡ t
unfolding nine_bytes
tag_from_nine s t m n e = ap (λ (bs : List ℕ). get_or bs 0 0) e

num_of : List ℕ → ℤ
num_of bs = cast_signed w64 (from_be_bytes w64 (take 8 (drop 1 bs)))

num_of-nine : (t : ℕ) (n : ℤ) → FitsSigned w64 n → num_of (nine_bytes t n) ≡ n
unfolding nine_bytes num_of
num_of-nine t n fits =
    ap (cast_signed w64) (from_be_bytes-to_be_bytes_8 (cast_unsigned w64 n) (cast_below n fits)) ∙ to_z-of_z w64 n fits

num_from_nine : (s t : ℕ) (m n : ℤ) → FitsSigned w64 m → FitsSigned w64 n → nine_bytes s m ≡ nine_bytes t n → m ≡ n
num_from_nine s t m n m_fits n_fits e = sym (num_of-nine s m m_fits) ∙ ap num_of e ∙ num_of-nine t n n_fits

pub num_fits : (q : Fraction) → IsNumber q → FitsSigned w64 q.num
num_fits q h = let small : unsigned_abs q.num < 2 ^ 63 = h.num_fits in omega (arith, ints)

-- what a record of 9 bytes says of its cell
pub record NineFields (t : ℕ) (n : ℤ) (s : ℕ) (m : ℤ) : Type 0 where
  pub tag_is : s ≡ t
  pub num_is : m ≡ n

nine_fields : (s t : ℕ) (m n : ℤ) → FitsSigned w64 m → FitsSigned w64 n → Some (nine_bytes s m) ≡ Some (nine_bytes t n) → NineFields t n s m
nine_fields s t m n m_fits n_fits e =
    let same : nine_bytes s m ≡ nine_bytes t n = same_Some (nine_bytes s m) (nine_bytes t n) e in
    record { tag_is = tag_from_nine s t m n same; num_is = num_from_nine s t m n m_fits n_fits same }

-- the number of a record with tag 5
pub record IsWholeCell (n : ℤ) (c : Cell) : Type 0 where
  pub value : Fraction
  pub number : IsNumber value
  pub num_is : value.num ≡ n
  pub den_is : value.den ≡ 1
  pub cell_is : c ≡ Number value

pub whole_from_nine : (n : ℤ) (c : Cell) → FitsSigned w64 n → IsRecordIn Nine (nine_bytes 5 n) c → IsWholeCell n c
whole_from_nine n Empty fits h = absurd (let f = nine_fields 0 5 (pos 0) n zero_fits fits h.bytes_are in let e : 0 ≡ 5 = f.tag_is in omega arith)
whole_from_nine n (Flag false) fits h = absurd (let f = nine_fields 1 5 (pos 0) n zero_fits fits h.bytes_are in let e : 1 ≡ 5 = f.tag_is in omega arith)
whole_from_nine n (Flag true) fits h = absurd (let f = nine_fields 2 5 (pos 0) n zero_fits fits h.bytes_are in let e : 2 ≡ 5 = f.tag_is in omega arith)
whole_from_nine n (Number q) fits h =
    let both = guarded (q.den == 1) (nine_bytes 5 q.num) (nine_bytes 5 n) h.bytes_are in
    record {
      value = q;
      number = h.valid;
      num_is = num_from_nine 5 5 q.num n (num_fits q h.valid) fits both.1;
      den_is = is_one q.den both.0;
      cell_is = refl;
    }
  where
    is_one : (d : ℕ) → (d == 1) ≡ true → d ≡ 1
    is_one d e = search (e, arith)
whole_from_nine n Over fits h = absurd (let e : None ≡ Some (nine_bytes 5 n) = h.bytes_are in cc)

-- with another tag it is a null or a flag, and zeros stand behind the tag
pub record IsSmallCell (t : ℕ) (n : ℤ) (c : Cell) : Type 0 where
  pub num_is : n ≡ pos 0
  pub one : IsRecordIn One (t ∷ []) c

small_as : (s t : ℕ) (n : ℤ) (c : Cell) → FitsSigned w64 n → IsCell c → record_in One c ≡ Some (s ∷ []) → Some (nine_bytes s (pos 0)) ≡ Some (nine_bytes t n) → IsSmallCell t n c
small_as s t n c fits valid own e =
    let f = nine_fields s t (pos 0) n zero_fits fits e in
    record { num_is = sym f.num_is; one = record { valid = valid; bytes_are = own ∙ ap (λ (k : ℕ). Some (k ∷ [])) f.tag_is } }

pub small_from_nine : (t : ℕ) (n : ℤ) (c : Cell) → FitsSigned w64 n → t ≢ 5 → IsRecordIn Nine (nine_bytes t n) c → IsSmallCell t n c
small_from_nine t n Empty fits other h = small_as 0 t n Empty fits tt refl h.bytes_are
small_from_nine t n (Flag false) fits other h = small_as 1 t n (Flag false) fits tt refl h.bytes_are
small_from_nine t n (Flag true) fits other h = small_as 2 t n (Flag true) fits tt refl h.bytes_are
small_from_nine t n (Number q) fits other h =
    let both = guarded (q.den == 1) (nine_bytes 5 q.num) (nine_bytes t n) h.bytes_are in
    absurd (other (sym (tag_from_nine 5 t q.num n both.1)))
small_from_nine t n Over fits other h = absurd (let e : None ≡ Some (nine_bytes t n) = h.bytes_are in cc)

-- and the other way round
one_as : (s t : ℕ) (c : Cell) → IsCell c → record_in Nine c ≡ Some (nine_bytes s (pos 0)) → Some (s ∷ []) ≡ Some (t ∷ []) → IsRecordIn Nine (nine_bytes t (pos 0)) c
one_as s t c valid own e =
    let same : s ∷ [] ≡ t ∷ [] = same_Some (s ∷ []) (t ∷ []) e in
    let tags : s ≡ t = ap (λ (bs : List ℕ). get_or bs 0 0) same in
    record { valid = valid; bytes_are = own ∙ ap (λ (k : ℕ). Some (nine_bytes k (pos 0))) tags }

pub nine_from_one : (t : ℕ) (c : Cell) → IsRecordIn One (t ∷ []) c → IsRecordIn Nine (nine_bytes t (pos 0)) c
nine_from_one t Empty h = one_as 0 t Empty tt refl h.bytes_are
nine_from_one t (Flag false) h = one_as 1 t (Flag false) tt refl h.bytes_are
nine_from_one t (Flag true) h = one_as 2 t (Flag true) tt refl h.bytes_are
nine_from_one t (Number q) h = absurd (let e : None ≡ Some (t ∷ []) = h.bytes_are in cc)
nine_from_one t Over h = absurd (let e : None ≡ Some (t ∷ []) = h.bytes_are in cc)

-- the cell of a tag is one alone
pub one_tag : (s t : ℕ) (c : Cell) → Some (s ∷ []) ≡ Some (t ∷ []) → s ≡ t
one_tag s t c e = ap (λ (bs : List ℕ). get_or bs 0 0) (same_Some (s ∷ []) (t ∷ []) e)

-- the record of null by its parts
pub null_from_parts : (t : ℕ) (n : ℤ) → t ≡ 0 → n ≡ pos 0 → IsRecordIn Nine (nine_bytes t n) Empty
null_from_parts t n tag_is num_is = record {
  valid = tt;
  bytes_are = ap (λ (k : ℕ). Some (nine_bytes k (pos 0))) (sym tag_is) ∙ ap (λ (z : ℤ). Some (nine_bytes t z)) (sym num_is);
}

-- of nulls and numbers only null has a record of 1 byte, which is 0
pub numeric_in_one : (t : ℕ) (c : Cell) → IsRecordIn One (t ∷ []) c → IsNumeric c → (c ≡ Empty) × (t ≡ 0)
numeric_in_one t Empty h numeric = (refl, sym (one_tag 0 t Empty h.bytes_are))
numeric_in_one t (Flag b) h numeric = absurd numeric
numeric_in_one t (Number q) h numeric = absurd (let e : None ≡ Some (t ∷ []) = h.bytes_are in cc)
numeric_in_one t Over h numeric = absurd (let e : None ≡ Some (t ∷ []) = h.bytes_are in cc)

-- any 9 bytes are those of their two parts
pub nine_bytes-parts : (bs : List ℕ) → length bs ≡ 9 → ((k : ℕ) → get_or bs k 0 < 256) → nine_bytes (get_or bs 0 0) (cast_signed w64 (from_be_bytes w64 (take 8 (drop 1 bs)))) ≡ bs
unfolding nine_bytes
nine_bytes-parts [] h small = absurd (omega arith)
nine_bytes-parts (x ∷ xs) h small =
    let len : length xs ≡ 8 = omega arith in
    let whole : take 8 xs ≡ xs = ap (λ (n : ℕ). take n xs) (sym len) ∙ take-length xs in
    let bytes : (k : ℕ) → get_or xs k 0 < 256 = λ k. small (suc k) in
    let m = from_be_bytes w64 (take 8 xs) in
    let below : m < 2 ^ 64 = from_bytes_below (take 8 xs) (take_below 8 xs bytes) in
    ap (λ (k : ℕ). x ∷ to_be_bytes w64 k) (of_z-to_z w64 m below) ∙ ap (λ (ys : List ℕ). x ∷ ys) (be_bytes_8 (take 8 xs) m (ap length whole ∙ len) (take_below 8 xs bytes) refl ∙ whole)

-- eight bytes of a record are eight bytes of what it stands in
pub eight_behind : (bytes : List ℕ) (at : ℕ) → take 8 (drop (at + 1) bytes) ≡ take 8 (drop 1 (take 9 (drop at bytes)))
eight_behind bytes at =
    ap (take 8) (sym (drop-drop 1 at bytes))
    ∙ sym (take-take 8 8 (drop 1 (drop at bytes)) (omega arith))
    ∙ ap (take 8) (sym (drop-take 1 8 (drop at bytes)))

-- what reading makes of the parts of 9 bytes at an offset
pub nine_bytes-read : (bytes part : List ℕ) (at : ℕ) (n : ℤ) → at + 9 ≤ length bytes → ((k : ℕ) → get_or bytes k 0 < 256) → part ≡ take 8 (drop (at + 1) bytes) → n ≡ cast_signed w64 (from_be_bytes w64 part) → nine_bytes (get_or bytes at 0) n ≡ take 9 (drop at bytes)
nine_bytes-read bytes part at n room small part_is n_is =
    let bs = take 9 (drop at bytes) in
    let len : length bs ≡ 9 = length-take 9 (drop at bytes) ∙ omega (arith, length-drop at bytes, room) in
    let here : at + 0 ≡ at = omega arith in
    let head : get_or bytes at 0 ≡ get_or bs 0 0 = sym (get_or-take 9 (drop at bytes) 0 0 (omega arith) ∙ get_or-drop at bytes 0 0 ∙ ap (λ (k : ℕ). get_or bytes k 0) here) in
    let bytes_small : (k : ℕ) → get_or bs k 0 < 256 = take_below 9 (drop at bytes) (λ k. rw get_or-drop (small (at + k))) in
    ap (λ (t : ℕ). nine_bytes t n) head
    ∙ ap (nine_bytes (get_or bs 0 0)) (n_is ∙ ap (λ (xs : List ℕ). cast_signed w64 (from_be_bytes w64 xs)) (part_is ∙ eight_behind bytes at))
    ∙ nine_bytes-parts bs len bytes_small

-- numbers with the same parts are one cell
pub number_is : (q : Fraction) (n : ℤ) (d : ℕ) → q.num ≡ n → q.den ≡ d → Number q ≡ Number (record { num = n; den = d })
number_is q n d num_is den_is =
    ap (λ (z : ℤ). Number (record { num = z; den = q.den })) num_is ∙ ap (λ (k : ℕ). Number (record { num = n; den = k })) den_is

-- −2^63 is too far from 0
pub least_is_far : (n : ℤ) → FitsSigned w64 n → cast_unsigned w64 n ≡ 9223372036854775808 → ¬ (unsigned_abs n < 2 ^ 63)
least_is_far n fits e small = omega (arith, ints)
