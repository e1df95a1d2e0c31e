-- The computed cell of a record is the one that the record is of.
use Rattle.std.proofs.Common.{◌≡◌, ◌≢◌, ◌==◌, ◌&&◌, true, false, Bool, ℕ, ◌<◌, ◌≤◌, ◌^◌, w64, List, [], ◌∷◌, length, get_or, take, inl, inr, Option, Some, None, refl, sym, ap, ◌∙◌, subst, arith, ℤ, pos, FitsSigned, unsigned_abs, lt-ltb, eq-eqb, eqb-true}
use Rattle.std.specs.Prelude.{nat_lt, nat_le, slice_get}
use Rattle.std.specs.List.{All, list_all}
use Rattle.std.proofs.lemmas.List.{get_or-take, length-take-le, take-take}
use Rattle.std.proofs.lemmas.List.Sums.{list_all-from_AllPass}
use Rattle.std.proofs.lemmas.Option.{same_Some, slice_get-get_or}
use Rattle.std.specs.Int.{cast_unsigned, cast_signed}
use Rattle.std.specs.Option.{option_map_or}
use Rattle.std.proofs.lemmas.Bool.{and_parts, cases_lt, le-leb, leb-true, ltb-true}
use Rattle.std.proofs.lemmas.Nat.{from_be_bytes-to_be_bytes_8}
use Rattle.std.proofs.lemmas.Int.{to_z-of_z}
use Rattle.oe_cell.specs.Cells.{IsCell}
use Rattle.oe_cell.specs.Exact.{gcd_of}
use Rattle.oe_cell.specs.Fraction.{Fraction, IsNumber}
use Rattle.oe_cell.specs.Kinds.{IsNumeric}
use Rattle.oe_cell.specs.Record.{bytes_of, record_of}
use Rattle.oe_cell.proofs.Coprime.{IsCoprime-from_gcd, IsGcd-gcd_of, one_from_IsCoprime}
use Rattle.oe_cell.proofs.RecordLemmas.{cast_below, same_from_record}
use Rattle.oe_cell.specs.declared.cell.Cell.{Cell}
use Rattle.oe_cell.specs.declared.cell.Cell.TheVariants.{Empty, Flag, Number, Over}
use Rattle.oe_cube.specs.Kinds.{is_null_or_of}
use Rattle.oe_dims.specs.Names.{same_name}
use Rattle.oe_dims.proofs.OrderLemmas.{same_name_is, same_name_refl}
use Rattle.oe_dims.specs.declared.kind.CellKind.{CellKind}
use Rattle.oe_dims.specs.declared.kind.CellKind.TheVariants.{Numbers, Flags}
use Rattle.oe_sources.specs.StoredCell.{IsStoredAs, candidate, fraction_in, is_valid_cell, is_valid_number, stored_cell}
use Rattle.oe_sources.proofs.SourceLemmas.{one_of_kind}
use Rattle.oe_wide.specs.Wide.{HaveRecords, IsRecordIn, nine_bytes, part_at, record_in}
use Rattle.oe_wide.proofs.NineLemmas.{guarded, num_fits, number_is}
use Rattle.oe_wide.specs.declared.width.Width.{Width}
use Rattle.oe_wide.specs.declared.width.Width.TheVariants.{One, Nine, Seventeen}

num_of-nine : (t : ℕ) (n : ℤ) → FitsSigned w64 n → (fraction_in (nine_bytes t n)).num ≡ n
unfolding nine_bytes
num_of-nine t n fits =
    ap (cast_signed w64) (from_be_bytes-to_be_bytes_8 (cast_unsigned w64 n) (cast_below n fits)) ∙ to_z-of_z w64 n fits

num_of-bytes_of : (t : ℕ) (n : ℤ) (d : ℕ) → FitsSigned w64 n → (fraction_in (bytes_of t n d)).num ≡ n
unfolding bytes_of
num_of-bytes_of t n d fits =
    ap (cast_signed w64) (from_be_bytes-to_be_bytes_8 (cast_unsigned w64 n) (cast_below n fits)) ∙ to_z-of_z w64 n fits

den_of-bytes_of : (t : ℕ) (n : ℤ) (d : ℕ) → d < 2 ^ 64 → (fraction_in (bytes_of t n d)).den ≡ d
unfolding bytes_of
den_of-bytes_of t n d fits = from_be_bytes-to_be_bytes_8 d fits

candidate-nine : (n : ℤ) → candidate (nine_bytes 5 n) ≡ Number (record { num = (fraction_in (nine_bytes 5 n)).num; den = 1 })
unfolding candidate nine_bytes
candidate-nine n = refl

candidate-seventeen : (n : ℤ) (d : ℕ) → candidate (bytes_of 3 n d) ≡ Number (fraction_in (bytes_of 3 n d))
unfolding candidate bytes_of
candidate-seventeen n d = refl

-- the bytes of a record, and what is its cell
moved : (b bytes : List ℕ) (c : Cell) → Some b ≡ Some bytes → candidate b ≡ c → candidate bytes ≡ c
moved b bytes c e h = ap candidate (sym (same_Some b bytes e)) ∙ h

small_one : (t : ℕ) → (candidate (0 ∷ []) ≡ Empty) × (candidate (1 ∷ []) ≡ Flag false) × (candidate (2 ∷ []) ≡ Flag true)
unfolding candidate
small_one t = (refl, refl, refl)

small_nine : (candidate (nine_bytes 0 (pos 0)) ≡ Empty) × (candidate (nine_bytes 1 (pos 0)) ≡ Flag false) × (candidate (nine_bytes 2 (pos 0)) ≡ Flag true)
unfolding candidate nine_bytes
small_nine = (refl, refl, refl)

small_seventeen : (candidate (bytes_of 0 (pos 0) 0) ≡ Empty) × (candidate (bytes_of 1 (pos 0) 0) ≡ Flag false) × (candidate (bytes_of 2 (pos 0) 0) ≡ Flag true)
unfolding candidate bytes_of
small_seventeen = (refl, refl, refl)

pub candidate_is : (w : Width) (bytes : List ℕ) (c : Cell) → IsRecordIn w bytes c → c ≢ Over → candidate bytes ≡ c
candidate_is One bytes Empty h n = moved (0 ∷ []) bytes Empty h.bytes_are (small_one 0).0
candidate_is One bytes (Flag false) h n = moved (1 ∷ []) bytes (Flag false) h.bytes_are (small_one 0).1
candidate_is One bytes (Flag true) h n = moved (2 ∷ []) bytes (Flag true) h.bytes_are (small_one 0).2
candidate_is One bytes (Number q) h n = absurd (let e : None ≡ Some bytes = h.bytes_are in cc)
candidate_is One bytes Over h n = absurd (n refl)
candidate_is Nine bytes Empty h n = moved (nine_bytes 0 (pos 0)) bytes Empty h.bytes_are small_nine.0
candidate_is Nine bytes (Flag false) h n = moved (nine_bytes 1 (pos 0)) bytes (Flag false) h.bytes_are small_nine.1
candidate_is Nine bytes (Flag true) h n = moved (nine_bytes 2 (pos 0)) bytes (Flag true) h.bytes_are small_nine.2
candidate_is Nine bytes (Number q) h n =
    let both = guarded (q.den == 1) (nine_bytes 5 q.num) bytes h.bytes_are in
    let num = num_of-nine 5 q.num (num_fits q h.valid) in
    ap candidate (sym both.1) ∙ candidate-nine q.num
    ∙ ap (λ (z : ℤ). Number (record { num = z; den = 1 })) num
    ∙ sym (number_is q q.num 1 refl (eqb-true q.den 1 both.0))
candidate_is Nine bytes Over h n = absurd (n refl)
candidate_is Seventeen bytes Empty h n = moved (bytes_of 0 (pos 0) 0) bytes Empty h.bytes_are small_seventeen.0
candidate_is Seventeen bytes (Flag false) h n = moved (bytes_of 1 (pos 0) 0) bytes (Flag false) h.bytes_are small_seventeen.1
candidate_is Seventeen bytes (Flag true) h n = moved (bytes_of 2 (pos 0) 0) bytes (Flag true) h.bytes_are small_seventeen.2
candidate_is Seventeen bytes (Number q) h n =
    let num = num_of-bytes_of 3 q.num q.den (num_fits q h.valid) in
    let small : q.den < 2 ^ 63 = IsNumber.den_fits h.valid in
    let den = den_of-bytes_of 3 q.num q.den (omega (arith, small)) in
    moved (bytes_of 3 q.num q.den) bytes (Number q) h.bytes_are
    (candidate-seventeen q.num q.den ∙ number_is (fraction_in (bytes_of 3 q.num q.den)) q.num q.den num den)
candidate_is Seventeen bytes Over h n = absurd (n refl)

-- ---- the tests say what they test

valid_number : (q : Fraction) → IsNumber q → is_valid_number q ≡ true
valid_number q h =
    rw (lt-ltb (unsigned_abs q.num) (2 ^ 63) h.num_fits, le-leb 1 q.den (let p : 0 < q.den = h.den_positive in omega (arith, p)), lt-ltb q.den (2 ^ 63) h.den_fits, eq-eqb (gcd_of (unsigned_abs q.num) q.den) 1 (one_from_IsCoprime (unsigned_abs q.num) q.den (gcd_of (unsigned_abs q.num) q.den) (IsGcd-gcd_of (unsigned_abs q.num) q.den) h.reduced)) refl

number_from_valid : (q : Fraction) → is_valid_number q ≡ true → IsNumber q
number_from_valid q h =
    let last = and_parts (nat_lt (unsigned_abs q.num) (2 ^ 63) && nat_le 1 q.den && nat_lt q.den (2 ^ 63)) (gcd_of (unsigned_abs q.num) q.den == 1) h in
    let third = and_parts (nat_lt (unsigned_abs q.num) (2 ^ 63) && nat_le 1 q.den) (nat_lt q.den (2 ^ 63)) last.0 in
    let second = and_parts (nat_lt (unsigned_abs q.num) (2 ^ 63)) (nat_le 1 q.den) third.0 in
    record {
      num_fits = ltb-true (unsigned_abs q.num) (2 ^ 63) second.0;
      den_positive = let p : 1 ≤ q.den = leb-true 1 q.den second.1 in omega (arith, p);
      den_fits = ltb-true q.den (2 ^ 63) third.1;
      reduced = IsCoprime-from_gcd (unsigned_abs q.num) q.den (gcd_of (unsigned_abs q.num) q.den) (IsGcd-gcd_of (unsigned_abs q.num) q.den) (eqb-true (gcd_of (unsigned_abs q.num) q.den) 1 last.1);
    }

valid_cell : (c : Cell) → IsCell c → is_valid_cell c ≡ true
valid_cell (Number q) h = valid_number q h
valid_cell Empty h = refl
valid_cell (Flag b) h = refl
valid_cell Over h = refl

cell_from_valid : (c : Cell) → is_valid_cell c ≡ true → IsCell c
cell_from_valid (Number q) h = number_from_valid q h
cell_from_valid Empty h = tt
cell_from_valid (Flag b) h = tt
cell_from_valid Over h = tt

not_over : (kind : CellKind) (c : Cell) → is_null_or_of kind c ≡ true → c ≢ Over
not_over Numbers Over h e = cc
not_over Flags Over h e = cc
not_over kind Empty h e = cc
not_over kind (Flag b) h e = cc
not_over kind (Number q) h e = cc

-- ---- the computed cell

record_test : List ℕ → Option (List ℕ) → Bool
record_test bytes o = option_map_or (same_name bytes) o false

test_from_record : (bytes : List ℕ) (o : Option (List ℕ)) → o ≡ Some bytes → option_map_or (same_name bytes) o false ≡ true
test_from_record bytes o e = rw e (same_name_refl bytes)

record_from_test : (bytes : List ℕ) (o : Option (List ℕ)) → option_map_or (same_name bytes) o false ≡ true → o ≡ Some bytes
record_from_test bytes None h = cc
record_from_test bytes (Some r) h = ap Some (same_name_is bytes r h)

pub stored_from : (kind : CellKind) (w : Width) (bytes : List ℕ) (c : Cell) → IsStoredAs kind w bytes c → stored_cell kind w bytes ≡ Some c
unfolding stored_cell
stored_from kind w bytes c h =
    rw (candidate_is w bytes c h.is_record (not_over kind c h.of_kind), valid_cell c h.is_record.valid, h.of_kind, test_from_record bytes (record_in w c) h.is_record.bytes_are) refl

pub from_stored : (kind : CellKind) (w : Width) (bytes : List ℕ) (c : Cell) → stored_cell kind w bytes ≡ Some c → IsStoredAs kind w bytes c
unfolding stored_cell
from_stored kind w bytes c e =
    let d = candidate bytes in
    let both = guarded (is_valid_cell d && is_null_or_of kind d && option_map_or (same_name bytes) (record_in w d) false) d c e in
    let last = and_parts (is_valid_cell d && is_null_or_of kind d) (option_map_or (same_name bytes) (record_in w d) false) both.0 in
    let first = and_parts (is_valid_cell d) (is_null_or_of kind d) last.0 in
    subst (IsStoredAs kind w bytes) both.1 (record {
      is_record = record { valid = cell_from_valid d first.0; bytes_are = record_from_test bytes (record_in w d) last.1 };
      of_kind = first.1;
    })

-- no cell of the kind is stored where no cell has the record
pub none_stored : (kind : CellKind) (w : Width) (bytes : List ℕ) → ((c : Cell) → ¬ IsRecordIn w bytes c) → stored_cell kind w bytes ≡ None
none_stored kind w bytes h = none_or (stored_cell kind w bytes) (λ c e. h c (from_stored kind w bytes c e).is_record)
  where
    none_or : (o : Option Cell) → ((c : Cell) → ¬ (o ≡ Some c)) → o ≡ None
    none_or None k = refl
    none_or (Some c) k = absurd (k c refl)

-- nor where a cell of another kind has it
pub other_kind : (kind : CellKind) (w : Width) (bytes : List ℕ) (c : Cell) → IsRecordIn w bytes c → is_null_or_of kind c ≡ false → stored_cell kind w bytes ≡ None
other_kind kind w bytes c h other = none_or (stored_cell kind w bytes) (λ d e. not_both d (from_stored kind w bytes d e))
  where
    none_or : (o : Option Cell) → ((d : Cell) → ¬ (o ≡ Some d)) → o ≡ None
    none_or None k = refl
    none_or (Some d) k = absurd (k d refl)

    over_alone : (v : Width) (d : Cell) → IsRecordIn v bytes Over → IsRecordIn v bytes d → d ≡ Over
    over_alone One d a b = absurd (let e : None ≡ Some bytes = a.bytes_are in cc)
    over_alone Nine d a b = absurd (let e : None ≡ Some bytes = a.bytes_are in cc)
    over_alone Seventeen d a b =
        same_from_record d Over b.valid tt (same_Some (record_of d) bytes b.bytes_are ∙ sym (same_Some (record_of Over) bytes a.bytes_are))

    same_cell : (e : Cell) → IsRecordIn w bytes e → (d : Cell) → IsStoredAs kind w bytes d → e ≡ d
    same_cell Over k d s = sym (over_alone w d k s.is_record)
    same_cell Empty k d s = sym (candidate_is w bytes Empty k (λ x. cc)) ∙ candidate_is w bytes d s.is_record (not_over kind d s.of_kind)
    same_cell (Flag b) k d s = sym (candidate_is w bytes (Flag b) k (λ x. cc)) ∙ candidate_is w bytes d s.is_record (not_over kind d s.of_kind)
    same_cell (Number q) k d s = sym (candidate_is w bytes (Number q) k (λ x. cc)) ∙ candidate_is w bytes d s.is_record (not_over kind d s.of_kind)

    not_both : (d : Cell) → ¬ (IsStoredAs kind w bytes d)
    not_both d s =
        let wrong : false ≡ true = sym other ∙ ap (is_null_or_of kind) (same_cell c h d s) ∙ s.of_kind in cc

-- ---- rows of records

-- the cells that were read, up to one of another kind, are the stored ones
pub row_stored : (kind : CellKind) (w : Width) (bytes : List ℕ) (into : List Cell) (count n : ℕ) → count ≤ length into → n ≤ count → HaveRecords w bytes (take count into) → list_all (is_null_or_of kind) (take n (take count into)) ≡ true → (k : ℕ) → k < n → stored_cell kind w (part_at w bytes k) ≡ slice_get into k
row_stored kind w bytes into count n room within have all k below =
    let c = get_or into k Empty in
    let there : slice_get into k ≡ Some c = slice_get-get_or into k Empty (omega (arith, below, within, room)) in
    let long : length (take count into) ≡ count = length-take-le count into room in
    let front : get_or (take count into) k Empty ≡ c = get_or-take count into k Empty (omega (arith, below, within)) in
    let same : slice_get (take count into) k ≡ Some c = slice_get-get_or (take count into) k Empty (omega (arith, below, within, long)) ∙ ap Some front in
    let kinds : is_null_or_of kind c ≡ true = ap (is_null_or_of kind) (sym (get_or-take n (take count into) k Empty below ∙ front)) ∙ one_of_kind kind (take n (take count into)) k all in
    stored_from kind w (part_at w bytes k) c (record { is_record = have k c same; of_kind = kinds }) ∙ sym there

-- where reading stopped no cell of the kind is stored
pub row_stop : (kind : CellKind) (w : Width) (bytes : List ℕ) (into : List Cell) (count n : ℕ) → count ≤ length into → n ≤ count → HaveRecords w bytes (take count into) → ((c : Cell) → slice_get (take count into) n ≡ Some c → is_null_or_of kind c ≡ false) → (count < length into → (c : Cell) → ¬ IsRecordIn w (part_at w bytes count) c) → n < length into → stored_cell kind w (part_at w bytes n) ≡ None
row_stop kind w bytes into count n room within have first stop below =
    elim (cases_lt n count) [
      | inl inner ↦ (
          let c = get_or (take count into) n Empty in
          let long : length (take count into) ≡ count = length-take-le count into room in
          let same : slice_get (take count into) n ≡ Some c = slice_get-get_or (take count into) n Empty (omega (arith, inner, long)) in
          other_kind kind w (part_at w bytes n) c (have n c same) (first c same))
      | inr outer ↦ (
          let e : n ≡ count = omega (arith, outer, within) in
          none_stored kind w (part_at w bytes n) (λ c h. stop (omega (arith, e, below)) c (subst (λ (m : ℕ). IsRecordIn w (part_at w bytes m) c) e h)))
    ]

-- ---- rows of nulls and numbers in records of 9 bytes

-- they are what a collection of numbers may hold
number_fits : (bytes : List ℕ) (c : Cell) → IsRecordIn Nine bytes c → IsNumeric c → is_null_or_of Numbers c ≡ true
number_fits bytes Empty h numeric = refl
number_fits bytes (Flag b) h numeric = absurd numeric
number_fits bytes (Number q) h numeric = refl
number_fits bytes Over h numeric = absurd (let e : None ≡ Some bytes = h.bytes_are in cc)

pub numbers_of_kind : (kind : CellKind) (bytes : List ℕ) (cells : List Cell) → kind ≡ Numbers → HaveRecords Nine bytes cells → All IsNumeric cells → list_all (is_null_or_of kind) cells ≡ true
numbers_of_kind kind bytes cells e have numeric =
    ap (λ (d : CellKind). list_all (is_null_or_of d) cells) e ∙ list_all-from_AllPass (is_null_or_of Numbers) cells each
  where
    each : (k : ℕ) (d : Cell) → k < length cells → is_null_or_of Numbers (get_or cells k d) ≡ true
    each k d below =
        number_fits (part_at Nine bytes k) (get_or cells k d) (have k (get_or cells k d) (slice_get-get_or cells k d below)) (numeric k d below)

-- the cells that were read are the stored ones
pub numbers_stored : (kind : CellKind) (bytes : List ℕ) (into : List Cell) (n : ℕ) → kind ≡ Numbers → n ≤ length into → HaveRecords Nine bytes (take n into) → All IsNumeric (take n into) → (k : ℕ) → k < n → stored_cell kind Nine (part_at Nine bytes k) ≡ slice_get into k
numbers_stored kind bytes into n e room have numeric =
    let same : n ≤ n = omega arith in
    row_stored kind Nine bytes into n n room same have
    (ap (λ (cs : List Cell). list_all (is_null_or_of kind) cs) (take-take n n into same) ∙ numbers_of_kind kind bytes (take n into) e have numeric)

-- where no null and no number has the record no cell of a collection of numbers is stored
pub number_stop : (kind : CellKind) (bytes : List ℕ) → kind ≡ Numbers → ((c : Cell) → IsRecordIn Nine bytes c → ¬ IsNumeric c) → stored_cell kind Nine bytes ≡ None
number_stop kind bytes e none =
    none_or (stored_cell kind Nine bytes) (λ c is. not_stored c (from_stored kind Nine bytes c is))
  where
    none_or : (o : Option Cell) → ((c : Cell) → ¬ (o ≡ Some c)) → o ≡ None
    none_or None k = refl
    none_or (Some c) k = absurd (k c refl)

    numeric_of : (c : Cell) → is_null_or_of Numbers c ≡ true → IsNumeric c
    numeric_of Empty h = tt
    numeric_of (Flag b) h = absurd (let wrong : false ≡ true = h in cc)
    numeric_of (Number q) h = tt
    numeric_of Over h = tt

    not_stored : (c : Cell) → ¬ (IsStoredAs kind Nine bytes c)
    not_stored c s = none c s.is_record (numeric_of c (ap (λ (d : CellKind). is_null_or_of d c) (sym e) ∙ s.of_kind))

-- what holds of the width that was chosen
pub stored_in : (w v : Width) (kind : CellKind) (bytes : List ℕ) (into : List Cell) (n : ℕ) → w ≡ v → ((k : ℕ) → k < n → stored_cell kind v (part_at v bytes k) ≡ slice_get into k) → (k : ℕ) → k < n → stored_cell kind w (part_at w bytes k) ≡ slice_get into k
stored_in w v kind bytes into n e h k below =
    ap (λ (u : Width). stored_cell kind u (part_at u bytes k)) e ∙ h k below

pub stopped_in : (w v : Width) (kind : CellKind) (bytes : List ℕ) (n : ℕ) → w ≡ v → stored_cell kind v (part_at v bytes n) ≡ None → stored_cell kind w (part_at w bytes n) ≡ None
stopped_in w v kind bytes n e h = ap (λ (u : Width). stored_cell kind u (part_at u bytes n)) e ∙ h
