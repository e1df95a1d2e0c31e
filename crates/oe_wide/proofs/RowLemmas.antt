-- Records of one width, one behind the other: how long they are, and where each stands.
use Rattle.std.proofs.Common.{◌≡◌, ℕ, zero, suc, ◌+◌, ◌-◌, ◌*◌, ◌/◌, ◌<◌, ◌≤◌, min, true, false, List, [], ◌∷◌, ◌++◌, length, get_or, set, take, drop, Option, Some, None, IsSome, unwrap_or, inl, inr, refl, sym, ap, ◌∙◌, subst, arith, add-one}
use Rattle.std.specs.Prelude.{if◌then◌else◌, ◌==◌, slice_get}
use Rattle.std.specs.List.{All, flat_map}
use Rattle.std.proofs.lemmas.Bool.{cases_lt}
use Rattle.std.proofs.lemmas.List.{append-nil, length-append, length-take, length-take-le, length-drop, take_more, take_more_set, take_all, take-take, drop-take}
use Rattle.std.proofs.lemmas.List.Elements.{All-get_or, All-push}
use Rattle.std.proofs.lemmas.Option.{slice_get_within, get_or_from_slice_get}
use Rattle.std.proofs.lemmas.Grind.{flat_map-append}
use Rattle.std.proofs.Math.Nat.{mul-suc, mul-add}
use Rattle.std.proofs.Math.Seq.{take-append_seam, drop-append-add}
use Rattle.oe_cell.specs.Cells.{IsCell}
use Rattle.oe_cell.specs.Kinds.{IsNumeric}
use Rattle.oe_cell.specs.Record.{records_of}
use Rattle.oe_cell.proofs.RecordLemmas.{length-record_of}
use Rattle.oe_cell.specs.declared.cell.Cell.{Cell}
use Rattle.oe_cell.specs.declared.cell.Cell.TheVariants.{Empty, Flag, Number, Over}
use Rattle.oe_wide.specs.Wide.{AllFitIn, FitsIn, HaveRecords, IsRecordIn, byte_count, nine_bytes, part_at, record_bytes, record_in, records_in}
use Rattle.oe_wide.specs.declared.width.Width.{Width}
use Rattle.oe_wide.specs.declared.width.Width.TheVariants.{One, Nine, Seventeen}

mul_more : (n k : ℕ) → n * (k + 1) ≡ n * k + n
mul_more n k = ap (λ (m : ℕ). n * m) (add-one k) ∙ mul-suc n k

length-nine_bytes : (t : ℕ) (z : _) → length (nine_bytes t z) ≡ 9
unfolding nine_bytes
length-nine_bytes t z = refl

-- the record of a cell that fits
pub bytes_of_record : (w : Width) (c : Cell) → FitsIn w c → record_in w c ≡ Some (record_bytes w c)
bytes_of_record w c fits = some_value (record_in w c) fits
  where
    some_value : (o : Option (List ℕ)) → IsSome o → o ≡ Some (unwrap_or o [])
    some_value (Some bytes) h = refl
    some_value None h = cc

chosen : (b : _) (bytes : List ℕ) → length bytes ≡ 9 → IsSome (if b then Some bytes else None) → length (unwrap_or (if b then Some bytes else None) []) ≡ 9
chosen true bytes long fits = long
chosen false bytes long fits = cc

pub length-record_bytes : (w : Width) (c : Cell) → FitsIn w c → length (record_bytes w c) ≡ byte_count w
length-record_bytes One Empty fits = refl
length-record_bytes One (Flag false) fits = refl
length-record_bytes One (Flag true) fits = refl
length-record_bytes One (Number q) fits = cc
length-record_bytes One Over fits = cc
length-record_bytes Nine Empty fits = length-nine_bytes 0 _
length-record_bytes Nine (Flag false) fits = length-nine_bytes 1 _
length-record_bytes Nine (Flag true) fits = length-nine_bytes 2 _
length-record_bytes Nine (Number q) fits = chosen (q.den == 1) (nine_bytes 5 q.num) (length-nine_bytes 5 q.num) fits
length-record_bytes Nine Over fits = cc
length-record_bytes Seventeen c fits = length-record_of c

-- a record has as many bytes as its width says
pub length-record : (w : Width) (bytes : List ℕ) (c : Cell) → IsRecordIn w bytes c → length bytes ≡ byte_count w
length-record w bytes c h =
    ap (λ (o : Option (List ℕ)). length (unwrap_or o [])) (sym h.bytes_are) ∙ length-record_bytes w c (ap_some h.bytes_are)
  where
    ap_some : record_in w c ≡ Some bytes → FitsIn w c
    ap_some e = subst (λ (o : Option (List ℕ)). IsSome o) (sym e) refl

-- the record at an index among the records of cells
pub records_in-at : (w : Width) (cells : List Cell) (k : ℕ) → AllFitIn w cells → k < length cells → part_at w (records_in w cells) k ≡ record_bytes w (get_or cells k Empty)
records_in-at w [] k fit h = absurd (omega (arith, h))
records_in-at w (c ∷ cs) zero fit h =
    let long : byte_count w ≡ length (record_bytes w c) = sym (length-record_bytes w c (fit 0 Empty (omega arith))) in
    let none : byte_count w * 0 ≡ 0 = omega arith in
    ap (λ (n : ℕ). take (byte_count w) (drop n (record_bytes w c ++ records_in w cs))) none ∙ ap (λ (n : ℕ). take n (record_bytes w c ++ records_in w cs)) long ∙ take-append_seam (record_bytes w c) (records_in w cs)
records_in-at w (c ∷ cs) (suc k) fit h =
    let within : k < length cs = omega (arith, h) in
    let long : length (record_bytes w c) ≡ byte_count w = length-record_bytes w c (fit 0 Empty (omega arith)) in
    let past : byte_count w * suc k ≡ length (record_bytes w c) + byte_count w * k = omega (arith, mul-suc (byte_count w) k, long) in
    ap (λ (n : ℕ). take (byte_count w) (drop n (record_bytes w c ++ records_in w cs))) past ∙ ap (take (byte_count w)) (drop-append-add (record_bytes w c) (records_in w cs) (byte_count w * k)) ∙ records_in-at w cs k (λ j d b. fit (suc j) d (omega (arith, b))) within

slice_get_front : (xs ys : List Cell) (j : ℕ) → j < length xs → slice_get (xs ++ ys) j ≡ slice_get xs j
slice_get_front [] ys j h = absurd (omega (arith, h))
slice_get_front (x ∷ xs) ys zero h = refl
slice_get_front (x ∷ xs) ys (suc j) h = slice_get_front xs ys j (omega (arith, h))

slice_get_seam : (xs ys : List Cell) (y : Cell) → slice_get (xs ++ y ∷ ys) (length xs) ≡ Some y
slice_get_seam [] ys y = refl
slice_get_seam (x ∷ xs) ys y = slice_get_seam xs ys y

-- one record more was read
pub have_more : (w : Width) (bytes : List ℕ) (into : List Cell) (k : ℕ) (c : Cell) → k < length into → HaveRecords w bytes (take k into) → IsRecordIn w (part_at w bytes k) c → HaveRecords w bytes (take (k + 1) (set into k c))
have_more w bytes into k c within before here =
    subst (HaveRecords w bytes) (sym (take_more_set into k c within)) pushed
  where
    long : length (take k into) ≡ k
    long = length-take-le k into (omega (arith, within))

    last : (j : ℕ) (d : Cell) → k ≤ j → slice_get (take k into ++ c ∷ []) j ≡ Some d → IsRecordIn w (part_at w bytes j) d
    last j d above e =
        let all : length (take k into ++ c ∷ []) ≡ k + 1 = length-append (take k into) (c ∷ []) ∙ omega (arith, long) in
        let end : j < length (take k into ++ c ∷ []) = slice_get_within (take k into ++ c ∷ []) j d e in
        let at_end : j ≡ length (take k into) = omega (arith, long, all, end, above) in
        let same : Some c ≡ Some d = sym (slice_get_seam (take k into) [] c) ∙ ap (slice_get (take k into ++ c ∷ [])) (sym at_end) ∙ e in
        let is : c ≡ d = cc in
        subst (λ (n : ℕ). IsRecordIn w (part_at w bytes n) d) (sym (at_end ∙ long)) (subst (IsRecordIn w (part_at w bytes k)) is here)

    pushed : HaveRecords w bytes (take k into ++ c ∷ [])
    pushed j d e =
        elim (cases_lt j k) [
          | inl below ↦ before j d (sym (slice_get_front (take k into) (c ∷ []) j (omega (arith, long, below))) ∙ e)
          | inr above ↦ last j d above e
        ]

-- the records of cells that fit are theirs
pub have_all : (w : Width) (cells : List Cell) → AllFitIn w cells → All IsCell cells → HaveRecords w (records_in w cells) cells
have_all w cells fit valid k c e =
    let within : k < length cells = slice_get_within cells k c e in
    let here : get_or cells k Empty ≡ c = get_or_from_slice_get cells k c Empty e in
    let part : part_at w (records_in w cells) k ≡ record_bytes w c = records_in-at w cells k fit within ∙ ap (record_bytes w) here in
    record {
      valid = subst IsCell here (All-get_or IsCell cells k Empty within valid);
      bytes_are = bytes_of_record w c (subst (FitsIn w) here (All-get_or (FitsIn w) cells k Empty within fit)) ∙ ap Some (sym part);
    }

-- no cell has a record of fewer bytes
pub none_from_short : (w : Width) (bytes : List ℕ) → length bytes < byte_count w → (c : Cell) → ¬ (IsRecordIn w bytes c)
none_from_short w bytes short c h = omega (arith, short, length-record w bytes c h)

-- one record more was written behind the first ones
pub written_more : (w : Width) (bytes new : List ℕ) (cells : List Cell) (k : ℕ) (c : Cell) → byte_count w * k + byte_count w ≤ length bytes → k < length cells → c ≡ get_or cells k c → FitsIn w c → take (byte_count w * k) bytes ≡ records_in w (take k cells) → new ≡ take (byte_count w * k) bytes ++ record_bytes w c ++ drop (byte_count w * k + byte_count w) bytes → take (byte_count w * (k + 1)) new ≡ records_in w (take (k + 1) cells)
written_more w bytes new cells k c room within here fits before after =
    let n = byte_count w in
    let front : List ℕ = take (n * k) bytes ++ record_bytes w c in
    let long : length front ≡ n * (k + 1) = length-append (take (n * k) bytes) (record_bytes w c) ∙ omega (arith, length-take-le (n * k) bytes (omega (arith, room)), length-record_bytes w c fits, mul_more n k) in
    let more : records_in w (take (k + 1) cells) ≡ records_in w (take k cells) ++ record_bytes w c = ap (records_in w) (take_more cells k c within) ∙ flat_map-append (record_bytes w) (take k cells) (get_or cells k c ∷ []) ∙ ap (λ (bs : List ℕ). records_in w (take k cells) ++ bs) (append-nil (record_bytes w (get_or cells k c))) ∙ ap (λ (d : Cell). records_in w (take k cells) ++ record_bytes w d) (sym here) in
    ap (take (n * (k + 1))) after
    ∙ ap (λ (m : ℕ). take m (front ++ drop (n * k + n) bytes)) (sym long)
    ∙ take-append_seam front (drop (n * k + n) bytes)
    ∙ ap (λ (bs : List ℕ). bs ++ record_bytes w c) before
    ∙ sym more

-- all records were written
pub written_all : (w : Width) (into : List ℕ) (cells : List Cell) (k : ℕ) → length into ≤ byte_count w * k → length cells ≤ k → take (byte_count w * k) into ≡ records_in w (take k cells) → into ≡ records_in w cells
written_all w into cells k long past same =
    sym (take_all (byte_count w * k) into long) ∙ same ∙ ap (records_in w) (take_all k cells past)

-- records were read up to an index, or past it
pub have_up_to : (w : Width) (bytes : List ℕ) (into : List Cell) (k n : ℕ) → n ≡ k → HaveRecords w bytes (take k into) → HaveRecords w bytes (take n into)
have_up_to w bytes into k n e h = subst (λ (m : ℕ). HaveRecords w bytes (take m into)) (sym e) h

pub others_up_to : (into old : List Cell) (k n : ℕ) → n ≡ k → drop k into ≡ drop k old → drop n into ≡ drop n old
others_up_to into old k n e h = subst (λ (m : ℕ). drop m into ≡ drop m old) (sym e) h

-- one null or number more was read, and they were read up to an index or past it
pub numeric_more : (into : List Cell) (k : ℕ) (c : Cell) → k < length into → All IsNumeric (take k into) → IsNumeric c → All IsNumeric (take (k + 1) (set into k c))
numeric_more into k c within all numeric =
    subst (λ (cs : List Cell). All IsNumeric cs) (sym (take_more_set into k c within)) (All-push IsNumeric (take k into) c all numeric)

pub numeric_up_to : (into : List Cell) (k n : ℕ) → n ≡ k → All IsNumeric (take k into) → All IsNumeric (take n into)
numeric_up_to into k n e h = subst (λ (m : ℕ). All IsNumeric (take m into)) (sym e) h

some_bytes : (w : Width) → 0 < byte_count w
some_bytes One = omega arith
some_bytes Nine = omega arith
some_bytes Seventeen = omega arith

-- behind the last whole record there are fewer bytes than one has
pub short_part : (w : Width) (bytes : List ℕ) (k : ℕ) → length bytes < byte_count w * k + byte_count w → (c : Cell) → ¬ (IsRecordIn w (part_at w bytes k) c)
short_part w bytes k short =
    none_from_short w (part_at w bytes k) (omega (arith, short, some_bytes w, length-take (byte_count w) (drop (byte_count w * k) bytes), length-drop (byte_count w * k) bytes))

-- the record of 1 byte at an index
pub one_part : (bytes : List ℕ) (k : ℕ) → k < length bytes → part_at One bytes k ≡ get_or bytes k 0 ∷ []
one_part bytes k within =
    let same : 1 * k ≡ k = omega arith in
    ap (λ (n : ℕ). take 1 (drop n bytes)) same ∙ first bytes k within
  where
    first : (bytes : List ℕ) (k : ℕ) → k < length bytes → take 1 (drop k bytes) ≡ get_or bytes k 0 ∷ []
    first [] k h = absurd (omega (arith, h))
    first (b ∷ bs) zero h = refl
    first (b ∷ bs) (suc k) h = first bs k (omega (arith, h))

-- one byte is written over one byte
pub single_set : (bytes : List ℕ) (t : ℕ) → length bytes ≡ 1 → set bytes 0 t ≡ t ∷ []
single_set [] t h = absurd (omega arith)
single_set (b ∷ []) t h = refl
single_set (b ∷ c ∷ bs) t h = absurd (omega arith)

-- the record at an index is among the first ones
part_front : (w : Width) (bytes : List ℕ) (k n : ℕ) → k < n → part_at w (take (byte_count w * n) bytes) k ≡ part_at w bytes k
part_front w bytes k n h =
    let b = byte_count w in
    let split : b * n ≡ b * k + b * (n - k) = product_split b n k h in
    let enough : b ≤ b * (n - k) = product_least b (n - k) (omega (arith, h)) in
    ap (λ (m : ℕ). take b (drop (b * k) (take m bytes))) split
    ∙ ap (take b) (drop-take (b * k) (b * (n - k)) bytes)
    ∙ take-take b (b * (n - k)) (drop (b * k) bytes) enough
  where
    product_split : (b n k : ℕ) → k < n → b * n ≡ b * k + b * (n - k)
    product_split b n k h = let e : n ≡ k + (n - k) = omega (arith, h) in ap (λ (m : ℕ). b * m) e ∙ mul-add b k (n - k)

    product_least : (b m : ℕ) → 0 < m → b ≤ b * m
    product_least b zero h = absurd (omega (arith, h))
    product_least b (suc m) h = omega (arith, mul-suc b m)

-- the cells that records of 17 bytes were read as have them
pub from_records_of : (bytes : List ℕ) (read : List Cell) (n : ℕ) → n ≤ length read → All IsCell (take n read) → records_of (take n read) ≡ take (17 * n) bytes → HaveRecords Seventeen bytes (take n read)
from_records_of bytes read n within valid same k c e =
    let below : k < length (take n read) = slice_get_within (take n read) k c e in
    let long : length (take n read) ≡ n = length-take-le n read within in
    let own : IsRecordIn Seventeen (part_at Seventeen (records_of (take n read)) k) c = have_all Seventeen (take n read) (λ j d b. refl) valid k c e in
    let part : part_at Seventeen (records_of (take n read)) k ≡ part_at Seventeen bytes k = ap (λ (bs : List ℕ). part_at Seventeen bs k) same ∙ part_front Seventeen bytes k n (omega (arith, below, long)) in
    subst (λ (bs : List ℕ). IsRecordIn Seventeen bs c) part own

-- what holds of the width that was chosen
pub have_in : (w v : Width) (bytes : List ℕ) (cells : List Cell) → w ≡ v → HaveRecords v bytes cells → HaveRecords w bytes cells
have_in w v bytes cells e h = subst (λ (u : Width). HaveRecords u bytes cells) (sym e) h

-- the records that were written in the width that was chosen
pub have_written : (w v : Width) (into : List ℕ) (cells : List Cell) → w ≡ v → AllFitIn w cells → into ≡ records_in v cells → All IsCell cells → HaveRecords w into cells
have_written w v into cells e fit records valid =
    subst (λ (bs : List ℕ). HaveRecords w bs cells) (ap (λ (u : Width). records_in u cells) e ∙ sym records) (have_all w cells fit valid)
