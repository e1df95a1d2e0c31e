-- The records of a list of cells, one behind the other: how long they are, and where each stands.
use Rattle.std.proofs.Common.{◌≡◌, ℕ, zero, suc, ◌+◌, ◌-◌, ◌*◌, ◌/◌, ◌<◌, ◌≤◌, min, List, [], ◌∷◌, ◌++◌, length, get_or, set, take, drop, inl, inr, refl, sym, ap, ◌∙◌, subst, arith}
use Rattle.std.specs.List.{All}
use Rattle.std.proofs.lemmas.Bool.{cases_lt}
use Rattle.std.proofs.lemmas.List.{append-nil, length-append, length-take, length-take-le, length-drop, take_more, take_more_set, take_all, take-take, drop-take, drop-drop, drop-set-lt}
use Rattle.std.proofs.lemmas.List.Elements.{All-get_or, All-take, All-push}
use Rattle.std.proofs.lemmas.Grind.{flat_map-append, drop_more_same}
use Rattle.std.proofs.Math.Seq.{take-add, take-append_seam, drop-append_seam, take-append-add, drop-append-add}
use Rattle.oe_cell.specs.Cells.{IsCell}
use Rattle.oe_cell.specs.Record.{record_of, records_of, IsRecord}
use Rattle.oe_cell.specs.declared.cell.Cell.{Cell}
use Rattle.oe_cell.specs.declared.cell.Cell.TheVariants.{Empty}
use Rattle.oe_cell.proofs.RecordLemmas.{length-record_of, same_from_record}

pub records_of-at : (cells : List Cell) (k : ℕ) → k < length cells → take 17 (drop (17 * k) (records_of cells)) ≡ record_of (get_or cells k Empty)
records_of-at [] k h = absurd (omega (arith, h))
records_of-at (c ∷ cs) zero h =
    let long : 17 ≡ length (record_of c) = sym (length-record_of c) in
    ap (λ (n : ℕ). take n (record_of c ++ records_of cs)) long ∙ take-append_seam (record_of c) (records_of cs)
records_of-at (c ∷ cs) (suc k) h =
    let within : k < length cs = omega (arith, h) in
    let long : length (record_of c) ≡ 17 = length-record_of c in
    let past : 17 * suc k ≡ length (record_of c) + 17 * k = omega arith in
    ap (λ (n : ℕ). take 17 (drop n (record_of c ++ records_of cs))) past ∙ ap (take 17) (drop-append-add (record_of c) (records_of cs) (17 * k)) ∙ records_of-at cs k within

pub length-records_of : (cells : List Cell) → length (records_of cells) ≡ 17 * length cells
length-records_of [] = refl
length-records_of (c ∷ cs) =
    length-append (record_of c) (records_of cs) ∙ omega (arith, length-record_of c, length-records_of cs)

-- the records of the first cells are the first records
pub records_of-take : (cells : List Cell) (n : ℕ) → n ≤ length cells → records_of (take n cells) ≡ take (17 * n) (records_of cells)
records_of-take cells zero h = refl
records_of-take [] (suc n) h = absurd (omega (arith, h))
records_of-take (c ∷ cs) (suc n) h =
    let long : length (record_of c) ≡ 17 = length-record_of c in
    let past : 17 * suc n ≡ length (record_of c) + 17 * n = omega arith in
    ap (λ (bs : List ℕ). record_of c ++ bs) (records_of-take cs n (omega (arith, h)))
    ∙ sym (take-append-add (record_of c) (records_of cs) (17 * n))
    ∙ ap (λ (m : ℕ). take m (record_of c ++ records_of cs)) (sym past)

-- one cell more is one record more
pub records_of-more : (cells : List Cell) (k : ℕ) → k < length cells → records_of (take (k + 1) cells) ≡ records_of (take k cells) ++ record_of (get_or cells k Empty)
records_of-more cells k h =
    ap records_of (take_more cells k Empty h)
    ∙ flat_map-append record_of (take k cells) (get_or cells k Empty ∷ [])
    ∙ ap (λ (bs : List ℕ). records_of (take k cells) ++ bs) (append-nil (record_of (get_or cells k Empty)))

-- two lists of as many cells with the same records are the same
pub records_of-injective : (xs ys : List Cell) → All IsCell xs → All IsCell ys → length xs ≡ length ys → records_of xs ≡ records_of ys → xs ≡ ys
records_of-injective [] [] h k e same = refl
records_of-injective [] (y ∷ ys) h k e same = absurd (omega (arith, e))
records_of-injective (x ∷ xs) [] h k e same = absurd (omega (arith, e))
records_of-injective (x ∷ xs) (y ∷ ys) h k e same =
    let first : record_of x ≡ record_of y = sym (front x xs) ∙ ap (take 17) same ∙ front y ys in
    let rest : records_of xs ≡ records_of ys = sym (back x xs) ∙ ap (drop 17) same ∙ back y ys in
    ap (λ (c : Cell). c ∷ xs) (same_from_record x y (h 0 Empty (omega arith)) (k 0 Empty (omega arith)) first)
    ∙ ap (λ (cs : List Cell). y ∷ cs) (records_of-injective xs ys (λ j d b. h (suc j) d (omega (arith, b))) (λ j d b. k (suc j) d (omega (arith, b))) (omega (arith, e)) rest)
  where
    front : (c : Cell) (cs : List Cell) → take 17 (record_of c ++ records_of cs) ≡ record_of c
    front c cs =
        ap (λ (n : ℕ). take n (record_of c ++ records_of cs)) (sym (length-record_of c))
        ∙ take-append_seam (record_of c) (records_of cs)

    back : (c : Cell) (cs : List Cell) → drop 17 (record_of c ++ records_of cs) ≡ records_of cs
    back c cs =
        ap (λ (n : ℕ). drop n (record_of c ++ records_of cs)) (sym (length-record_of c))
        ∙ drop-append_seam (record_of c) (records_of cs)

-- one record more was written behind the first ones
pub written-more : (bytes new : List ℕ) (cells : List Cell) (k : ℕ) (c : Cell) → 17 * k + 17 ≤ length bytes → k < length cells → c ≡ get_or cells k Empty → take (17 * k) bytes ≡ records_of (take k cells) → new ≡ take (17 * k) bytes ++ record_of c ++ drop (17 * k + 17) bytes → take (17 * (k + 1)) new ≡ records_of (take (k + 1) cells)
written-more bytes new cells k c room within here before after =
    let front : List ℕ = take (17 * k) bytes ++ record_of c in
    let long : length front ≡ 17 * (k + 1) = length-append (take (17 * k) bytes) (record_of c) ∙ omega (arith, length-take-le (17 * k) bytes (omega (arith, room)), length-record_of c) in
    ap (take (17 * (k + 1))) after
    ∙ ap (λ (n : ℕ). take n (front ++ drop (17 * k + 17) bytes)) (sym long)
    ∙ take-append_seam front (drop (17 * k + 17) bytes)
    ∙ ap (λ (bs : List ℕ). bs ++ record_of c) before
    ∙ ap (λ (e : Cell). records_of (take k cells) ++ record_of e) here
    ∙ sym (records_of-more cells k within)

-- one record of the first ones, beside the bytes that follow
part-at : (bytes : List ℕ) (k n : ℕ) → k < n → take 17 (drop (17 * k) (take (17 * n) bytes)) ≡ take 17 (drop (17 * k) bytes)
part-at bytes k n h =
    let split : 17 * n ≡ 17 * k + 17 * (n - k) = omega (arith, h) in
    ap (λ (m : ℕ). take 17 (drop (17 * k) (take m bytes))) split
    ∙ ap (take 17) (drop-take (17 * k) (17 * (n - k)) bytes)
    ∙ take-take 17 (17 * (n - k)) (drop (17 * k) bytes) (omega (arith, h))

-- cells whose records the bytes begin with are read, since reading stops at no record before
pub reading-complete : (bytes : List ℕ) (read cells : List Cell) (r : ℕ) → r ≤ length read → records_of (take r read) ≡ take (17 * r) bytes → All IsCell (take r read) → (r < length read → ¬ (IsRecord (take 17 (drop (17 * r) bytes)))) → All IsCell cells → length cells ≤ length read → records_of cells ≡ take (17 * length cells) bytes → (length cells ≤ r) × (take (length cells) read ≡ cells)
reading-complete bytes read cells r within same all stop cells_all room given =
    elim (cases_lt r (length cells)) [
      | inl below ↦ absurd (stop (omega (arith, below, room)) (next below))
      | inr above ↦ (above, first above)
    ]
  where
    next : r < length cells → IsRecord (take 17 (drop (17 * r) bytes))
    next below =
        (get_or cells r Empty, All-get_or IsCell cells r Empty below cells_all, sym (records_of-at cells r below) ∙ ap (λ (bs : List ℕ). take 17 (drop (17 * r) bs)) given ∙ part-at bytes r (length cells) below)

    first : length cells ≤ r → take (length cells) read ≡ cells
    first above =
        let n = length cells in
        let twice : take n (take r read) ≡ take n read = take-take n r read above in
        let long : n ≤ length (take r read) = omega (arith, length-take-le r read within, above) in
        let records : records_of (take n (take r read)) ≡ records_of cells = records_of-take (take r read) n long ∙ ap (take (17 * n)) same ∙ take-take (17 * n) (17 * r) bytes (omega (arith, above)) ∙ sym given in
        sym twice ∙ records_of-injective (take n (take r read)) cells (All-take IsCell n (take r read) all) cells_all (length-take-le n (take r read) long) records

-- less than 17 bytes are no record
pub none_from_short : (bytes : List ℕ) → length bytes < 17 → ¬ (IsRecord bytes)
none_from_short bytes h k =
    let long : length bytes ≡ 17 = ap length (sym k.2) ∙ length-record_of k.0 in omega (arith, h, long)

-- all records were written
pub written-all : (into : List ℕ) (cells : List Cell) (k : ℕ) → length into ≡ 17 * length cells → length cells ≤ k → take (17 * k) into ≡ records_of (take k cells) → into ≡ records_of cells
written-all into cells k long past same =
    sym (take_all (17 * k) into (omega (arith, long, past))) ∙ same ∙ ap records_of (take_all k cells past)

-- one cell more was read
pub read-more : (bytes : List ℕ) (into : List Cell) (k : ℕ) (c : Cell) → k < length into → records_of (take k into) ≡ take (17 * k) bytes → record_of c ≡ take 17 (drop (17 * k) bytes) → records_of (take (k + 1) (set into k c)) ≡ take (17 * (k + 1)) bytes
read-more bytes into k c within same here =
    let next : 17 * (k + 1) ≡ 17 * k + 17 = omega arith in
    ap records_of (take_more_set into k c within)
    ∙ flat_map-append record_of (take k into) (c ∷ [])
    ∙ ap (λ (bs : List ℕ). records_of (take k into) ++ bs) (append-nil (record_of c) ∙ here)
    ∙ ap (λ (bs : List ℕ). bs ++ take 17 (drop (17 * k) bytes)) same
    ∙ sym (take-add (17 * k) 17 bytes)
    ∙ ap (λ (n : ℕ). take n bytes) (sym next)

pub cells-more : (into : List Cell) (k : ℕ) (c : Cell) → k < length into → All IsCell (take k into) → IsCell c → All IsCell (take (k + 1) (set into k c))
cells-more into k c within all cell =
    subst (λ (cs : List Cell). All IsCell cs) (sym (take_more_set into k c within)) (All-push IsCell (take k into) c all cell)

pub others-more : (into old : List Cell) (k : ℕ) (c : Cell) → drop k into ≡ drop k old → drop (k + 1) (set into k c) ≡ drop (k + 1) old
others-more into old k c same = drop-set-lt (k + 1) into k c (omega arith) ∙ drop_more_same into old k same

-- behind the last whole record there are less than 17 bytes
pub stop-at_end : (bytes : List ℕ) (room count : ℕ) → count ≡ min (length bytes / 17) room → count < room → ¬ (IsRecord (take 17 (drop (17 * count) bytes)))
stop-at_end bytes room count is below =
    none_from_short (take 17 (drop (17 * count) bytes))
    (omega (arith, is, below, length-take 17 (drop (17 * count) bytes), length-drop (17 * count) bytes))

-- eight bytes of a record are eight bytes of what it stands in
pub eight-at : (bytes : List ℕ) (at i : ℕ) → i + 8 ≤ 17 → take 8 (drop (at + i) bytes) ≡ take 8 (drop i (take 17 (drop at bytes)))
eight-at bytes at i h =
    let split : 17 ≡ i + (17 - i) = omega (arith, h) in
    ap (take 8) (sym (drop-drop i at bytes))
    ∙ sym (take-take 8 (17 - i) (drop i (drop at bytes)) (omega (arith, h)))
    ∙ ap (take 8) (sym (drop-take i (17 - i) (drop at bytes)))
    ∙ ap (λ (n : ℕ). take 8 (drop i (take n (drop at bytes)))) (sym split)
