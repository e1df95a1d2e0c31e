-- A loop that writes the records of a window run by run, and the loop that writes one run piece by piece.
use Rattle.std.proofs.Common.{◌≡◌, ℕ, zero, suc, ◌+◌, ◌-◌, ◌*◌, ◌/◌, ◌<◌, ◌≤◌, inl, inr, List, [], ◌∷◌, ◌++◌, length, take, drop, Option, Some, None, refl, ap, sym, ◌∙◌, subst, arith}
use Rattle.std.specs.List.{slice_get, slice_range}
use Rattle.std.specs.Option.{option_map}
use Rattle.std.proofs.Math.Seq.{take-add}
use Rattle.std.proofs.lemmas.Bool.{cases_lt}
use Rattle.std.proofs.lemmas.Grind.{common_steps, flat_map-append}
use Rattle.std.proofs.lemmas.List.{length-append, length-map, length-take-le, length-drop}
use Rattle.std.proofs.lemmas.Option.{same_Some, slice_get-map, slice_get_within}
use Rattle.oe_cell.specs.Record.{record_of, records_of}
use Rattle.oe_cell.specs.declared.cell.Cell.{Cell}
use Rattle.oe_cell.specs.declared.cell.Cell.TheVariants.{Empty}
use Rattle.oe_cell.proofs.ListLemmas.{length-records_of}
use Rattle.oe_cell.proofs.RecordLemmas.{length-record_of}
use Rattle.oe_dims.specs.Cube.{Cube}
use Rattle.oe_dims.specs.Dimensions.{Dimensions}
use Rattle.oe_dims.specs.Positions.{number_of}
use Rattle.oe_dims.proofs.FlatMapLemmas.{value_at}
use Rattle.oe_outside.specs.Stored.{Puts, StaysOutside, HoldsAt, StoreHolds}
use Rattle.oe_outside.proofs.Stores.{HoldsAt-first, HoldsAt-second, StoreHolds-behind, StoreHolds-elsewhere, StaysOutside-put, StaysOutside-trans, StaysOutside-within}
use Rattle.oe_spool.specs.Spooled.{record_offset, HoldsRecord, HoldsWindow, IsRecordByte, ChangesOnly}
use Rattle.oe_spool.proofs.KeptLemmas.{kept_outside, kept_then}
use Rattle.oe_window.specs.Cells.{cell_at, cells_on}
use Rattle.oe_window.specs.Runs.{window_numbers, AreRising, EndWithin}
use Rattle.oe_window.specs.Windows.{IsIn, positions, position_count, number_in}
use Rattle.oe_window.specs.declared.window.Window.{Window}
use Rattle.oe_window.proofs.CellLemmas.{cells_on-at}
use Rattle.oe_window.proofs.VisitLemmas.{Visiting, visiting_goes, visiting_ends, visited_number, rising_below}
use Rattle.oe_window.proofs.WindowLemmas.{position_at, position_number, length-positions}

-- ---- one piece behind the others of a run

taken_more : (cells : List Cell) (done count : ℕ) → take (done + count) cells ≡ take done cells ++ slice_range cells done (done + count)
taken_more cells done count =
    let n : done + count - done ≡ count = omega arith in
    rw n (take-add done count cells)

-- the records of the next piece follow those that stand
pub piece_behind : (before after : Option (List ℕ)) (at done count : ℕ) (cells : List Cell) → done + count ≤ length cells → StoreHolds before at (records_of (take done cells)) → Puts before (at + 17 * done) (records_of (slice_range cells done (done + count))) after → StoreHolds after at (records_of (take (done + count) cells))
piece_behind before after at done count cells within held puts =
    let held_cells = take done cells in
    let piece = slice_range cells done (done + count) in
    let long : at + 17 * done ≡ at + length (records_of held_cells) = omega (arith, length-records_of held_cells, length-take-le done cells (omega arith)) in
    let all : records_of (take (done + count) cells) ≡ records_of held_cells ++ records_of piece = ap records_of (taken_more cells done count) ∙ flat_map-append record_of held_cells piece in
    subst (StoreHolds after at) (sym all)
    (StoreHolds-behind before after at (records_of held_cells) (records_of piece) held (subst (λ n. Puts before n (records_of piece) after) long puts))

-- a piece of a run leaves what is outside the run
pub piece_outside : (first before after : Option (List ℕ)) (at done count n : ℕ) → done + count ≤ n → StaysOutside first at (17 * n) before → StaysOutside before (at + 17 * done) (17 * count) after → StaysOutside first at (17 * n) after
piece_outside first before after at done count n within earlier here =
    StaysOutside-trans first before after at (17 * n) earlier
    (StaysOutside-within before after (at + 17 * done) (17 * count) at (17 * n) (omega arith) (omega arith) here)

length-slice : (cells : List Cell) (done count : ℕ) → done + count ≤ length cells → length (slice_range cells done (done + count)) ≡ count
length-slice cells done count within = grind (arith, common_steps)

pub length-piece : (before after : Option (List ℕ)) (at done count : ℕ) (cells : List Cell) → done + count ≤ length cells → StaysOutside before at (17 * length (slice_range cells done (done + count))) after → StaysOutside before at (17 * count) after
length-piece before after at done count cells within here =
    subst (λ n. StaysOutside before at (17 * n) after) (length-slice cells done count within) here

pub piece_put_outside : (before after : Option (List ℕ)) (at done count : ℕ) (cells : List Cell) → done + count ≤ length cells → Puts before at (records_of (slice_range cells done (done + count))) after → StaysOutside before at (17 * count) after
piece_put_outside before after at done count cells within puts =
    let piece = slice_range cells done (done + count) in
    StaysOutside-put before after at (17 * count) (records_of piece) (omega (arith, length-records_of piece, length-slice cells done count within)) puts

-- the buffer keeps its room
pub room_kept : (bytes new : List ℕ) (count : ℕ) → length bytes ≡ 69632 → count ≤ 4096 → length new ≡ length (take (17 * count) bytes) → length (new ++ drop (17 * count) bytes) ≡ 69632
room_kept bytes new count room few same =
    let taken = length-take-le (17 * count) bytes (omega arith) in
    let rest = length-drop (17 * count) bytes in
    length-append new (drop (17 * count) bytes) ∙ omega arith

-- ---- one record out of those of a run

pub record_within : (all : List ℕ) (at : ℕ) (cells : List Cell) (j : ℕ) (c : Cell) → slice_get cells j ≡ Some c → HoldsAt all at (records_of cells) → HoldsAt all (at + 17 * j) (record_of c)
record_within all at [] j c e held = cc
record_within all at (x ∷ xs) zero c e held =
    let same : at + 17 * 0 ≡ at = omega arith in
    subst (λ n. HoldsAt all n (record_of c)) (sym same)
    (subst (λ cell. HoldsAt all at (record_of cell)) (same_Some x c e) (HoldsAt-first all at (record_of x) (records_of xs) held))
record_within all at (x ∷ xs) (suc j) c e held =
    let next : at + length (record_of x) + 17 * j ≡ at + 17 * suc j = omega (arith, length-record_of x) in
    subst (λ n. HoldsAt all n (record_of c)) next
    (record_within all (at + length (record_of x)) xs j c e (HoldsAt-second all at (record_of x) (records_of xs) held))

pub store_record_within : (store : Option (List ℕ)) (at : ℕ) (cells : List Cell) (j : ℕ) (c : Cell) → slice_get cells j ≡ Some c → StoreHolds store at (records_of cells) → StoreHolds store (at + 17 * j) (record_of c)
store_record_within None at cells j c e held = tt
store_record_within (Some all) at cells j c e held = record_within all at cells j c e held

-- ---- a loop over the runs of a window

-- the records of the first so many cells stand at their numbers
abbrev pub AreWritten : Option (List ℕ) → ℕ → List ℕ → List Cell → ℕ → Type 0
AreWritten store base numbers cells done =
    (i number : ℕ) (c : Cell) → i < done → slice_get numbers i ≡ Some number → slice_get cells i ≡ Some c → HoldsRecord store base number c

-- an element of a part of a list
part_get : (cells : List Cell) (done count j : ℕ) → j < count → slice_get (slice_range cells done (done + count)) j ≡ slice_get cells (done + j)
part_get cells done count j lt =
    let n : done + count - done ≡ count = omega arith in
    rw n (taken_get (drop done cells) count j lt ∙ dropped_get cells done j)
  where
    dropped_get : (xs : List Cell) (n i : ℕ) → slice_get (drop n xs) i ≡ slice_get xs (n + i)
    dropped_get xs zero i = let same : 0 + i ≡ i = omega arith in rw same refl
    dropped_get [] (suc n) i = refl
    dropped_get (x ∷ xs) (suc n) i = let next : suc n + i ≡ suc (n + i) = omega arith in rw next (dropped_get xs n i)

    taken_get : (xs : List Cell) (n i : ℕ) → i < n → slice_get (take n xs) i ≡ slice_get xs i
    taken_get xs zero i h = absurd (omega arith)
    taken_get [] (suc n) i h = refl
    taken_get (x ∷ xs) (suc n) zero h = refl
    taken_get (x ∷ xs) (suc n) (suc i) h = taken_get xs n i (omega arith)

-- a window has as many numbers as positions
pub length-numbers : (d : Dimensions) (w : Window) → length (window_numbers d w) ≡ position_count w
length-numbers d w = length-map (positions w) (number_of d) ∙ length-positions w

-- the next run takes up numbers that are left
pub part_within : (numbers : List ℕ) (left next : List (ℕ × ℕ)) (first count done : ℕ) → Visiting numbers left done → left ≡ (first, count) ∷ next → done + count ≤ length numbers
part_within numbers left next first count done v e =
    let rest = (visiting_goes numbers left next first count done v e).lengths in omega arith

-- the next run, and those after it, end within the cells
pub within_next : (end : ℕ) (left next : List (ℕ × ℕ)) (first count : ℕ) → left ≡ (first, count) ∷ next → EndWithin end left → (first + count ≤ end) × EndWithin end next
within_next end left next first count e within =
    let here : EndWithin end ((first, count) ∷ next) = subst (EndWithin end) e within in (here.0, here.1)

-- the records of one more run
pub written_more : (before after : Option (List ℕ)) (base : ℕ) (numbers : List ℕ) (cells : List Cell) (left next : List (ℕ × ℕ)) (first count done : ℕ) → AreRising numbers → Visiting numbers left done → left ≡ (first, count) ∷ next → AreWritten before base numbers cells done → StoreHolds after (base + 17 * first) (records_of (slice_range cells done (done + count))) → StaysOutside before (base + 17 * first) (17 * count) after → AreWritten after base numbers cells (done + count)
written_more before after base numbers cells left next first count done rising v e written held outside i number c lt at_i cell_i =
    elim (cases_lt i done) [
      | inl old ↦ elim (cases_lt 0 count) [
        | inl some ↦
            let there = visited_number numbers left next first count done 0 v e some in
            let none : first + 0 ≡ first = omega arith in
            let same : done + 0 ≡ done = omega arith in
            let there_too : slice_get numbers done ≡ Some first = ap (slice_get numbers) (sym same) ∙ there ∙ ap Some none in
            let below = rising_below numbers i done number first rising old at_i there_too in
            StoreHolds-elsewhere before after (record_offset base number) (base + 17 * first) (17 * count) (record_of c) (written i number c old at_i cell_i) outside (inl (omega (arith, length-record_of c)))
        | inr none ↦
            let empty : 17 * count ≡ 0 = omega arith in
            let h = cases_lt number first in elim h [
              | inl low ↦ StoreHolds-elsewhere before after (record_offset base number) (base + 17 * first) (17 * count) (record_of c) (written i number c old at_i cell_i) outside (inl (omega (arith, length-record_of c)))
              | inr high ↦ StoreHolds-elsewhere before after (record_offset base number) (base + 17 * first) (17 * count) (record_of c) (written i number c old at_i cell_i) outside (inr (omega arith))
            ]
      ]
      | inr new ↦
          let j = i - done in
          let here : done + j ≡ i = omega arith in
          let short : j < count = omega arith in
          let there = visited_number numbers left next first count done j v e short in
          let number_is : number ≡ first + j = same_Some number (first + j) (sym at_i ∙ ap (slice_get numbers) (sym here) ∙ there) in
          let cell_there = part_get cells done count j short ∙ ap (slice_get cells) here ∙ cell_i in
          let place : base + 17 * first + 17 * j ≡ record_offset base number = omega arith in
          subst (λ n. StoreHolds after n (record_of c)) place (store_record_within after (base + 17 * first) (slice_range cells done (done + count)) j c cell_there held)
    ]

-- the bytes of a run are of records of the window
byte_of_run : (base : ℕ) (d : Dimensions) (w : Window) (left next : List (ℕ × ℕ)) (first count done k : ℕ) → Visiting (window_numbers d w) left done → left ≡ (first, count) ∷ next → base + 17 * first ≤ k → k < base + 17 * first + 17 * count → IsRecordByte base d (IsIn w) k
byte_of_run base d w left next first count done k v e low high =
    let j = (k - (base + 17 * first)) / 17 in
    let short : j < count = omega arith in
    let there = visited_number (window_numbers d w) left next first count done j v e short in
    let found = value_at (number_of d) (positions w) (done + j) (first + j) there in
    let number_is = found.2 in
    record {
      p = found.0;
      inside = (position_number w (done + j) found.0 found.1).0;
      begun = omega arith;
      before = omega arith;
    }

-- a run changes only records of the window
pub changes_more : (old before after : Option (List ℕ)) (base : ℕ) (d : Dimensions) (w : Window) (left next : List (ℕ × ℕ)) (first count done : ℕ) → Visiting (window_numbers d w) left done → left ≡ (first, count) ∷ next → ChangesOnly base d (IsIn w) old before → StaysOutside before (base + 17 * first) (17 * count) after → ChangesOnly base d (IsIn w) old after
changes_more old before after base d w left next first count done v e changed outside =
    kept_then (IsRecordByte base d (IsIn w)) old before after changed
    (kept_outside (IsRecordByte base d (IsIn w)) (base + 17 * first) (17 * count) before after (λ k low high. byte_of_run base d w left next first count done k v e low high) outside)

-- all records of the window, of a cube with these cells
pub window_written : (store : Option (List ℕ)) (base : ℕ) (d : Dimensions) (w : Window) (cells : List Cell) (left : List (ℕ × ℕ)) (done : ℕ) → Visiting (window_numbers d w) left done → left ≡ [] → AreWritten store base (window_numbers d w) cells done → (cube : Cube Cell) → cube.shape ≡ d → cells_on Empty cube w ≡ cells → HoldsWindow store base cube w
window_written store base d w cells left done v e written cube of_shape same p h =
    let ends = visiting_ends (window_numbers d w) left done v e in
    let i = number_in w p in
    let at_i : slice_get (window_numbers d w) i ≡ Some (number_of d p) = slice_get-map (number_of d) (positions w) i ∙ ap (option_map (number_of d)) (position_at w p h) in
    let within = slice_get_within (window_numbers d w) i (number_of d p) at_i in
    let cell_i : slice_get cells i ≡ Some (cell_at Empty cube p) = ap (λ cs. slice_get cs i) (sym same) ∙ cells_on-at Empty cube w p h in
    subst (λ s. HoldsRecord store base (number_of s p) (cell_at Empty cube p)) (sym of_shape)
    (written i (number_of d p) (cell_at Empty cube p) (omega arith) at_i cell_i)
