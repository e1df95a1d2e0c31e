-- One part that is laid out, and one part more of all parts.
use Rattle.std.proofs.Common.{◌≡◌, ◌⊎◌, ℕ, zero, suc, ◌+◌, ◌*◌, ◌<◌, inl, inr, List, [], ◌∷◌, ◌++◌, length, drop, set, take, Option, Some, None, Result, Ok, Err, IfErr, IfOk, IfSome, OnOk, refl, sym, ap, ◌∙◌, subst, arith}
use Rattle.std.specs.List.{All, slice_get}
use Rattle.std.specs.Option.{option_map}
use Rattle.std.proofs.lemmas.Bool.{cases_lt}
use Rattle.std.proofs.lemmas.List.{get_or-set_same, length-set, take_all}
use Rattle.std.proofs.lemmas.Option.{same_Some, slice_get-get_or, slice_get-map, slice_get_within}
use Rattle.oe_cell.specs.Cells.{IsCell}
use Rattle.oe_cell.specs.Record.{IsRecord, records_of}
use Rattle.oe_cell.specs.declared.cell.Cell.{Cell}
use Rattle.oe_dims.specs.Cube.{Cube}
use Rattle.oe_dims.specs.Dimensions.{Dimensions, IsShape}
use Rattle.oe_dims.specs.Positions.{IsPosition, Position}
use Rattle.oe_outside.specs.Faults.{HasCauseOf, NeverFalls}
use Rattle.oe_outside.specs.Stored.{HoldsAt}
use Rattle.oe_outside.proofs.Causes.{NeverFalls-refl, NeverFalls-trans, then-Rose}
use Rattle.oe_outside.proofs.Stores.{HoldsAt-second}
use Rattle.oe_spool.specs.Least.{lesser_of}
use Rattle.oe_spool.specs.Spooled.{ChangesOnly}
use Rattle.oe_spool.proofs.KeptLemmas.{change_of_more}
use Rattle.oe_parts.specs.Head.{PartHead, front_bytes}
use Rattle.oe_parts.specs.Laid.{AreLaid, HaveRecords, IsInFirst, IsInPart, IsUndamaged, LayStops, Lays, LaysChunks, PartStops, TellsPiece, fail_at}
use Rattle.oe_parts.specs.PartFile.{IsDamagedAt, IsPartOf, cells_on_all, chunks_of, part_cells, part_numbers}
use Rattle.oe_parts.specs.Parts.{ArePartsRead, IsPartRead, PartState, ShowPartsOf, ShowsPartOf, heads_of}
use Rattle.oe_parts.specs.Rows.{HaveRecordsAt, Shows}
use Rattle.oe_parts.specs.Whole.{AreWhole, RunOutline}
use Rattle.oe_parts.specs.declared.laying.PieceFail.{PieceFail}
use Rattle.oe_parts.specs.declared.laying.PieceFail.TheVariants.{Damaged, Failed, SpoolFailed}
use Rattle.oe_parts.proofs.LaidLemmas.{AreApart, changes_then, have_more, have_same, laid_more, laid_same}
use Rattle.oe_parts.proofs.LayLemmas.{all_covered, cube_laid, has_cells, part_sets, parts_apart}

-- ---- one part

-- a part of a cube shows the records of its cells behind its front
part_shows : (store : Option (List ℕ)) (at : ℕ) (head : PartHead) (cube : Cube Cell) (bytes : List ℕ) → at ≡ length (front_bytes head) → store ≡ Some bytes → IsPartOf bytes head cube → Shows store at (cells_on_all cube (chunks_of head))
part_shows store at head cube bytes at_is visible part =
    let front = front_bytes head in
    let records = records_of (cells_on_all cube (chunks_of head)) in
    let here : HoldsAt bytes 0 bytes = take_all (length bytes) bytes (omega arith) in
    let whole : HoldsAt bytes 0 (front ++ records) = subst (HoldsAt bytes 0) part.bytes_are here in
    let place : 0 + length front ≡ at = omega (arith, at_is) in
    (bytes, visible, subst (λ (n : ℕ). HoldsAt bytes n records) place (HoldsAt-second bytes 0 front records whole))

pub ok_cube : (part : PartState) (at base : ℕ) (spool : Option (List ℕ)) (result : Result (Option ℕ) PieceFail) → at ≡ length (front_bytes part.head)
    → IfOk result (LaysChunks part.head part.bytes at spool base)
    → IfOk result (λ least. (cube : Cube Cell) → ShowsPartOf cube part → AreLaid spool base cube (IsInPart part.head) least)
ok_cube part at base spool (Ok least) is laid = λ cube shows.
    laid.cube cube shows.2.shape shows.2.cells (part_shows part.bytes at part.head cube shows.0 is shows.1 shows.2)
ok_cube part at base spool (Err fail) is laid = tt

pub ok_some : (part : PartState) (at base : ℕ) (spool : Option (List ℕ)) (result : Result (Option ℕ) PieceFail) → IfOk result (LaysChunks part.head part.bytes at spool base) → IfOk result (HaveRecords spool base part.head.shape (IsInPart part.head))
ok_some part at base spool (Ok least) laid = laid.some
ok_some part at base spool (Err fail) laid = tt

pub ok_sound : (part : PartState) (at base : ℕ) (spool : Option (List ℕ)) (result : Result (Option ℕ) PieceFail) → at ≡ length (front_bytes part.head) → IfOk result (LaysChunks part.head part.bytes at spool base) → OnOk result (IsUndamaged part)
ok_sound part at base spool (Ok least) is laid = subst (λ (n : ℕ). HaveRecordsAt part.bytes n (part_cells part.head)) is laid.sound
ok_sound part at base spool (Err fail) is laid = tt

damaged_there : (store : Option (List ℕ)) (head : PartHead) (at number : ℕ) → at ≡ length (front_bytes head) → TellsPiece store at (part_numbers head) (Damaged number) → IfSome store (λ bytes. IsDamagedAt bytes head number)
damaged_there None head at number is h = tt
damaged_there (Some all) head at number is h =
    let place : at + 17 * h.0 ≡ length (front_bytes head) + 17 * h.0 = ap (λ (n : ℕ). n + 17 * h.0) is in
    (h.0, h.1, subst (λ (n : ℕ). ¬ IsRecord (take 17 (drop n all))) place h.2)

pub err_stops : (part after : PartState) (at faults faults_after : ℕ) (result : Result (Option ℕ) PieceFail) → at ≡ length (front_bytes part.head) → IfErr result (TellsPiece part.bytes at (part_numbers part.head)) → HasCauseOf Failed part.faults after.faults result → HasCauseOf SpoolFailed faults faults_after result → IfErr result (PartStops part after faults faults_after)
err_stops part after at faults faults_after (Ok least) is tells read written = tt
err_stops part after at faults faults_after (Err Failed) is tells read written = read.failed refl
err_stops part after at faults faults_after (Err (Damaged number)) is tells read written = damaged_there part.bytes part.head at number is tells
err_stops part after at faults faults_after (Err SpoolFailed) is tells read written = written.failed refl

-- ---- reads of parts

read_then : (a b c : PartState) → IsPartRead a b → IsPartRead b c → IsPartRead a c
read_then a b c first second = record {
  name = second.name ∙ first.name;
  head = second.head ∙ first.head;
  bytes = second.bytes ∙ first.bytes;
  faults = NeverFalls-trans first.faults second.faults;
}

pub parts_unread : (parts : List PartState) → ArePartsRead parts parts
parts_unread parts = record {
  many = refl;
  each = λ index old new at_old at_new. subst (IsPartRead old) (same_Some old new (sym at_old ∙ at_new)) (record { name = refl; head = refl; bytes = refl; faults = NeverFalls-refl old.faults });
}

-- what stands in a list after a write is what was written, or stood there before
one_written : (parts : List PartState) (k index : ℕ) (old new b : PartState) → slice_get parts k ≡ Some old → slice_get (set parts k new) index ≡ Some b → ((index ≡ k) × (b ≡ new)) ⊎ (slice_get parts index ≡ Some b)
one_written [] k index old new b at here = absurd cc
one_written (x ∷ xs) zero zero old new b at here = inl (refl, sym (same_Some new b here))
one_written (x ∷ xs) zero (suc index) old new b at here = inr here
one_written (x ∷ xs) (suc k) zero old new b at here = inr here
one_written (x ∷ xs) (suc k) (suc index) old new b at here = elim (one_written xs k index old new b at here) [
  | inl both ↦ inl (ap suc both.0, both.1)
  | inr there ↦ inr there
]

pub parts_read : (first parts : List PartState) (k : ℕ) (old new : PartState) → ArePartsRead first parts → slice_get parts k ≡ Some old → IsPartRead old new → ArePartsRead first (set parts k new)
parts_read first parts k old new before at read = record {
  many = length-set parts k new ∙ before.many;
  each = λ index a b at_a at_b. elim (one_written parts k index old new b at at_b) [
    | inl both ↦ (let here : slice_get parts index ≡ Some old = ap (slice_get parts) both.0 ∙ at in
        subst (IsPartRead a) (sym both.1) (read_then a old new (before.each index a old at_a here) read))
    | inr there ↦ before.each index a b at_a there
  ];
}

pub shows_read : (cube : Cube Cell) (old new : PartState) → IsPartRead old new → ShowsPartOf cube old → ShowsPartOf cube new
shows_read cube old new read shows = (shows.0, read.bytes ∙ shows.1, subst (λ (h : PartHead). IsPartOf shows.0 h cube) (sym read.head) shows.2)

undamaged_read : (old new : PartState) → IsPartRead old new → IsUndamaged new → IsUndamaged old
undamaged_read old new read sound =
    subst (λ (h : PartHead). HaveRecordsAt old.bytes (length (front_bytes h)) (part_cells h)) read.head
    (subst (λ (b : Option (List ℕ)). HaveRecordsAt b (length (front_bytes new.head)) (part_cells new.head)) read.bytes sound)

pub undamaged_more : (parts : List PartState) (k : ℕ) (old new : PartState) → slice_get parts k ≡ Some old → IsPartRead old new → IsUndamaged new
    → ((index : ℕ) (part : PartState) → index < k → slice_get parts index ≡ Some part → IsUndamaged part) → (index : ℕ) (part : PartState) → index < k + 1 → slice_get parts index ≡ Some part → IsUndamaged part
undamaged_more parts k old new at read sound before index part below here = elim (cases_lt index k) [
  | inl lt ↦ before index part lt here
  | inr ge ↦ (let last : index ≡ k = omega (arith, below, ge) in
      let same : old ≡ part = same_Some old part (sym at ∙ ap (slice_get parts) (sym last) ∙ here) in
      subst IsUndamaged same (undamaged_read old new read sound))
]

set_there : (parts : List PartState) (k : ℕ) (new : PartState) → k < length parts → slice_get (set parts k new) k ≡ Some new
set_there parts k new below =
    let within : k < length (set parts k new) = omega (arith, below, length-set parts k new) in
    slice_get-get_or (set parts k new) k new within ∙ ap Some (get_or-set_same parts k new new below)

pub lay_stops : (first parts : List PartState) (k faults now after : ℕ) (origin old new : PartState) (fail : PieceFail) → slice_get first k ≡ Some origin → slice_get parts k ≡ Some old → IsPartRead origin old → NeverFalls faults now → PartStops old new now after fail → LayStops first (set parts k new) faults after (fail_at k fail)
lay_stops first parts k faults now after origin old new Failed at_first at read falls stops =
    (origin, new, at_first, set_there parts k new (slice_get_within parts k old at), then-Rose read.faults stops)
lay_stops first parts k faults now after origin old new (Damaged number) at_first at read falls stops = (
  origin,
  at_first,
  subst (λ (h : PartHead). IfSome origin.bytes (λ bytes. IsDamagedAt bytes h number)) read.head
      (subst (λ (b : Option (List ℕ)). IfSome b (λ bytes. IsDamagedAt bytes old.head number)) read.bytes stops),
)
lay_stops first parts k faults now after origin old new SpoolFailed at_first at read falls stops = then-Rose falls stops

-- the head of a part that stands at an index, which reads did not change
pub head_there : (parts : List PartState) (k : ℕ) (part : PartState) (h : PartHead) → slice_get parts k ≡ Some part → h ≡ part.head → slice_get (heads_of parts) k ≡ Some h
head_there parts k part h at same =
    let f : PartState → PartHead = λ p. p.head in
    slice_get-map f parts k ∙ ap (option_map f) at ∙ ap Some (sym same)

-- ---- one part more

-- these are the heads of the parts of a run whose result has this valid shape
pub record AreAll (d : Dimensions) (heads : List PartHead) : Type 0 where
  pub run : RunOutline
  pub same : run.shape ≡ d
  pub whole : AreWhole run heads
  pub shape : IsShape d

run_shape : (d : Dimensions) (heads : List PartHead) (all : AreAll d heads) → IsShape all.run.shape
run_shape d heads all = subst IsShape (sym all.same) all.shape

apart : (d : Dimensions) (heads : List PartHead) → AreAll d heads → AreApart d (part_sets heads) (length heads)
apart d heads all =
    let whole = all.whole in
    subst (λ (e : Dimensions). AreApart e (part_sets heads) (length heads)) all.same (parts_apart all.run whole.sides heads whole.of_run (run_shape d heads all) whole.tile)

module _ (before after : Option (List ℕ)) (base k : ℕ) (d : Dimensions) (heads : List PartHead) (h : PartHead) (all : AreAll d heads) (at : slice_get heads k ≡ Some h) (changes : ChangesOnly base h.shape (IsInPart h) before after) where
  below : k < length heads
  below = slice_get_within heads k h at

  shape_is : h.shape ≡ d
  shape_is = (all.whole.of_run.each k h at).shape ∙ all.same

  into : (p : Position) → IsInPart h p → part_sets heads k p
  into p inside = (h, at, inside)

  back : (p : Position) → part_sets heads k p → IsInPart h p
  back p inside = subst (λ (g : PartHead). IsInPart g p) (same_Some inside.0 h (sym inside.1 ∙ at)) inside.2

  changed : ChangesOnly base d (part_sets heads k) before after
  changed = change_of_more base d (IsInPart h) (part_sets heads k) before after into (subst (λ (e : Dimensions). ChangesOnly base e (IsInPart h) before after) shape_is changes)

  pub part_cube : (cube : Cube Cell) (least found : Option ℕ) → cube.shape ≡ d → AreLaid after base cube (IsInPart h) found → AreLaid before base cube (IsInFirst (part_sets heads) k) least → AreLaid after base cube (IsInFirst (part_sets heads) (k + 1)) (lesser_of least found)
  part_cube cube least found same here old =
      laid_more before after base cube (part_sets heads) (length heads) k least found
      (subst (λ (e : Dimensions). AreApart e (part_sets heads) (length heads)) (sym same) (apart d heads all)) below
      (subst (λ (e : Dimensions). ChangesOnly base e (part_sets heads k) before after) (sym same) changed) old
      (laid_same after base cube (IsInPart h) (part_sets heads k) found into back here)

  pub part_some : (least found : Option ℕ) → HaveRecords after base h.shape (IsInPart h) found → HaveRecords before base d (IsInFirst (part_sets heads) k) least → HaveRecords after base d (IsInFirst (part_sets heads) (k + 1)) (lesser_of least found)
  part_some least found here old =
      have_more before after base d (part_sets heads) (length heads) k least found (apart d heads all) below changed old
      (have_same after base d (IsInPart h) (part_sets heads k) found back (subst (λ (e : Dimensions). HaveRecords after base e (IsInPart h) found) shape_is here))

  pub part_then : (old : Option (List ℕ)) → ChangesOnly base d (IsPosition d) old before → ChangesOnly base d (IsPosition d) old after
  part_then old earlier = changes_then old before after base d (IsPosition d) (part_sets heads k) (λ p inside. (apart d heads all).inside k p below inside) earlier changed

-- ---- all parts

pub all_laid : (store : Option (List ℕ)) (base : ℕ) (d : Dimensions) (parts : List PartState) (least : Option ℕ) → AreAll d (heads_of parts)
    → ((cube : Cube Cell) → cube.shape ≡ d → ShowPartsOf cube parts → AreLaid store base cube (IsInFirst (part_sets (heads_of parts)) (length (heads_of parts))) least)
    → HaveRecords store base d (IsInFirst (part_sets (heads_of parts)) (length (heads_of parts))) least
    → ((index : ℕ) (part : PartState) → index < length parts → slice_get parts index ≡ Some part → IsUndamaged part) → Lays base d parts store least
all_laid store base d parts least all laid have sound =
    let heads = heads_of parts in
    let whole = all.whole in
    let shape = run_shape d heads all in
    record {
      cube = λ cube is same shows. cube_laid all.run whole.sides heads whole.of_run shape whole.tile store base cube least is (same ∙ sym all.same) (laid cube same shows);
      cells = λ none. has_cells store base d (IsInFirst (part_sets heads) (length heads)) least (λ p inside.
          all_covered all.run whole.sides heads whole.of_run shape whole.tile p (subst (λ (e : Dimensions). IsPosition e p) (sym all.same) inside)) have none;
      undamaged = λ index part at. sound index part (slice_get_within parts index part at) at;
    }
