-- A mosaic as a source: its collection, and what a read of it answers.
use Rattle.std.proofs.Common.{◌≡◌, ℕ, zero, suc, ◌+◌, Bool, true, false, if◌then◌else◌, List, [], ◌∷◌, length, Option, Some, None, IfSome, Result, Ok, Err, refl, sym, ap, ◌∙◌, subst, arith, cond, unwrap_or}
use Rattle.std.specs.List.{Contains, filter, find, list_all, range_with_len, slice_get}
use Rattle.std.specs.Option.{option_and_then, option_map_or}
use Rattle.std.proofs.lemmas.Bool.{and_parts}
use Rattle.std.proofs.lemmas.List.{length-map, nil_from_length}
use Rattle.std.proofs.lemmas.List.Elements.{All-contains, filter_passes}
use Rattle.std.proofs.lemmas.List.Folds.{list_all-map}
use Rattle.std.proofs.lemmas.Option.{same_Some}
use Rattle.oe_cell.specs.declared.cell.Cell.{Cell}
use Rattle.oe_cell.specs.declared.cell.Cell.TheVariants.{Empty}
use Rattle.oe_cube.specs.Collections.{IsCollection}
use Rattle.oe_cube.specs.Kinds.{is_null_or_of}
use Rattle.oe_dims.specs.Cube.{Tuple, row_major, tabulate, tuples}
use Rattle.oe_dims.specs.Dimensions.{Dimensions, IsShape, cell_count}
use Rattle.oe_dims.specs.Positions.{IsPosition, Position, number_of, tuple_of}
use Rattle.oe_dims.specs.declared.kind.CellKind.{CellKind}
use Rattle.oe_dims.proofs.CubeLemmas.{length-tuples, number_below, slice_get-tuples}
use Rattle.oe_mosaic.specs.Mosaics.{Part, are_visible, cell_in, contents_of_parts, deciding_part, fault_count, fault_counts, first_kind, has_tuple, is_damaged_at, mosaic_cell, mosaic_contents, mosaic_shape, mosaic_source, numbers_where, parts_of}
use Rattle.oe_mosaic.specs.PartFaults.{SomeRose}
use Rattle.oe_mosaic.specs.Parts.{ArePartsOfOne, IsSound}
use Rattle.oe_mosaic.specs.Readings.{IsAnswer, IsDamagedThere, IsRead, OnlyReads}
use Rattle.oe_mosaic.proofs.FaultLemmas.{count_falls, count_rose}
use Rattle.oe_sources.specs.Source.{AreCellsOf, Contents, CountsRead, IsDamagedIn, Looks, Source, asked_after, collection_with}
use Rattle.oe_sources.specs.declared.source.SourceFail.{SourceFail}
use Rattle.oe_sources.specs.declared.source.SourceFail.TheVariants.{Failed, Damaged}
use Rattle.oe_sources.proofs.SourceLemmas.{all_true, null_fits}
use Rattle.oe_sources.proofs.ContentLemmas.{kept}
use Rattle.oe_window.specs.Windows.{Holds, IsEmpty, position_count, whole_window}
use Rattle.oe_window.specs.declared.window.Window.{Window}
use Rattle.oe_window.proofs.CellLemmas.{is_cells_on}
use Rattle.oe_window.proofs.RangeLemmas.{slice_get-range}
use Rattle.oe_window.proofs.WholeLemmas.{position_in}
use Rattle.oe_window.proofs.WindowLemmas.{count_of_empty}

-- ---- cells of the kind

-- a part that is found is one of the parts
found_there : (test : Part → Bool) (parts : List Part) (part : Part) → find test parts ≡ Some part → Contains parts part
found_there test [] part h = cc
found_there test (first ∷ parts) part h = each (test first) h (λ e. found_there test parts part e)
  where
    each : (b : Bool) → cond b (Some first) (find test parts) ≡ Some part → (find test parts ≡ Some part → Contains parts part) → Contains (first ∷ parts) part
    each true e rest = (0, omega arith, same_Some first part e)
    each false e rest =
        let there = rest e in
        (suc there.0, omega (arith, there.1), there.2)

first_in : (part : Part) (parts : List Part) → Contains (part ∷ parts) part
first_in part parts = (0, omega arith, refl)

-- each part has the kind of the first
pub kind_of_each : (parts : List Part) (part : Part) → ArePartsOfOne parts → Contains parts part → part.kind ≡ first_kind parts
kind_of_each [] part h (k, below, here) = absurd (omega (arith, below))
kind_of_each (first ∷ parts) part h there =
    sym (h.alike first part (first_in first parts) there).kind

got_of_kind : (kind : CellKind) (cells : List Cell) (o : Option ℕ) → list_all (is_null_or_of kind) cells ≡ true → is_null_or_of kind (unwrap_or (option_and_then (slice_get cells) o) Empty) ≡ true
got_of_kind kind cells None all = null_fits kind
got_of_kind kind [] (Some k) all = null_fits kind
got_of_kind kind (cell ∷ cells) (Some zero) all = (and_parts (is_null_or_of kind cell) (list_all (is_null_or_of kind) cells) all).0
got_of_kind kind (cell ∷ cells) (Some (suc k)) all = got_of_kind kind cells (Some k) (and_parts (is_null_or_of kind cell) (list_all (is_null_or_of kind) cells) all).1

cell_in_kind : (tuple : Tuple) (part : Part) → IsSound part → is_null_or_of part.kind (cell_in tuple part) ≡ true
cell_in_kind tuple part sound = each part.contents sound.collection
  where
    each : (o : Option Contents) → IfSome o (λ c. IsCollection (collection_with part.shape part.kind c))
        → is_null_or_of part.kind (option_map_or (λ (c : Contents). unwrap_or (option_and_then (slice_get c.cells) (row_major part.shape tuple)) Empty) o Empty) ≡ true
    each None s = null_fits part.kind
    each (Some c) s = got_of_kind part.kind c.cells (row_major part.shape tuple) s.of_kind

pub mosaic_cell_kind : (parts : List Part) (tuple : Tuple) → ArePartsOfOne parts → is_null_or_of (first_kind parts) (mosaic_cell parts tuple) ≡ true
mosaic_cell_kind parts tuple h = each (deciding_part parts tuple) refl
  where
    each : (o : Option Part) → deciding_part parts tuple ≡ o → is_null_or_of (first_kind parts) (option_map_or (cell_in tuple) o Empty) ≡ true
    each None e = null_fits (first_kind parts)
    each (Some part) e =
        let there = found_there (has_tuple tuple) parts part e in
        subst (λ (k : CellKind). is_null_or_of k (cell_in tuple part) ≡ true) (kind_of_each parts part h there) (cell_in_kind tuple part (h.sound part there))

-- ---- the collection of a mosaic

pub contents_sound : (parts : List Part) → ArePartsOfOne parts → IsShape (mosaic_shape parts) → IfSome (mosaic_contents parts) (λ c. IsCollection (collection_with (mosaic_shape parts) (first_kind parts) c))
contents_sound parts h valid = each (are_visible parts)
  where
    each : (b : Bool) → IfSome (if b then Some (contents_of_parts parts) else None) (λ c. IsCollection (collection_with (mosaic_shape parts) (first_kind parts) c))
    each false = tt
    each true = record {
      valid = valid;
      counted = length-map (tuples (mosaic_shape parts)) (mosaic_cell parts) ∙ length-tuples (mosaic_shape parts);
      of_kind = list_all-map (is_null_or_of (first_kind parts)) (mosaic_cell parts) (tuples (mosaic_shape parts))
          ∙ all_true (λ tuple. is_null_or_of (first_kind parts) (mosaic_cell parts tuple)) (tuples (mosaic_shape parts)) (λ tuple. mosaic_cell_kind parts tuple h);
    }

-- ---- damaged numbers

pub number_there : (test : Tuple → Bool) (d : Dimensions) (p : Position) → IsPosition d p → test (tuple_of d p) ≡ true → Contains (numbers_where test d) (number_of d p)
number_there test d p inside h =
    let n = number_of d p in
    let same : 0 + n ≡ n = omega arith in
    kept (λ (number : ℕ). option_map_or test (slice_get (tuples d) number) false) (range_with_len 0 (cell_count d)) n n
    (slice_get-range 0 (cell_count d) n (number_below d p inside) ∙ ap Some same)
    (ap (λ (o : Option Tuple). option_map_or test o false) (slice_get-tuples d p inside) ∙ h)

pub number_only : (test : Tuple → Bool) (d : Dimensions) (p : Position) → IsPosition d p → Contains (numbers_where test d) (number_of d p) → test (tuple_of d p) ≡ true
number_only test d p inside h =
    let n = number_of d p in
    let own : ℕ → Bool = λ number. option_map_or test (slice_get (tuples d) number) false in
    let numbers = range_with_len 0 (cell_count d) in
    sym (ap (λ (o : Option Tuple). option_map_or test o false) (slice_get-tuples d p inside))
    ∙ All-contains (λ m. own m ≡ true) (filter own numbers) n (filter_passes own numbers) h

-- ---- what a read answers

given_if : (parts : List Part) (b : Bool) (window : Window) (cells : List Cell) → (b ≡ true → AreCellsOf (mosaic_shape parts) (contents_of_parts parts) window cells)
    → IfSome (if b then Some (contents_of_parts parts) else None) (λ c. AreCellsOf (mosaic_shape parts) c window cells)
given_if parts false window cells h = tt
given_if parts true window cells h = h refl

pub given : (parts : List Part) (window : Window) (cells : List Cell) → Holds (whole_window (mosaic_shape parts)) window → IsRead parts (mosaic_shape parts) window cells
    → IfSome (mosaic_contents parts) (λ c. AreCellsOf (mosaic_shape parts) c window cells)
given parts window cells holds h =
    given_if parts (are_visible parts) window cells (λ visible. record {
      cells_are = h.cells_are visible;
      undamaged = λ p in_ there.
          let damaged = number_only (is_damaged_at parts) (mosaic_shape parts) p (position_in (mosaic_shape parts) p (holds p in_)) there in
          let not_damaged = h.undamaged visible p in_ in
          cc;
    })

damaged_if : (parts : List Part) (b : Bool) (n : ℕ) → (b ≡ true → Contains (contents_of_parts parts).damaged n)
    → IfSome (if b then Some (contents_of_parts parts) else None) (λ c. Contains c.damaged n)
damaged_if parts false n h = tt
damaged_if parts true n h = h refl

pub damaged : (parts : List Part) (window : Window) (n : ℕ) → Holds (whole_window (mosaic_shape parts)) window → IsDamagedThere parts (mosaic_shape parts) window n
    → IsDamagedIn (mosaic_shape parts) (mosaic_contents parts) window n
damaged parts window n holds h = record {
  position = h.position;
  inside = h.inside;
  numbered = h.numbered;
  damaged = damaged_if parts (are_visible parts) n (λ visible.
      subst (λ (m : ℕ). Contains (contents_of_parts parts).damaged m) h.numbered
      (number_there (is_damaged_at parts) (mosaic_shape parts) h.position (position_in (mosaic_shape parts) h.position (holds h.position h.inside)) (h.damaged visible)));
}

pub looks : {S : Type 0} (seen : S → Source) (items : List S) (window : Window) (cells : List Cell) (asked : ℕ) (result : Result (Unit {0}) SourceFail)
    → Holds (whole_window (mosaic_shape (parts_of seen items))) window → IsAnswer (parts_of seen items) (mosaic_shape (parts_of seen items)) window cells result
    → Looks (mosaic_source seen items asked) window cells result
looks seen items window cells asked (Ok done) holds h = record { given = given (parts_of seen items) window cells holds h; of_kind = h.of_kind; damage = tt }
looks seen items window cells asked (Err Failed) holds h = record { given = tt; of_kind = tt; damage = tt }
looks seen items window cells asked (Err (Damaged n)) holds h = record { given = tt; of_kind = tt; damage = damaged (parts_of seen items) window n holds h }

-- the same where the shape is known by an equation
pub looks_at : {S : Type 0} (seen : S → Source) (items : List S) (d : Dimensions) (window : Window) (cells : List Cell) (asked : ℕ) (result : Result (Unit {0}) SourceFail)
    → d ≡ mosaic_shape (parts_of seen items) → Holds (whole_window (mosaic_shape (parts_of seen items))) window → IsAnswer (parts_of seen items) d window cells result
    → Looks (mosaic_source seen items asked) window cells result
looks_at seen items d window cells asked result shape holds h =
    looks seen items window cells asked result holds (subst (λ (e : Dimensions). IsAnswer (parts_of seen items) e window cells result) shape h)

-- what is counted of the parts is counted of the mosaic
pub counts : {S : Type 0} (seen : S → Source) (items after : List S) (asked asked_then cells : ℕ) (failed : Bool) → asked_then ≡ asked_after asked cells → OnlyReads seen items after
    → (failed ≡ true → SomeRose (fault_counts seen items) (fault_counts seen after)) → (failed ≡ false → after ≡ items)
    → CountsRead (mosaic_source seen items asked) cells failed (mosaic_source seen after asked_then)
counts seen items after asked asked_then cells failed counted only rose still = record {
  asked = counted;
  falls = count_falls seen items after only.falls;
  rose = λ met. count_rose seen items after only.falls (rose met);
  still = λ none. ap (fault_count seen) (still none);
  shape = ap mosaic_shape only.same;
  kind = ap first_kind only.same;
  contents = ap mosaic_contents only.same;
}

-- a window without positions
pub empty_read : (parts : List Part) (d : Dimensions) (window : Window) (cells : List Cell) → IsEmpty window → length cells ≡ position_count window → IsRead parts d window cells
empty_read parts d window cells empty long = record {
  cells_are = λ visible. is_cells_on Empty (tabulate d (mosaic_cell parts)) window cells long (λ p in_. absurd (empty p in_));
  undamaged = λ visible p in_. absurd (empty p in_);
  of_kind = ap (list_all (is_null_or_of (first_kind parts))) (nil_from_length cells (long ∙ count_of_empty window empty));
}
