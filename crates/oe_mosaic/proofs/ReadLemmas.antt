-- One part that is read among the parts, and a window that is read in two halves.
use Rattle.std.proofs.Common.{◌≡◌, ℕ, zero, suc, ◌+◌, ◌<◌, ◌≤◌, ◌-◌, Bool, true, List, [], ◌∷◌, ◌++◌, ◌^◌, length, length-append, map, get_or, set, is_some, Option, Some, None, IfSome, Result, Ok, Err, refl, sym, ap, ◌∙◌, subst, arith, inl, inr}
use Rattle.std.specs.List.{Contains, list_all, slice_get}
use Rattle.std.proofs.lemmas.Bool.{and_parts}
use Rattle.std.proofs.lemmas.List.{length-map, map-append, set_split}
use Rattle.std.proofs.lemmas.Option.{same_Some}
use Rattle.oe_cell.specs.declared.cell.Cell.{Cell}
use Rattle.oe_cell.specs.declared.cell.Cell.TheVariants.{Empty}
use Rattle.oe_cube.specs.Collections.{IsCollection}
use Rattle.oe_cube.specs.Kinds.{is_null_or_of}
use Rattle.oe_dims.specs.Cube.{row_major, tabulate}
use Rattle.oe_dims.specs.Dimensions.{Dimensions, IsShape}
use Rattle.oe_dims.specs.Positions.{Position, number_of, tuple_of}
use Rattle.oe_dims.specs.declared.kind.CellKind.{CellKind}
use Rattle.oe_dims.proofs.ShapeLemmas.{cell_count_within}
use Rattle.oe_mosaic.specs.Mosaics.{Part, deciding_part, fault_counts, first_kind, is_damaged_at, mosaic_cell, part_of, parts_of}
use Rattle.oe_mosaic.specs.PartFaults.{NoneFalls, OnePartCounts, SomeRose}
use Rattle.oe_mosaic.specs.Parts.{ArePartsOfOne}
use Rattle.oe_mosaic.specs.Places.{AreHalves, HasBox, IsSingle, first_of, moved}
use Rattle.oe_mosaic.specs.Readings.{AreApart, IsAnswer, IsDamagedThere, IsFoundIn, IsRead, OnlyReads}
use Rattle.oe_mosaic.proofs.BoxLemmas.{box_cells, box_damaged, box_undamaged}
use Rattle.oe_mosaic.proofs.DecideLemmas.{cell_none, damage_none, none_decides, one_visible}
use Rattle.oe_mosaic.proofs.FaultLemmas.{none_refl, set_falls, set_rose}
use Rattle.oe_mosaic.proofs.FindLemmas.{part_at}
use Rattle.oe_mosaic.proofs.MosaicLemmas.{kind_of_each}
use Rattle.oe_mosaic.proofs.PartLemmas.{get_there}
use Rattle.oe_outside.specs.Faults.{NeverFalls, Rose}
use Rattle.oe_sources.specs.Source.{AreCellsOf, Contents, CountsRead, IsDamagedIn, Looks, Source, answer_of, collection_with}
use Rattle.oe_sources.specs.declared.source.LookFail.{LookFail}
use Rattle.oe_sources.specs.declared.source.LookFail.TheVariants as look
use Rattle.oe_sources.specs.declared.source.SourceFail.{SourceFail}
use Rattle.oe_sources.specs.declared.source.SourceFail.TheVariants.{Failed, Damaged}
use Rattle.oe_sources.proofs.SourceLemmas.{null_fits}
use Rattle.oe_window.specs.Cells.{cell_at, cells_on}
use Rattle.oe_window.specs.Windows.{Holds, IsAlong, IsEmpty, IsIn, number_in, position_count, positions, span_length, whole_window}
use Rattle.oe_window.specs.declared.window.Span.{Span}
use Rattle.oe_window.specs.declared.window.Window.{Window}
use Rattle.oe_window.proofs.CellLemmas.{cell_at-tabulate, is_cells_on}
use Rattle.oe_window.proofs.WholeLemmas.{count_within, number_in_below, position_in}
use Rattle.oe_window.proofs.WindowLemmas.{filled_unless_empty, length-positions}

-- ---- counters and parts, where one part was read

parts_set : {S : Type 0} (seen : S → Source) (items : List S) (k : ℕ) (old new : S) → slice_get items k ≡ Some old → part_of (seen new) ≡ part_of (seen old) → parts_of seen (set items k new) ≡ parts_of seen items
parts_set seen [] k old new h same = refl
parts_set seen (item ∷ items) zero old new h same =
    ap (λ part. part ∷ parts_of seen items) (same ∙ ap (λ s. part_of (seen s)) (sym (same_Some item old h)))
parts_set seen (item ∷ items) (suc k) old new h same = ap (λ ps. part_of (seen item) ∷ ps) (parts_set seen items k old new h same)

pub one_read : {S : Type 0} (seen : S → Source) (items after : List S) (k : ℕ) (old new : S) → slice_get items k ≡ Some old → after ≡ set items k new
    → NeverFalls (seen old).faults (seen new).faults → part_of (seen new) ≡ part_of (seen old) → OnlyReads seen items after
one_read seen items after k old new h is falls same = record {
  falls = subst (λ (l : List _). NoneFalls (fault_counts seen items) (fault_counts seen l)) (sym is) (set_falls (λ s. (seen s).faults) items k old new h falls);
  same = ap (parts_of seen) is ∙ parts_set seen items k old new h same;
}

pub one_rose : {S : Type 0} (seen : S → Source) (items after : List S) (k : ℕ) (old new : S) → slice_get items k ≡ Some old → after ≡ set items k new
    → Rose (seen old).faults (seen new).faults → SomeRose (fault_counts seen items) (fault_counts seen after)
one_rose seen items after k old new h is rose =
    subst (λ (l : List _). SomeRose (fault_counts seen items) (fault_counts seen l)) (sym is) (set_rose (λ s. (seen s).faults) items k old new h rose)

pub part_there : {S : Type 0} (seen : S → Source) (items : List S) (k : ℕ) (item : S) → slice_get items k ≡ Some item → slice_get (parts_of seen items) k ≡ Some (part_of (seen item))
part_there seen [] k item h = cc
part_there seen (first ∷ items) zero item h = ap (λ (s : _). Some (part_of (seen s))) (same_Some first item h)
part_there seen (first ∷ items) (suc k) item h = part_there seen items k item h

contained : (parts : List Part) (k : ℕ) (part : Part) → slice_get parts k ≡ Some part → Contains parts part
contained [] k part h = cc
contained (first ∷ parts) zero part h = (0, omega arith, same_Some first part h)
contained (first ∷ parts) (suc k) part h =
    let rest = contained parts k part h in
    (suc rest.0, omega (arith, rest.1), rest.2)

-- null is of each kind
all_null : (kind : CellKind) (cells : List Cell) → ((k : ℕ) → k < length cells → get_or cells k Empty ≡ Empty) → list_all (is_null_or_of kind) cells ≡ true
all_null kind [] h = refl
all_null kind (cell ∷ cells) h =
    let first : cell ≡ Empty = h 0 (omega arith) in
    let here : is_null_or_of kind cell ≡ true = ap (is_null_or_of kind) first ∙ null_fits kind in
    rw here (all_null kind cells (λ k below. h (suc k) (omega (arith, below))))

-- ---- a window that no part has

pub nowhere_read : (parts : List Part) (d : Dimensions) (window : Window) (cells : List Cell) → AreApart parts d window (length parts) → Holds (whole_window d) window
    → length cells ≡ position_count window → ((k : ℕ) → k < length cells → get_or cells k Empty ≡ Empty) → IsRead parts d window cells
nowhere_read parts d window cells apart holds long null = record {
  cells_are = λ visible. is_cells_on Empty (tabulate d (mosaic_cell parts)) window cells long (λ p in_.
      let none = nowhere p in_ in
      let number : number_in window p < length cells = omega (arith, long, number_in_below window p in_) in
      get_there cells (number_in window p) Empty number ∙ ap Some (null (number_in window p) number)
      ∙ ap Some (sym (cell_at-tabulate Empty d (mosaic_cell parts) p (position_in d p (holds p in_)) ∙ cell_none parts (tuple_of d p) none)));
  undamaged = λ visible p in_. damage_none parts (tuple_of d p) (nowhere p in_);
  of_kind = all_null (first_kind parts) cells null;
}
  where
    nowhere : (p : Position) → IsIn window p → deciding_part parts (tuple_of d p) ≡ None
    nowhere p in_ = none_decides parts (tuple_of d p) (λ k below. each (slice_get parts k) (apart k below))
      where
        each : (o : Option Part) → IfSome o (λ (other : Part). (q : Position) → IsIn window q → row_major other.shape (tuple_of d q) ≡ None) → IfSome o (λ (other : Part). row_major other.shape (tuple_of d p) ≡ None)
        each None a = tt
        each (Some other) a = a p in_

-- ---- a window that one part decides about

with_contents : {P : Type 0} (o : Option Contents) → is_some o ≡ true → ((c : Contents) → o ≡ Some c → P) → P
with_contents None is use_it = cc
with_contents (Some c) is use_it = use_it c refl

pub part_read : (parts : List Part) (d : Dimensions) (window box : Window) (k : ℕ) (part : Part) (cells : List Cell) → ArePartsOfOne parts → slice_get parts k ≡ Some part
    → AreApart parts d window k → HasBox d part.shape window box → Holds (whole_window d) window → length cells ≡ position_count window
    → IfSome part.contents (λ c. AreCellsOf part.shape c box cells) → list_all (is_null_or_of part.kind) cells ≡ true → IsRead parts d window cells
part_read parts d window box k part cells h there apart has holds long given kind = record {
  cells_are = λ visible. with_contents part.contents (one_visible parts k part there visible) (λ c shown. box_cells parts k part d window box c cells there apart has holds shown (sound c shown) long (given_by c shown));
  undamaged = λ visible p in_. with_contents part.contents (one_visible parts k part there visible) (λ c shown. box_undamaged parts k part d window box c p there apart has (sound c shown).valid shown (given_by c shown).undamaged in_);
  of_kind = subst (λ (kind : CellKind). list_all (is_null_or_of kind) cells ≡ true) (kind_of_each parts part h (contained parts k part there)) kind;
}
  where
    sound : (c : Contents) → part.contents ≡ Some c → IsCollection (collection_with part.shape part.kind c)
    sound c shown = subst (λ (o : Option Contents). IfSome o (λ c. IsCollection (collection_with part.shape part.kind c))) shown (h.sound part (contained parts k part there)).collection

    given_by : (c : Contents) → part.contents ≡ Some c → AreCellsOf part.shape c box cells
    given_by c shown = subst (λ (o : Option Contents). IfSome o (λ c. AreCellsOf part.shape c box cells)) shown given

-- ---- a window of one position that is damaged in the part that decides

alone : (box span : Span) (i : ℕ) → span_length box ≡ span_length span → span_length span ≤ 1 → IsAlong box i → i ≡ box.from + (span.from - span.from)
alone box span i same few in_ = omega (arith, same, few, in_.begun, in_.before)

same_number_of : (d : Dimensions) (p q : Position) → p.t ≡ q.t → p.band ≡ q.band → p.y ≡ q.y → p.x ≡ q.x → number_of d p ≡ number_of d q
same_number_of d p q t band y x = rw (t, band, y, x) refl

pub single_damaged : (parts : List Part) (d : Dimensions) (window box : Window) (k n : ℕ) (part : Part) → ArePartsOfOne parts → slice_get parts k ≡ Some part
    → AreApart parts d window k → HasBox d part.shape window box → IsSingle window → ¬ IsEmpty window → IsDamagedIn part.shape part.contents box n
    → IsDamagedThere parts d window (number_of d (first_of window))
single_damaged parts d window box k n part h there apart has single some damaged =
    let filled = filled_unless_empty window some in
    let p = first_of window in
    let in_ : IsIn window p = record {
      t = record { begun = omega arith; before = filled.t };
      bands = record { begun = omega arith; before = filled.bands };
      y = record { begun = omega arith; before = filled.y };
      x = record { begun = omega arith; before = filled.x };
    } in
    let q = damaged.position in
    let same : number_of part.shape q ≡ number_of part.shape (moved window box p) =
    same_number_of part.shape q (moved window box p)
    (alone box.t window.t q.t has.t single.t damaged.inside.t)
    (alone box.bands window.bands q.band has.bands single.bands damaged.inside.bands)
    (alone box.y window.y q.y has.y single.y damaged.inside.y)
    (alone box.x window.x q.x has.x single.x damaged.inside.x) in
    record {
      position = p;
      inside = in_;
      numbered = refl;
      damaged = λ visible. each part.contents refl (one_visible parts k part there visible) in_ (sym damaged.numbered ∙ same);
    }
  where
    each : (o : Option Contents) → part.contents ≡ o → is_some o ≡ true → IsIn window (first_of window) → n ≡ number_of part.shape (moved window box (first_of window))
        → is_damaged_at parts (tuple_of d (first_of window)) ≡ true
    each None e is in_ same = cc
    each (Some c) e is in_ same =
        let sound : IsCollection (collection_with part.shape part.kind c) = subst (λ (o : Option Contents). IfSome o (λ c. IsCollection (collection_with part.shape part.kind c))) e (h.sound part (contained parts k part there)).collection in
        let listed : Contains c.damaged n = subst (λ (o : Option Contents). IfSome o (λ c. Contains c.damaged n)) e damaged.damaged in
        box_damaged parts k part d window box c (first_of window) there apart has sound.valid e (subst (λ (m : ℕ). Contains c.damaged m) same listed) in_

-- ---- two halves

all_append : {A : Type 0} (p : A → Bool) (xs ys : List A) → list_all p xs ≡ true → list_all p ys ≡ true → list_all p (xs ++ ys) ≡ true
all_append p [] ys h k = k
all_append p (x ∷ xs) ys h k =
    let parts = and_parts (p x) (list_all p xs) h in
    rw (parts.0) (all_append p xs ys parts.1 k)

pub two_read : (parts : List Part) (d : Dimensions) (window front back : Window) (one two : List Cell) → AreHalves window front back
    → IsRead parts d front one → IsRead parts d back two → IsRead parts d window (one ++ two)
two_read parts d window front back one two halves first second = record {
  cells_are = λ visible.
      let cube = tabulate d (mosaic_cell parts) in
      ap (λ (l : List Cell). l ++ two) (first.cells_are visible)
      ∙ ap (λ (l : List Cell). cells_on Empty cube front ++ l) (second.cells_are visible)
      ∙ sym (map-append (cell_at Empty cube) (positions front) (positions back))
      ∙ ap (map (cell_at Empty cube)) (sym halves.listed);
  undamaged = λ visible p in_. elim (halves.covered p in_) [
    | inl early ↦ first.undamaged visible p early
    | inr late ↦ second.undamaged visible p late
  ];
  of_kind = all_append (is_null_or_of (first_kind parts)) one two first.of_kind second.of_kind;
}

pub wider : (parts : List Part) (d : Dimensions) (window part : Window) (n : ℕ) → Holds window part → IsDamagedThere parts d part n → IsDamagedThere parts d window n
wider parts d window part n holds h = record { position = h.position; inside = holds h.position h.inside; numbered = h.numbered; damaged = h.damaged }

pub front_fails : (parts : List Part) (d : Dimensions) (window front back : Window) (one cells : List Cell) (fail : LookFail) → AreHalves window front back
    → IsAnswer parts d front one (answer_of (Err fail)) → IsAnswer parts d window cells (answer_of (Err fail))
front_fails parts d window front back one cells (look.Failed fault) halves h = tt
front_fails parts d window front back one cells (look.Damaged n) halves h = wider parts d window front n halves.front_within h

pub back_answers : (parts : List Part) (d : Dimensions) (window front back : Window) (one two : List Cell) (result : Result (Unit {0}) SourceFail) → AreHalves window front back
    → IsRead parts d front one → IsAnswer parts d back two result → IsAnswer parts d window (one ++ two) result
back_answers parts d window front back one two (Ok done) halves first h = two_read parts d window front back one two halves first h
back_answers parts d window front back one two (Err Failed) halves first h = tt
back_answers parts d window front back one two (Err (Damaged n)) halves first h = wider parts d window back n halves.back_within h

pub only_refl : {S : Type 0} (seen : S → Source) (a : List S) → OnlyReads seen a a
only_refl seen a = record { falls = none_refl (fault_counts seen a); same = refl }

-- ---- the part of a place, read in its box

pub box_count : (d own : Dimensions) (window box : Window) → HasBox d own window box → position_count box ≡ position_count window
box_count d own window box h = rw (h.t, h.bands, h.y, h.x) refl

pub item_there : {S : Type 0} (seen : S → Source) (items : List S) (k : ℕ) → k < length (parts_of seen items) → k < length items
item_there seen items k below = omega (arith, below, length-map items (λ s. part_of (seen s)))

pub item_box : {S : Type 0} (seen : S → Source) (items : List S) (d : Dimensions) (window box : Window) (k : ℕ) (item : S) → k < length items → item ≡ get_or items k item
    → IsFoundIn (parts_of seen items) d window k box → HasBox d (seen item).shape window box
item_box seen items d window box k item below is found =
    subst (λ (o : Option Part). IfSome o (λ (part : Part). HasBox d part.shape window box)) (part_at seen items k item below is) found

same_part : (before after : Source) → after.shape ≡ before.shape → after.kind ≡ before.kind → after.contents ≡ before.contents → part_of after ≡ part_of before
same_part before after shape kind contents =
    ap (λ (s : Dimensions). record { shape = s; kind = after.kind; contents = after.contents }) shape
    ∙ ap (λ (k : CellKind). record { shape = before.shape; kind = k; contents = after.contents }) kind
    ∙ ap (λ (c : Option Contents). record { shape = before.shape; kind = before.kind; contents = c }) contents

pub count_only : {S : Type 0} (seen : S → Source) (items after : List S) (k : ℕ) (old new : S) (cells : ℕ) (failed : Bool)
    → k < length items → old ≡ get_or items k old → after ≡ set items k new → CountsRead (seen old) cells failed (seen new) → OnlyReads seen items after
count_only seen items after k old new cells failed below is set_is counts =
    one_read seen items after k old new (get_there items k old below ∙ ap Some (sym is)) set_is counts.falls
    (same_part (seen old) (seen new) counts.shape counts.kind counts.contents)

pub count_rose_in : {S : Type 0} (seen : S → Source) (items after : List S) (k : ℕ) (old new : S) (cells : ℕ) (failed : Bool)
    → k < length items → old ≡ get_or items k old → after ≡ set items k new → CountsRead (seen old) cells failed (seen new) → failed ≡ true
    → SomeRose (fault_counts seen items) (fault_counts seen after)
count_rose_in seen items after k old new cells failed below is set_is counts met =
    one_rose seen items after k old new (get_there items k old below ∙ ap Some (sym is)) set_is (counts.rose met)

pub one_counts : {S : Type 0} (seen : S → Source) (items after : List S) (k : ℕ) (old new : S) (failed : Bool)
    → k < length items → old ≡ get_or items k old → after ≡ set items k new → CountsRead (seen old) 0 failed (seen new) → failed ≡ true
    → OnePartCounts seen items after
one_counts seen items after k old new failed below is set_is counts met = record {
  place = k;
  part = old;
  counted = new;
  there = get_there items k old below ∙ ap Some (sym is);
  counts = subst (λ (f : Bool). CountsRead (seen old) 0 f (seen new)) met counts;
  others = set_is ∙ set_split items k new below;
}

pub part_ok : {S : Type 0} (seen : S → Source) (items : List S) (d : Dimensions) (window box : Window) (k : ℕ) (item : S) (cells : List Cell) (done : Unit {0})
    → ArePartsOfOne (parts_of seen items) → k < length items → item ≡ get_or items k item → AreApart (parts_of seen items) d window k → IsFoundIn (parts_of seen items) d window k box
    → Holds (whole_window d) window → length cells ≡ position_count window → Looks (seen item) box cells (Ok done) → IsRead (parts_of seen items) d window cells
part_ok seen items d window box k item cells done h below is apart found holds long looks =
    part_read (parts_of seen items) d window box k (part_of (seen item)) cells h (part_at seen items k item below is) apart (item_box seen items d window box k item below is found) holds long looks.given looks.of_kind

pub part_damaged : {S : Type 0} (seen : S → Source) (items : List S) (d : Dimensions) (window box : Window) (k n : ℕ) (item : S) (cells : List Cell)
    → ArePartsOfOne (parts_of seen items) → k < length items → item ≡ get_or items k item → AreApart (parts_of seen items) d window k → IsFoundIn (parts_of seen items) d window k box
    → IsSingle window → ¬ IsEmpty window → Looks (seen item) box cells (Err (Damaged n)) → IsDamagedThere (parts_of seen items) d window (number_of d (first_of window))
part_damaged seen items d window box k n item cells h below is apart found single some looks =
    single_damaged (parts_of seen items) d window box k n (part_of (seen item)) h (part_at seen items k item below is) apart (item_box seen items d window box k item below is found) single some looks.damage

-- ---- how many positions the halves have

pub half_counts : (window front back : Window) → AreHalves window front back → position_count window ≡ position_count front + position_count back
half_counts window front back h =
    sym (length-positions window) ∙ ap length h.listed
    ∙ omega (arith, length-append (positions front) (positions back), length-positions front, length-positions back)

pub front_holds : (d : Dimensions) (window front back : Window) → AreHalves window front back → Holds (whole_window d) window → Holds (whole_window d) front
front_holds d window front back h holds p in_ = holds p (h.front_within p in_)

pub back_holds : (d : Dimensions) (window front back : Window) → AreHalves window front back → Holds (whole_window d) window → Holds (whole_window d) back
back_holds d window front back h holds p in_ = holds p (h.back_within p in_)

pub few_positions : (d : Dimensions) (window : Window) → IsShape d → Holds (whole_window d) window → position_count window < 2 ^ 64
few_positions d window valid holds = omega (arith, count_within d window holds, cell_count_within d valid)

pub old_item : {S : Type 0} (items : List S) (k : ℕ) (item : S) → get_or items k item ≡ item → get_or items k item ≡ get_or items k (get_or items k item)
old_item items k item is = sym (ap (get_or items k) is)
