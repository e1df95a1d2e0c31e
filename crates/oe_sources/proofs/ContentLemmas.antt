-- The contents of a cube file, and a window of it that was read run by run.
use Rattle.std.proofs.Common.{◌≡◌, ℕ, zero, suc, ◌+◌, ◌-◌, ◌<◌, ◌≤◌, ◌&&◌, Bool, true, false, cond, List, [], ◌∷◌, ◌++◌, length, get_or, take, Option, Some, None, Ok, Err, IfSome, inl, inr, refl, sym, ap, ◌∙◌, subst, arith}
use Rattle.std.specs.Prelude.{OnOk, Result, is_none, slice_get, unwrap_or}
use Rattle.std.specs.List.{Contains, filter, list_all, range_with_len}
use Rattle.std.specs.Option.{option_map}
use Rattle.std.proofs.lemmas.Bool.{cases_lt}
use Rattle.std.proofs.Math.Seq.{take-append-add, take-length}
use Rattle.std.proofs.lemmas.List.{length-map, length-take-le, take-append-le}
use Rattle.std.proofs.lemmas.List.Elements.{All-contains, Contains-append_right, filter_passes}
use Rattle.std.proofs.lemmas.List.Folds.{list_all-append, list_all-map}
use Rattle.std.proofs.lemmas.List.FromFn.{length-map-range_with_len}
use Rattle.std.proofs.lemmas.Option.{get_or_from_slice_get, same_Some, slice_get-get_or, slice_get-map}
use Rattle.oe_cell.specs.declared.cell.Cell.{Cell}
use Rattle.oe_cell.specs.declared.cell.Cell.TheVariants.{Empty}
use Rattle.oe_cube.specs.Collections.{IsCollection}
use Rattle.oe_cube.specs.Kinds.{is_null_or_of}
use Rattle.oe_dims.specs.Dimensions.{Dimensions, cell_count}
use Rattle.oe_dims.specs.Positions.{Position, number_of}
use Rattle.oe_dims.specs.declared.kind.CellKind.{CellKind}
use Rattle.oe_dims.proofs.CubeLemmas.{number_below}
use Rattle.oe_dims.proofs.FlatMapLemmas.{slice_get-append_left, value_at}
use Rattle.oe_sources.specs.CubeFile.{cell_stored, contents_of, is_damaged}
use Rattle.oe_sources.specs.Head.{Head, IsHead}
use Rattle.oe_sources.specs.OpenedFile.{AreOfKind, AreStoredFrom, IsDamageFrom}
use Rattle.oe_sources.specs.Source.{AreCellsOf, TellsDamage, collection_with}
use Rattle.oe_sources.specs.StoredCell.{stored_cell}
use Rattle.oe_sources.specs.declared.source.SourceFail.{SourceFail}
use Rattle.oe_sources.specs.declared.source.SourceFail.TheVariants.{Failed, Damaged}
use Rattle.oe_sources.proofs.PieceLemmas.{slice_get_back, slice_get_take}
use Rattle.oe_sources.proofs.StoredLemmas.{from_stored}
use Rattle.oe_sources.proofs.SourceLemmas.{all_true, null_fits}
use Rattle.oe_wide.specs.declared.width.Width.{Width}
use Rattle.oe_window.specs.Runs.{EndWithin, window_numbers}
use Rattle.oe_window.specs.Windows.{Holds, IsIn, number_in, position_count, positions, whole_window}
use Rattle.oe_window.specs.declared.window.Window.{Window}
use Rattle.oe_window.proofs.CellLemmas.{is_cells_on}
use Rattle.oe_window.proofs.RangeLemmas.{slice_get-range}
use Rattle.oe_window.proofs.VisitLemmas.{Visiting, visited_number, visiting_goes}
use Rattle.oe_window.proofs.WholeLemmas.{number_in_below, position_in}
use Rattle.oe_window.proofs.WindowLemmas.{length-positions, position_at, position_number}

-- ---- the contents of a file

-- one cell for each number
pub content_at : (head : Head) (all : List ℕ) (n : ℕ) → n < cell_count head.shape → slice_get (contents_of head all).cells n ≡ Some (unwrap_or (cell_stored head all n) Empty)
unfolding contents_of
content_at head all n below =
    let cell = λ (m : ℕ). unwrap_or (cell_stored head all m) Empty in
    let same : 0 + n ≡ n = omega arith in
    slice_get-map cell (range_with_len 0 (cell_count head.shape)) n
    ∙ ap (option_map cell) (slice_get-range 0 (cell_count head.shape) n below ∙ ap Some same)

pub content_count : (head : Head) (all : List ℕ) → length (contents_of head all).cells ≡ cell_count head.shape
unfolding contents_of
content_count head all =
    length-map-range_with_len (λ (m : ℕ). unwrap_or (cell_stored head all m) Empty) 0 (cell_count head.shape)

stored_fits : (kind : CellKind) (w : Width) (bytes : List ℕ) (o : Option Cell) → stored_cell kind w bytes ≡ o → is_null_or_of kind (unwrap_or o Empty) ≡ true
stored_fits kind w bytes None e = null_fits kind
stored_fits kind w bytes (Some c) e = (from_stored kind w bytes c e).of_kind

-- each of the kind
pub content_kind : (head : Head) (all : List ℕ) → list_all (is_null_or_of head.kind) (contents_of head all).cells ≡ true
unfolding contents_of
content_kind head all =
    let cell = λ (m : ℕ). unwrap_or (cell_stored head all m) Empty in
    list_all-map (is_null_or_of head.kind) cell (range_with_len 0 (cell_count head.shape))
    ∙ all_true (λ m. is_null_or_of head.kind (cell m)) (range_with_len 0 (cell_count head.shape)) (λ m. stored_fits head.kind _ _ (cell_stored head all m) refl)

pub content_collection : (head : Head) (store : Option (List ℕ)) → IsHead head → IfSome (option_map (contents_of head) store) (λ c. IsCollection (collection_with head.shape head.kind c))
content_collection head None valid = tt
content_collection head (Some all) valid =
    record { valid = valid.shape; counted = content_count head all; of_kind = content_kind head all }

-- ---- damage

fronted : {X : Type 0} (b : Bool) (y x : X) (zs : List X) → Contains zs x → Contains (cond b (y ∷ zs) zs) x
fronted true y x zs h = Contains-append_right (y ∷ []) zs x h
fronted false y x zs h = h

pub kept : {X : Type 0} (p : X → Bool) (xs : List X) (x : X) (k : ℕ) → slice_get xs k ≡ Some x → p x ≡ true → Contains (filter p xs) x
kept p [] x k e h = cc
kept p (y ∷ ys) x zero e h =
    let same : y ≡ x = same_Some y x e in
    let passes : p y ≡ true = ap p same ∙ h in
    subst (λ (b : Bool). Contains (cond b (y ∷ filter p ys) (filter p ys)) x) (sym passes) (0, omega arith, same)
kept p (y ∷ ys) x (suc k) e h = fronted (p y) y x (filter p ys) (kept p ys x k e h)

damage_there : (head : Head) (all : List ℕ) (n : ℕ) → n < cell_count head.shape → is_damaged head all n ≡ true → Contains (contents_of head all).damaged n
unfolding contents_of
damage_there head all n below h =
    let same : 0 + n ≡ n = omega arith in
    kept (is_damaged head all) (range_with_len 0 (cell_count head.shape)) n n (slice_get-range 0 (cell_count head.shape) n below ∙ ap Some same) h

pub damage_only : (head : Head) (all : List ℕ) (n : ℕ) → Contains (contents_of head all).damaged n → is_damaged head all n ≡ true
unfolding contents_of
damage_only head all n h =
    let numbers = range_with_len 0 (cell_count head.shape) in
    All-contains (λ m. is_damaged head all m ≡ true) (filter (is_damaged head all) numbers) n (filter_passes (is_damaged head all) numbers) h

-- a refusal at a run of a window names a damaged position of the window
pub damage_in : (store : Option (List ℕ)) (head : Head) (w : Window) (left next : List (ℕ × ℕ)) (first count done : ℕ) (e : SourceFail) → Holds (whole_window head.shape) w → Visiting (window_numbers head.shape w) left done → left ≡ (first, count) ∷ next → IsDamageFrom head store first count e → TellsDamage head.shape (option_map (contents_of head) store) w e
damage_in store head w left next first count done Failed inside visiting is h = tt
damage_in store head w left next first count done (Damaged number) inside visiting is h =
    let i = number - first in
    let below : i < count = omega (arith, h.0, h.1) in
    let here : first + i ≡ number = omega (arith, h.0) in
    let visited = visited_number (window_numbers head.shape w) left next first count done i visiting is below ∙ ap Some here in
    let p = value_at (number_of head.shape) (positions w) (done + i) number visited in
    let there = position_number w (done + i) p.0 p.1 in
    let within : number < cell_count head.shape = subst (λ (n : ℕ). n < cell_count head.shape) p.2 (number_below head.shape p.0 (position_in head.shape p.0 (inside p.0 there.0))) in
    record { position = p.0; inside = there.0; numbered = p.2; damaged = seen store number within h.2 }
  where
    seen : (s : Option (List ℕ)) (n : ℕ) → n < cell_count head.shape → IfSome s (λ all. is_damaged head all n ≡ true) → IfSome (option_map (contents_of head) s) (λ c. Contains c.damaged n)
    seen None n within d = tt
    seen (Some all) n within d = damage_there head all n within d

-- ---- a window that is read run by run

-- so many cells are those at these numbers
abbrev pub AreReadAt : Option (List ℕ) → Head → List ℕ → ℕ → List Cell → Type 0
AreReadAt store head numbers done cells =
    IfSome store (λ all. (k n : ℕ) → k < done → slice_get numbers k ≡ Some n → cell_stored head all n ≡ slice_get cells k)

pub none_read : (store : Option (List ℕ)) (head : Head) (numbers : List ℕ) (cells : List Cell) → AreReadAt store head numbers 0 cells
none_read None head numbers cells = tt
none_read (Some all) head numbers cells = λ k n below e. absurd (omega (arith, below))

pub more_read : (store : Option (List ℕ)) (head : Head) (numbers : List ℕ) (left next : List (ℕ × ℕ)) (first count done : ℕ) (into new rest : List Cell) → Visiting numbers left done → left ≡ (first, count) ∷ next → done ≤ length into → length new ≡ count → AreReadAt store head numbers done into → AreStoredFrom head store first count new → AreReadAt store head numbers (done + count) (take done into ++ (new ++ rest))
more_read None head numbers left next first count done into new rest visiting is room long before read = tt
more_read (Some all) head numbers left next first count done into new rest visiting is room long before read = λ k n below e.
    let front : length (take done into) ≡ done = length-take-le done into room in
    elim (cases_lt k done) [
      | inl inner ↦
          before k n inner e
          ∙ sym (slice_get-append_left (take done into) (new ++ rest) k (omega (arith, inner, front)) ∙ slice_get_take done into k inner (omega (arith, inner, room)))
      | inr outer ↦ (
          let i = k - done in
          let index : k ≡ done + i = omega (arith, outer) in
          let within : i < count = omega (arith, outer, below) in
          let visited : slice_get numbers k ≡ Some (first + i) = ap (slice_get numbers) index ∙ visited_number numbers left next first count done i visiting is within in
          let number : n ≡ first + i = same_Some n (first + i) (sym e ∙ visited) in
          let behind : k ≡ length (take done into) + i = omega (arith, index, front) in
          ap (cell_stored head all) number ∙ read i within
          ∙ sym (ap (slice_get (take done into ++ (new ++ rest))) behind ∙ slice_get_back (take done into) (new ++ rest) i ∙ slice_get-append_left new rest i (omega (arith, within, long))))
    ]

some_of : (o : Option Cell) (c : Cell) → o ≡ Some c → unwrap_or o Empty ≡ c
some_of None c e = cc
some_of (Some d) c e = same_Some d c e

pub window_read : (store : Option (List ℕ)) (head : Head) (w : Window) (into : List Cell) → Holds (whole_window head.shape) w → length into ≡ position_count w → AreReadAt store head (window_numbers head.shape w) (position_count w) into → IfSome store (λ all. AreCellsOf head.shape (contents_of head all) w into)
window_read None head w into inside long read = tt
window_read (Some all) head w into inside long read =
    let d = head.shape in
    let contents = contents_of head all in
    record {
      cells_are = is_cells_on Empty (record { shape = d; cells = contents.cells }) w into long (λ p h.
          let c = get_or into (number_in w p) Empty in
          let there = held p h in
          there ∙ ap Some (sym (get_or_from_slice_get contents.cells (number_of d p) (unwrap_or (cell_stored head all (number_of d p)) Empty) Empty (content_at head all (number_of d p) (number_below d p (position_in d p (inside p h))))
          ∙ some_of (cell_stored head all (number_of d p)) c (stored p h ∙ there))));
      undamaged = λ p h damaged.
          let c = get_or into (number_in w p) Empty in
          let some : cell_stored head all (number_of d p) ≡ Some c = stored p h ∙ held p h in
          let none : is_none (cell_stored head all (number_of d p)) ≡ true = damage_only head all (number_of d p) damaged in
          not_both (cell_stored head all (number_of d p)) c some none;
    }
  where
    held : (p : Position) → IsIn w p → slice_get into (number_in w p) ≡ Some (get_or into (number_in w p) Empty)
    held p h = slice_get-get_or into (number_in w p) Empty (omega (arith, number_in_below w p h, long))

    stored : (p : Position) → IsIn w p → cell_stored head all (number_of head.shape p) ≡ slice_get into (number_in w p)
    stored p h =
        read (number_in w p) (number_of head.shape p) (number_in_below w p h)
        (slice_get-map (number_of head.shape) (positions w) (number_in w p) ∙ ap (option_map (number_of head.shape)) (position_at w p h))

    not_both : (o : Option Cell) (c : Cell) → o ≡ Some c → is_none o ≡ true → ⊥
    not_both None c e f = cc
    not_both (Some x) c e f = cc

-- ---- cells of one kind

pub front_of_kind : (kind : CellKind) (n : ℕ) (xs rest : List Cell) → n ≤ length xs → AreOfKind kind n xs → AreOfKind kind n (xs ++ rest)
front_of_kind kind n xs rest room h = ap (list_all (is_null_or_of kind)) (take-append-le n xs rest room) ∙ h

pub more_of_kind : (kind : CellKind) (done n : ℕ) (xs ys : List Cell) → done ≤ length xs → AreOfKind kind done xs → AreOfKind kind n ys → AreOfKind kind (done + n) (take done xs ++ ys)
more_of_kind kind done n xs ys room front back =
    let p = is_null_or_of kind in
    let long : length (take done xs) ≡ done = length-take-le done xs room in
    let parts : take (done + n) (take done xs ++ ys) ≡ take done xs ++ take n ys = ap (λ (m : ℕ). take (m + n) (take done xs ++ ys)) (sym long) ∙ take-append-add (take done xs) ys n in
    ap (list_all p) parts ∙ list_all-append p (take done xs) (take n ys) ∙ both (list_all p (take done xs)) (list_all p (take n ys)) front back
  where
    both : (a b : Bool) → a ≡ true → b ≡ true → (a && b) ≡ true
    both true true e f = refl
    both true false e f = cc
    both false b e f = cc

pub all_of_kind : (kind : CellKind) (n : ℕ) (xs : List Cell) → n ≡ length xs → AreOfKind kind n xs → list_all (is_null_or_of kind) xs ≡ true
all_of_kind kind n xs long h =
    ap (list_all (is_null_or_of kind)) (sym (take-length xs) ∙ ap (λ (m : ℕ). take m xs) (sym long)) ∙ h

-- ---- the runs of a window

pub number_count : (d : Dimensions) (w : Window) → length (window_numbers d w) ≡ position_count w
number_count d w = length-map (positions w) (number_of d) ∙ length-positions w

-- the next run lies within the cells and within the window
pub run_within : (d : Dimensions) (w : Window) (left next : List (ℕ × ℕ)) (first count done : ℕ) → Visiting (window_numbers d w) left done → EndWithin (cell_count d) left → left ≡ (first, count) ∷ next → (first + count ≤ cell_count d) × (done + count ≤ position_count w) × EndWithin (cell_count d) next
run_within d w left next first count done visiting within is =
    let here : EndWithin (cell_count d) ((first, count) ∷ next) = subst (EndWithin (cell_count d)) is within in
    let after = visiting_goes (window_numbers d w) left next first count done visiting is in
    (here.0, omega (arith, after.lengths, number_count d w), here.1)

-- what a read gave, as the contents say it
pub given_shown : (store : Option (List ℕ)) (head : Head) (w : Window) (into : List Cell) (result : Result (Unit {0}) SourceFail) → OnOk result (IfSome store (λ all. AreCellsOf head.shape (contents_of head all) w into)) → OnOk result (IfSome (option_map (contents_of head) store) (λ k. AreCellsOf head.shape k w into))
given_shown None head w into (Ok u) h = tt
given_shown (Some all) head w into (Ok u) h = h
given_shown store head w into (Err e) h = tt
