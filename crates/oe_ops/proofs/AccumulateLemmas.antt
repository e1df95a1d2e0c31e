-- Running sums along t at the positions of a window: rows are written one by one, and they are the sums of the cube.
use Rattle.std.proofs.Common.{◌≡◌, ◌≢◌, ◌⊎◌, inl, inr, ℕ, zero, suc, ◌+◌, ◌-◌, ◌<◌, ◌≤◌, Bool, true, false, List, [], ◌∷◌, ◌++◌, filter, length, map, take, drop, get_or, refl, sym, ap, ◌∙◌, subst, arith, ℤ, pos, int_lt, ◌<ℤ◌, ◌≤ℤ◌, Option, Some, None}
use Rattle.std.specs.List.{All, range_with_len, slice_get}
use Rattle.std.specs.Option.{unwrap_or}
use Rattle.std.proofs.lemmas.Int.{ints}
use Rattle.std.proofs.lemmas.Bool.{and_parts, cases_lt}
use Rattle.std.proofs.lemmas.List.{length-take-le, get_or-drop, get_or-take, get_or_append_left, get_or-append_right}
use Rattle.std.proofs.lemmas.List.Elements.{All-append, All-cons, All-map, All-nil}
use Rattle.std.proofs.lemmas.List.FromFn.{map-range_with_len_more}
use Rattle.std.proofs.lemmas.Option.{same_Some, slice_get-get_or, slice_get_within}
use borrow.Rule.Slice.PartMut.{put_mid}
use Rattle.oe_cell.specs.declared.cell.Cell.{Cell}
use Rattle.oe_cell.specs.declared.cell.Cell.TheVariants.{Empty}
use Rattle.oe_cube.specs.Kinds.{IsOfKind}
use Rattle.oe_dims.specs.Cube.{Cube, IsCube, Tuple}
use Rattle.oe_dims.specs.Dimensions.{Dimensions, IsShape, extent, number_labels, rises}
use Rattle.oe_dims.specs.Positions.{IsPosition, Position, label_of, tuple_of}
use Rattle.oe_dims.specs.declared.kind.CellKind.{CellKind}
use Rattle.oe_dims.specs.declared.kind.CellKind.TheVariants.{Flags, Numbers}
use Rattle.oe_dims.specs.declared.kind.Kind.TheVariants.{Time, X}
use Rattle.oe_dims.proofs.IndexLemmas.{from_lt, rises_lt}
use Rattle.oe_dims.proofs.ShapeLemmas.{t_rises}
use Rattle.oe_periods.specs.Sums.{HasSummed, running_sum}
use Rattle.oe_periods.proofs.SumLemmas.{running_sum-logical, running_sum-numeric}
use Rattle.oe_window.specs.Cells.{cells_on}
use Rattle.oe_window.specs.Windows.{Holds, IsIn, extent_along, number_in, position_count, positions, span_length, whole_window}
use Rattle.oe_window.specs.declared.window.Window.{Window}
use Rattle.oe_window.proofs.CellLemmas.{cells_on-tabulate}
use Rattle.oe_window.proofs.WholeLemmas.{position_in}
use Rattle.oe_window.proofs.WindowLemmas.{length-positions, position_at, position_number}
use Rattle.oe_ops.specs.Lists.{list_from, with_index}
use Rattle.oe_ops.specs.Needs.{HasLabelsBeside, HoldsNeed}
use Rattle.oe_ops.specs.Slices.{IsOn, along_x, at_indices, cell_of}
use Rattle.oe_meanings.specs.Meaning.{accumulated, cell, cells_at, labels_before}
use Rattle.oe_ops.specs.Sums.{HoldsAllBefore, sum_at}
use Rattle.oe_ops.specs.declared.slice.Slice.{Slice}
use Rattle.oe_ops.proofs.KindLemmas.{fits_at}
use Rattle.oe_ops.proofs.ListLemmas.{map-agree, map-from_each}
use Rattle.oe_ops.proofs.NumberLemmas.{are_some, number_along, number_below}
use Rattle.oe_ops.proofs.ReduceLemmas.{by_index, label_there, listed}

-- ---- a row is written into a window

-- the first position of a row, as the first of its indices along x
pub along_none : (w : Window) (p : Position) → IsIn w (along_x p 0) → IsIn w p
along_none w p h = let same : p.x + 0 ≡ p.x = omega arith in subst (λ i. IsIn w (record p { x = i })) same h

-- a row ends within the window
pub row_fits : (w : Window) (p : Position) (n : ℕ) → 0 < n → ((k : ℕ) → k < n → IsIn w (along_x p k)) → number_in w p + n ≤ position_count w
row_fits w p n some inside =
    let first = inside 0 some in
    let begun = first.x in
    let below = number_below w (along_x p (n - 1)) (inside (n - 1) (omega arith)) in
    let number = number_along w p (n - 1) (omega arith) in
    omega arith

-- positions with one number are one
same_position : (w : Window) (p q : Position) → IsIn w p → IsIn w q → number_in w p ≡ number_in w q → p ≡ q
same_position w p q h g e = same_Some p q (sym (position_at w p h) ∙ ap (slice_get (positions w)) e ∙ position_at w q g)

put_at : (before row : List Cell) (first n k : ℕ) → first ≤ length before → k < length row → get_or (put_mid first n before row) (first + k) Empty ≡ get_or row k Empty
put_at before row first n k inside lt =
    let front : length (take first before) ≡ first = length-take-le first before inside in
    let back : first + k - first ≡ k = omega arith in
    get_or-append_right (take first before) _ first (first + k) Empty front (omega arith)
    ∙ ap (λ i. get_or (row ++ drop n (drop first before)) i Empty) back
    ∙ get_or_append_left row _ Empty k lt

put_before : (before row : List Cell) (first n j : ℕ) → first ≤ length before → j < first → get_or (put_mid first n before row) j Empty ≡ get_or before j Empty
put_before before row first n j inside lt =
    let front : length (take first before) ≡ first = length-take-le first before inside in
    get_or_append_left (take first before) _ Empty j (omega arith) ∙ get_or-take first before j Empty lt

put_behind : (before row : List Cell) (first n j : ℕ) → first ≤ length before → length row ≡ n → first + n ≤ j → get_or (put_mid first n before row) j Empty ≡ get_or before j Empty
put_behind before row first n j inside long le =
    let front : length (take first before) ≡ first = length-take-le first before inside in
    let back : first + (n + (j - first - n)) ≡ j = omega arith in
    get_or-append_right (take first before) _ first j Empty front (omega arith)
    ∙ get_or-append_right row _ n (j - first) Empty long (omega arith)
    ∙ get_or-drop n (drop first before) (j - first - n) Empty
    ∙ get_or-drop first before (n + (j - first - n)) Empty
    ∙ ap (λ i. get_or before i Empty) back

-- what was written
pub row_there : (w : Window) (before row : List Cell) (p : Position) (first n k : ℕ) → first ≡ number_in w p → w.x.from ≤ p.x → first ≤ length before → k < length row → get_or (put_mid first n before row) (number_in w (along_x p k)) Empty ≡ get_or row k Empty
row_there w before row p first n k is begun inside lt =
    let number : number_in w (along_x p k) ≡ first + k = number_along w p k begun ∙ ap (λ i. i + k) (sym is) in
    ap (λ i. get_or (put_mid first n before row) i Empty) number ∙ put_at before row first n k inside lt

-- what was not
pub row_beside : (w : Window) (before row : List Cell) (p q : Position) (first n : ℕ) → first ≡ number_in w p → w.x.from ≤ p.x → first ≤ length before → length row ≡ n
    → ((k : ℕ) → k < n → IsIn w (along_x p k)) → IsIn w q → ((k : ℕ) → along_x p k ≢ q)
    → get_or (put_mid first n before row) (number_in w q) Empty ≡ get_or before (number_in w q) Empty
row_beside w before row p q first n is begun fits long inside h other = elim (cases_lt (number_in w q) first) [
  | inl lt ↦ put_before before row first n (number_in w q) fits lt
  | inr ge ↦ elim (cases_lt (number_in w q) (first + n)) [
    | inl lt ↦ let k = number_in w q - first in
        let short : k < n = omega arith in
        let number : number_in w (along_x p k) ≡ number_in w q = number_along w p k begun ∙ (let e : number_in w p + k ≡ number_in w q = omega arith in e) in
        absurd (other k (same_position w (along_x p k) q (inside k short) h number))
    | inr past ↦ put_behind before row first n (number_in w q) fits long past
  ]
]

-- a position on another row is none of this one
pub off_row : (t band y x : ℕ) (q : Position) → (q.t ≢ t) ⊎ ((q.band ≢ band) ⊎ (q.y ≢ y)) → (k : ℕ) → along_x (at_indices t band y x) k ≢ q
off_row t band y x q (inl other) k e = other (sym (ap (λ (p : Position). p.t) e))
off_row t band y x q (inr (inl other)) k e = other (sym (ap (λ (p : Position). p.band) e))
off_row t band y x q (inr (inr other)) k e = other (sym (ap (λ (p : Position). p.y) e))

-- ---- one date more

-- the cells at the indices before one, and the cell there
pub list_more : (slice : Slice) (p : Position) (t : ℕ) → list_from slice Time 0 (t + 1) p ≡ list_from slice Time 0 t p ++ cell_of slice (with_index Time p t) ∷ []
list_more slice p t =
    let same : 0 + t ≡ t = omega arith in
    map-range_with_len_more (λ i. cell_of slice (with_index Time p (0 + i))) 0 t t same
    ∙ ap (λ i. list_from slice Time 0 t p ++ cell_of slice (with_index Time p i) ∷ []) same

-- ---- the sums of the cube

not_below : (b a : ℤ) → a ≤ℤ b → int_lt b a ≡ false
not_below b a h = grind (arith, ints)

none_below : (a : ℤ) (labels : List ℤ) → ((k : ℕ) → k < length labels → a ≤ℤ get_or labels k a) → filter (λ other. int_lt other a) labels ≡ []
none_below a [] h = refl
none_below a (b ∷ labels) h = rw (not_below b a (h 0 (omega arith))) (none_below a labels (λ k lt. h (suc k) (omega arith)))

first_least : (a : ℤ) (labels : List ℤ) → rises (a ∷ labels) ≡ true → (k : ℕ) → k < length (a ∷ labels) → a ≤ℤ get_or (a ∷ labels) k a
first_least a labels h zero lt = omega (arith, ints)
first_least a labels h (suc k) lt = omega (arith, ints, rises_lt (a ∷ labels) 0 (suc k) a h (omega arith) lt)

rest_rises : (a : ℤ) (labels : List ℤ) → rises (a ∷ labels) ≡ true → rises labels ≡ true
rest_rises a [] h = refl
rest_rises a (b ∷ labels) h = (and_parts _ _ h).1

-- among labels that rise, those before the one at an index are those at the indices before it
before_label : (labels : List ℤ) (i : ℕ) (l : ℤ) → rises labels ≡ true → slice_get labels i ≡ Some l → filter (λ other. int_lt other l) labels ≡ take i labels
before_label [] i l h e = absurd cc
before_label (a ∷ labels) zero l h e =
    let same : a ≡ l = same_Some a l e in
    subst (λ m. filter (λ other. int_lt other m) (a ∷ labels) ≡ []) same (none_below a (a ∷ labels) (first_least a labels h))
before_label (a ∷ labels) (suc i) l h e =
    let within : i < length labels = slice_get_within labels i l e in
    let at : get_or labels i a ≡ l = same_Some (get_or labels i a) l (sym (slice_get-get_or labels i a within) ∙ e) in
    let lt : a <ℤ l = subst (λ m. a <ℤ m) at (rises_lt (a ∷ labels) 0 (suc i) a h (omega arith) (omega arith)) in
    rw (from_lt a l lt) (ap (λ ls. a ∷ ls) (before_label labels i l (rest_rises a labels h) e))

labels_are : (t : Option (List ℤ)) (i : ℕ) → rises (unwrap_or t []) ≡ true → i < extent t → labels_before (label_of t i) (unwrap_or t []) ≡ take i (unwrap_or t [])
labels_are None i h lt = let none : i ≡ 0 = omega arith in rw none refl
labels_are (Some ls) i h lt =
    let here = slice_get-get_or ls i (pos 0) lt in
    ap (λ o. labels_before o ls) here ∙ before_label ls i (get_or ls i (pos 0)) h here

as_many : (t : Option (List ℤ)) (i : ℕ) → i < extent t → length (take i (unwrap_or t [])) ≡ i
as_many None i lt = let none : i ≡ 0 = omega arith in rw none refl
as_many (Some ls) i lt = length-take-le i ls (omega arith)

none_at : (i : ℕ) (l : ℤ) → slice_get [] i ≡ Some l → ⊥
none_at zero l e = absurd cc
none_at (suc i) l e = absurd cc

taken : (labels : List ℤ) (n i : ℕ) (l : ℤ) → slice_get (take n labels) i ≡ Some l → slice_get labels i ≡ Some l
taken [] zero i l e = absurd (none_at i l e)
taken [] (suc n) i l e = absurd (none_at i l e)
taken (a ∷ labels) zero i l e = absurd (none_at i l e)
taken (a ∷ labels) (suc n) zero l e = e
taken (a ∷ labels) (suc n) (suc i) l e = taken labels n i l e

fused : (g : Tuple → Cell) (h : ℤ → Tuple) (labels : List ℤ) → map g (map h labels) ≡ map (λ label. g (h label)) labels
fused g h [] = refl
fused g h (label ∷ labels) = ap (λ cells. g (h label) ∷ cells) (fused g h labels)

module _ (ignore : Bool) (cube : Cube Cell) (slice : Slice) (window : Window) (valid : IsShape cube.shape) (whole : IsCube cube) (on : IsOn cube slice) (holds : Holds (whole_window cube.shape) window) (dates : HoldsAllBefore window slice) where
  held : (p : Position) (i : ℕ) → IsIn window p → i ≤ p.t → IsIn slice.window (with_index Time p i)
  held p i h le = let before = h.t.before in dates p i h (omega arith)

  place : (p : Position) (i : ℕ) → IsIn window p → i ≤ p.t → IsPosition cube.shape (with_index Time p i)
  place p i h le = let here = position_in cube.shape p (holds p h) in record { t = omega (arith, here.t, le); band = here.band; y = here.y; x = here.x }

  before_is : (p : Position) → IsIn window p → list_from slice Time 0 p.t p ≡ cells_at cube (tuple_of cube.shape p) (labels_before (label_of cube.shape.t p.t) (number_labels cube.shape Time))
  before_is p h =
      let here = position_in cube.shape p (holds p h) in
      let labels = take p.t (number_labels cube.shape Time) in
      let many : length labels ≡ p.t = as_many cube.shape.t p.t here.t in
      ap (λ n. map (λ i. cell_of slice (with_index Time p (0 + i))) (range_with_len 0 n)) (sym many)
      ∙ by_index (λ i. cell_of slice (with_index Time p (0 + i))) (cell cube) (λ label. record (tuple_of cube.shape p) { t = Some label }) labels 0
      (λ i j l e at.
      let within : i < p.t = omega (arith, slice_get_within labels i l e, many) in
      let same : 0 + j ≡ i = omega arith in
      let le : i ≤ p.t = omega arith in
      ap (λ n. cell_of slice (with_index Time p n)) same
      ∙ listed cube slice valid whole on (with_index Time p i) (place p i h le) (held p i h le)
      ∙ ap (λ (o : Option ℤ). cell cube (record (tuple_of cube.shape p) { t = o })) (label_there cube.shape.t i l (taken (number_labels cube.shape Time) p.t i l e)))
      ∙ fused (cell cube) (λ label. record (tuple_of cube.shape p) { t = Some label }) labels
      ∙ ap (cells_at cube (tuple_of cube.shape p)) (sym (labels_are cube.shape.t p.t (t_rises cube.shape valid) here.t))

  sum_here : (p : Position) → IsIn window p → sum_at ignore slice p ≡ running_sum ignore (cells_at cube (tuple_of cube.shape p) (labels_before (label_of cube.shape.t p.t) (number_labels cube.shape Time))) (cell cube (tuple_of cube.shape p))
  sum_here p h =
      let le : p.t ≤ p.t = omega arith in
      ap (λ before. running_sum ignore before (cell_of slice p)) (before_is p h)
      ∙ ap (running_sum ignore (cells_at cube (tuple_of cube.shape p) (labels_before (label_of cube.shape.t p.t) (number_labels cube.shape Time)))) (listed cube slice valid whole on p (place p p.t h le) (held p p.t h le))

  sums_here : map (sum_at ignore slice) (positions window) ≡ cells_on Empty (accumulated ignore cube) window
  sums_here =
      map-agree _ _ window sum_here
      ∙ sym (cells_on-tabulate Empty cube.shape (λ tuple. running_sum ignore (cells_at cube tuple (labels_before tuple.t (number_labels cube.shape Time))) (cell cube tuple)) window holds)

-- what a window needs holds all dates before its end
pub all_before : (d : Dimensions) (window : Window) (slice : Slice) → Holds (whole_window d) window → HoldsNeed (HasLabelsBeside Time d d) window slice.window → HoldsAllBefore window slice
all_before d window slice holds need p i h lt =
    let here = position_in d p (holds p h) in
    let last = holds (with_index Time p (window.t.to - 1)) (record { t = record { begun = omega (arith, h.t.begun, h.t.before); before = omega arith }; bands = h.bands; y = h.y; x = h.x }) in
    need p (with_index Time p i) h (record { is_position = record { t = omega (arith, last.t.before); band = here.band; y = here.y; x = here.x }; labels = refl })

pub sums_are : (ignore : Bool) (cube : Cube Cell) (slice : Slice) (window : Window) (shape : Dimensions) → cube.shape ≡ shape → IsShape shape → IsCube cube → IsOn cube slice → Holds (whole_window shape) window → HoldsAllBefore window slice → map (sum_at ignore slice) (positions window) ≡ cells_on Empty (accumulated ignore cube) window
sums_are ignore cube slice window shape same valid whole on holds dates =
    sums_here ignore cube slice window (subst IsShape (sym same) valid) whole on (subst (λ s. Holds (whole_window s) window) (sym same) holds) dates

-- a row of a window is no longer than a side of the cube
pub width_within : (d : Dimensions) (window : Window) → 0 < position_count window → Holds (whole_window d) window → span_length window.x ≤ extent_along d X
width_within d window more holds =
    let some = are_some window more in
    let last = holds (at_indices window.t.from window.bands.from window.y.from (window.x.to - 1))
    (record {
      t = record { begun = omega arith; before = omega (arith, some.t) };
      bands = record { begun = omega arith; before = omega (arith, some.bands) };
      y = record { begun = omega arith; before = omega (arith, some.y) };
      x = record { begun = omega (arith, some.x); before = omega (arith, some.x) };
    }) in
    omega (arith, last.x.before)

-- ---- kinds

pub sum_fits : (kind : CellKind) (ignore : Bool) (slice : Slice) (p : Position) → All (IsOfKind kind) slice.cells.now → IsOfKind kind (sum_at ignore slice p)
sum_fits kind ignore slice p h = by kind (All-append (IsOfKind kind) (list_from slice Time 0 p.t p) (cell_of slice p ∷ []) before last)
  where
    before : All (IsOfKind kind) (list_from slice Time 0 p.t p)
    before = All-map (IsOfKind kind) (λ i. cell_of slice (with_index Time p (0 + i))) (range_with_len 0 p.t) (λ i other lt. fits_at kind slice.cells.now _ h)

    last : All (IsOfKind kind) (cell_of slice p ∷ [])
    last = All-cons (IsOfKind kind) (cell_of slice p) [] (fits_at kind slice.cells.now _ h) (All-nil (IsOfKind kind))

    by : (of : CellKind) → All (IsOfKind of) (list_from slice Time 0 p.t p ++ cell_of slice p ∷ []) → IsOfKind of (sum_at ignore slice p)
    by Numbers all = running_sum-numeric ignore (list_from slice Time 0 p.t p) (cell_of slice p) all
    by Flags all = running_sum-logical ignore (list_from slice Time 0 p.t p) (cell_of slice p) all

-- ---- all positions

pub all_sums : (ignore : Bool) (slice : Slice) (w : Window) (cells : List Cell) → length cells ≡ position_count w → ((p : Position) → IsIn w p → get_or cells (number_in w p) Empty ≡ sum_at ignore slice p) → cells ≡ map (sum_at ignore slice) (positions w)
all_sums ignore slice w cells long each =
    map-from_each (sum_at ignore slice) w cells (long ∙ sym (length-positions w)) (λ k p e.
    let at = position_number w k p e in
    ap (λ n. get_or cells n Empty) at.1 ∙ each p at.0)

-- ---- one date more, at a row

pub summed_more : (ignore : Bool) (slice : Slice) (p : Position) (t : ℕ) (read sum mark : Cell) → read ≡ cell_of slice (with_index Time p t) → HasSummed ignore (list_from slice Time 0 t p ++ read ∷ []) sum mark → HasSummed ignore (list_from slice Time 0 (t + 1) p) sum mark
summed_more ignore slice p t read sum mark is h =
    subst (λ cells. HasSummed ignore cells sum mark) (sym (list_more slice p t))
    (subst (λ c. HasSummed ignore (list_from slice Time 0 t p ++ c ∷ []) sum mark) is h)

-- a position by its row and how far along x it stands
pub on_row : (p : Position) (t band y x : ℕ) → p.t ≡ t → p.band ≡ band → p.y ≡ y → x ≤ p.x → along_x (at_indices t band y x) (p.x - x) ≡ p
on_row p t band y x et eb ey le =
    let ex : x + (p.x - x) ≡ p.x = omega arith in
    rw (sym et, sym eb, sym ey, ex) refl

-- the sum that was written is that of its position
pub sum_written : (ignore : Bool) (slice : Slice) (t band y x k : ℕ) (read value : Cell) (p : Position) → value ≡ running_sum ignore (list_from slice Time 0 t (along_x (at_indices 0 band y x) k)) read → read ≡ cell_of slice (along_x (at_indices t band y x) k) → along_x (at_indices t band y x) k ≡ p → value ≡ sum_at ignore slice p
sum_written ignore slice t band y x k read value p is read_is at =
    is ∙ ap (running_sum ignore (list_from slice Time 0 t (along_x (at_indices t band y x) k))) read_is ∙ ap (sum_at ignore slice) at

-- each index of t before the window's end, at a pixel of the window, is listed
pub row_held : (window : Window) (slice : Slice) (t band y k : ℕ) → HoldsAllBefore window slice → 0 < position_count window → (window.bands.from ≤ band) × (band < window.bands.to) → (window.y.from ≤ y) × (y < window.y.to) → k < span_length window.x → t < window.t.to → IsIn slice.window (along_x (at_indices t band y window.x.from) k)
row_held window slice t band y k dates more in_bands in_y short lt =
    let some = are_some window more in
    dates (at_indices window.t.from band y (window.x.from + k)) t
    (record {
      t = record { begun = omega arith; before = omega (arith, some.t) };
      bands = record { begun = in_bands.0; before = in_bands.1 };
      y = record { begun = in_y.0; before = in_y.1 };
      x = record { begun = omega arith; before = omega arith };
    })
    lt

-- and lies in the window from its first index of t on
pub row_inside : (window : Window) (t band y k : ℕ) → (window.bands.from ≤ band) × (band < window.bands.to) → (window.y.from ≤ y) × (y < window.y.to) → k < span_length window.x → window.t.from ≤ t → t < window.t.to → IsIn window (along_x (at_indices t band y window.x.from) k)
row_inside window t band y k in_bands in_y short ge lt = record {
  t = record { begun = ge; before = lt };
  bands = record { begun = in_bands.0; before = in_bands.1 };
  y = record { begun = in_y.0; before = in_y.1 };
  x = record { begun = omega arith; before = omega arith };
}
