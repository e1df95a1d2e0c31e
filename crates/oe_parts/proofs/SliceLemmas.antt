-- Some of the cells whose records stand one behind the other.
use Rattle.std.proofs.Common.{◌≡◌, ℕ, zero, suc, ◌+◌, ◌-◌, ◌*◌, ◌<◌, ◌≤◌, List, [], ◌∷◌, ◌++◌, length, map, get_or, take, drop, Option, Some, refl, sym, ap, ◌∙◌, subst, arith}
use Rattle.std.specs.List.{All, range_with_len, slice_get, sum_by, flat_map}
use Rattle.std.specs.Option.{option_map}
use Rattle.std.proofs.lemmas.Grind.{flat_map-append}
use Rattle.std.proofs.lemmas.List.{get_or-append-add, get_or_append_left, length-append, length-take-le, take-append-drop}
use Rattle.std.proofs.lemmas.List.Sums.{sum_by-cons}
use Rattle.std.proofs.lemmas.Option.{slice_get-map}
use Rattle.oe_cell.specs.Cells.{IsCell}
use Rattle.oe_cell.specs.Record.{record_of, records_of}
use Rattle.oe_cell.specs.declared.cell.Cell.{Cell}
use Rattle.oe_cell.specs.declared.cell.Cell.TheVariants.{Empty}
use Rattle.oe_cell.proofs.ListLemmas.{length-records_of}
use Rattle.oe_dims.specs.Cube.{Cube}
use Rattle.oe_dims.specs.Dimensions.{Dimensions}
use Rattle.oe_dims.specs.Positions.{number_of}
use Rattle.oe_dims.proofs.FlatMapLemmas.{value_at}
use Rattle.oe_outside.specs.Stored.{HoldsAt}
use Rattle.oe_outside.proofs.Stores.{HoldsAt-first, HoldsAt-second}
use Rattle.oe_spool.proofs.RunRecords.{length-numbers}
use Rattle.oe_window.specs.Cells.{cells_on}
use Rattle.oe_window.specs.Parts.{row_count, row_of}
use Rattle.oe_window.specs.Runs.{window_numbers}
use Rattle.oe_window.specs.Windows.{number_in, position_count, positions, span_length}
use Rattle.oe_window.specs.declared.window.Window.{Window}
use Rattle.oe_window.proofs.CellLemmas.{length-cells_on, row_cells_are}
use Rattle.oe_window.proofs.PartLemmas.{row_part}
use Rattle.oe_window.proofs.RangeLemmas.{slice_get-range}
use Rattle.oe_window.proofs.WindowLemmas.{position_at, position_number}
use Rattle.oe_parts.specs.Laid.{TellsPiece, TellsRow}
use Rattle.oe_parts.specs.PartFile.{cells_on_all}
use Rattle.oe_parts.specs.Rows.{HasNoRecordAt, HasNumbersFrom, Shows}
use Rattle.oe_parts.proofs.FileLemmas.{length-cells_on_all}
use Rattle.oe_parts.specs.declared.laying.PieceFail.{PieceFail}
use Rattle.oe_parts.specs.declared.laying.PieceFail.TheVariants.{Failed, Damaged, SpoolFailed}

-- ---- cells between others

all_middle : (a b c : List Cell) → All IsCell (a ++ (b ++ c)) → All IsCell b
all_middle a b c all k d below =
    let within : length a + k < length (a ++ (b ++ c)) = omega (arith, below, length-append a (b ++ c), length-append b c) in
    let same : get_or (a ++ (b ++ c)) (length a + k) d ≡ get_or b k d = get_or-append-add a (b ++ c) k d ∙ get_or_append_left b c d k below in
    subst IsCell same (all (length a + k) d within)

shows_middle : (store : Option (List ℕ)) (at : ℕ) (a b c : List Cell) → Shows store at (a ++ (b ++ c)) → Shows store (at + 17 * length a) b
shows_middle store at a b c s =
    let all = s.0 in
    let whole : HoldsAt all at (records_of a ++ records_of (b ++ c)) = subst (HoldsAt all at) (flat_map-append record_of a (b ++ c)) s.2 in
    let long : at + length (records_of a) ≡ at + 17 * length a = omega (arith, length-records_of a) in
    let rest : HoldsAt all (at + 17 * length a) (records_of (b ++ c)) = subst (λ (n : ℕ). HoldsAt all n (records_of (b ++ c))) long (HoldsAt-second all at (records_of a) (records_of (b ++ c)) whole) in
    (all, s.1, HoldsAt-first all (at + 17 * length a) (records_of b) (records_of c) (subst (HoldsAt all (at + 17 * length a)) (flat_map-append record_of b c) rest))

-- ---- a row among the cells of its window

row_split : (cube : Cube Cell) (w : Window) (n : ℕ) → n < row_count w → cells_on Empty cube w ≡ take (n * span_length w.x) (cells_on Empty cube w) ++ (cells_on Empty cube (row_of w n) ++ drop (span_length w.x) (drop (n * span_length w.x) (cells_on Empty cube w)))
row_split cube w n below =
    let len = span_length w.x in
    let cells = cells_on Empty cube w in
    let less : n * len + len - n * len ≡ len = omega arith in
    let row : take len (drop (n * len) cells) ≡ cells_on Empty cube (row_of w n) = ap (λ (m : ℕ). take m (drop (n * len) cells)) (sym less) ∙ row_cells_are Empty cube w cells n below refl in
    sym (take-append-drop (n * len) cells)
    ∙ ap (λ (cs : List Cell). take (n * len) cells ++ cs) (sym (take-append-drop len (drop (n * len) cells)) ∙ ap (λ (cs : List Cell). cs ++ drop len (drop (n * len) cells)) row)

row_before : (cube : Cube Cell) (w : Window) (n : ℕ) → n * span_length w.x ≤ position_count w → length (take (n * span_length w.x) (cells_on Empty cube w)) ≡ n * span_length w.x
row_before cube w n le = length-take-le (n * span_length w.x) (cells_on Empty cube w) (omega (arith, le, length-cells_on Empty cube w))

pub row_shows : (store : Option (List ℕ)) (at : ℕ) (cube : Cube Cell) (w : Window) (n : ℕ) → n < row_count w → n * span_length w.x ≤ position_count w → Shows store at (cells_on Empty cube w) → Shows store (at + 17 * (n * span_length w.x)) (cells_on Empty cube (row_of w n))
row_shows store at cube w n below le s =
    let before = take (n * span_length w.x) (cells_on Empty cube w) in
    let after = drop (span_length w.x) (drop (n * span_length w.x) (cells_on Empty cube w)) in
    subst (λ (k : ℕ). Shows store (at + 17 * k) (cells_on Empty cube (row_of w n))) (row_before cube w n le)
    (shows_middle store at before (cells_on Empty cube (row_of w n)) after (subst (Shows store at) (row_split cube w n below) s))

pub row_all : (cube : Cube Cell) (w : Window) (n : ℕ) → n < row_count w → All IsCell (cells_on Empty cube w) → All IsCell (cells_on Empty cube (row_of w n))
row_all cube w n below all =
    all_middle (take (n * span_length w.x) (cells_on Empty cube w)) (cells_on Empty cube (row_of w n)) (drop (span_length w.x) (drop (n * span_length w.x) (cells_on Empty cube w)))
    (subst (All IsCell) (row_split cube w n below) all)

-- ---- a chunk among those of its part

range_split : (a m n : ℕ) → range_with_len a (m + suc n) ≡ range_with_len a m ++ ((a + m) ∷ range_with_len (a + m + 1) n)
range_split a zero n =
    let none : 0 + suc n ≡ suc n = omega arith in
    let same : a + 0 ≡ a = omega arith in
    ap (range_with_len a) none ∙ ap (λ (k : ℕ). k ∷ range_with_len (k + 1) n) (sym same)
range_split a (suc m) n =
    let more : suc m + suc n ≡ suc (m + suc n) = omega arith in
    let same : a + 1 + m ≡ a + suc m = omega arith in
    ap (range_with_len a) more
    ∙ ap (λ (ks : List ℕ). a ∷ ks) (range_split (a + 1) m n ∙ ap (λ (k : ℕ). range_with_len (a + 1) m ++ (k ∷ range_with_len (k + 1) n)) same)

map_append : (f : ℕ → Window) (xs ys : List ℕ) → map f (xs ++ ys) ≡ map f xs ++ map f ys
map_append f [] ys = refl
map_append f (x ∷ xs) ys = ap (λ (ws : List Window). f x ∷ ws) (map_append f xs ys)

chunk_split : (cube : Cube Cell) (f : ℕ → Window) (a m n : ℕ) → cells_on_all cube (map f (range_with_len a (m + suc n)))
    ≡ cells_on_all cube (map f (range_with_len a m)) ++ (cells_on Empty cube (f (a + m)) ++ cells_on_all cube (map f (range_with_len (a + m + 1) n)))
chunk_split cube f a m n =
    ap (λ (ks : List ℕ). cells_on_all cube (map f ks)) (range_split a m n)
    ∙ ap (cells_on_all cube) (map_append f (range_with_len a m) ((a + m) ∷ range_with_len (a + m + 1) n))
    ∙ flat_map-append (cells_on Empty cube) (map f (range_with_len a m)) (map f ((a + m) ∷ range_with_len (a + m + 1) n))

pub chunk_shows : (store : Option (List ℕ)) (at : ℕ) (cube : Cube Cell) (f : ℕ → Window) (a m n : ℕ) → Shows store at (cells_on_all cube (map f (range_with_len a (m + suc n)))) → Shows store (at + 17 * sum_by position_count (map f (range_with_len a m))) (cells_on Empty cube (f (a + m)))
chunk_shows store at cube f a m n s =
    let before = map f (range_with_len a m) in
    subst (λ (k : ℕ). Shows store (at + 17 * k) (cells_on Empty cube (f (a + m)))) (length-cells_on_all cube before)
    (shows_middle store at (cells_on_all cube before) (cells_on Empty cube (f (a + m))) (cells_on_all cube (map f (range_with_len (a + m + 1) n))) (subst (Shows store at) (chunk_split cube f a m n) s))

pub chunk_all : (cube : Cube Cell) (f : ℕ → Window) (a m n : ℕ) → All IsCell (cells_on_all cube (map f (range_with_len a (m + suc n)))) → All IsCell (cells_on Empty cube (f (a + m)))
chunk_all cube f a m n all =
    all_middle (cells_on_all cube (map f (range_with_len a m))) (cells_on Empty cube (f (a + m))) (cells_on_all cube (map f (range_with_len (a + m + 1) n)))
    (subst (All IsCell) (chunk_split cube f a m n) all)

-- ---- damage

-- a damaged record of a row is one of the window
pub row_tells : (store : Option (List ℕ)) (at : ℕ) (d : Dimensions) (w : Window) (n first : ℕ) (fail : PieceFail) → n < row_count w → HasNumbersFrom d (row_of w n) first → TellsRow store (at + 17 * (n * span_length w.x)) first (position_count (row_of w n)) fail → TellsPiece store at (window_numbers d w) fail
row_tells store at d w n first Failed below numbers h = tt
row_tells store at d w n first SpoolFailed below numbers h = tt
row_tells store at d w n first (Damaged number) below numbers h =
    let i = h.0 in
    let there : slice_get (window_numbers d (row_of w n)) i ≡ Some (first + i) = ap (λ (ns : List ℕ). slice_get ns i) numbers ∙ slice_get-range first (position_count (row_of w n)) i h.1 in
    let found = value_at (number_of d) (positions (row_of w n)) i (first + i) there in
    let p = found.0 in
    let here = position_number (row_of w n) i p found.1 in
    let part = row_part w n below in
    let place : number_in w p ≡ n * span_length w.x + i = part.numbered p here.0 ∙ ap (λ (k : ℕ). n * span_length w.x + k) (sym here.1) in
    let at_p : slice_get (window_numbers d w) (number_in w p) ≡ Some (number_of d p) = slice_get-map (number_of d) (positions w) (number_in w p) ∙ ap (option_map (number_of d)) (position_at w p (part.inside p here.0)) in
    let number_is = h.2 in
    let offset : at + 17 * (n * span_length w.x) + 17 * i ≡ at + 17 * (n * span_length w.x + i) = omega arith in (
      n * span_length w.x + i,
      ap (slice_get (window_numbers d w)) (sym place) ∙ at_p ∙ ap Some (found.2 ∙ sym number_is),
      subst (HasNoRecordAt store) offset h.3,
    )

-- an element behind others
behind : (xs ys zs : List ℕ) (i n : ℕ) → slice_get ys i ≡ Some n → slice_get (xs ++ (ys ++ zs)) (length xs + i) ≡ Some n
behind [] ys zs i n e = let same : 0 + i ≡ i = omega arith in ap (slice_get (ys ++ zs)) same ∙ front ys zs i n e
  where
    front : (ys zs : List ℕ) (i n : ℕ) → slice_get ys i ≡ Some n → slice_get (ys ++ zs) i ≡ Some n
    front [] zs i n e = absurd cc
    front (y ∷ ys) zs zero n e = e
    front (y ∷ ys) zs (suc i) n e = front ys zs i n e
behind (x ∷ xs) ys zs i n e =
    let same : suc (length xs) + i ≡ suc (length xs + i) = omega arith in
    ap (slice_get (x ∷ (xs ++ (ys ++ zs)))) same ∙ behind xs ys zs i n e

numbers_split : (d : Dimensions) (f : ℕ → Window) (a m n : ℕ) → flat_map (window_numbers d) (map f (range_with_len a (m + suc n)))
    ≡ flat_map (window_numbers d) (map f (range_with_len a m)) ++ (window_numbers d (f (a + m)) ++ flat_map (window_numbers d) (map f (range_with_len (a + m + 1) n)))
numbers_split d f a m n =
    ap (λ (ks : List ℕ). flat_map (window_numbers d) (map f ks)) (range_split a m n)
    ∙ ap (flat_map (window_numbers d)) (map_append f (range_with_len a m) ((a + m) ∷ range_with_len (a + m + 1) n))
    ∙ flat_map-append (window_numbers d) (map f (range_with_len a m)) (map f ((a + m) ∷ range_with_len (a + m + 1) n))

length-numbers_all : (d : Dimensions) (ws : List Window) → length (flat_map (window_numbers d) ws) ≡ sum_by position_count ws
length-numbers_all d [] = refl
length-numbers_all d (w ∷ ws) = length-append (window_numbers d w) (flat_map (window_numbers d) ws) ∙ omega (arith, length-numbers d w, length-numbers_all d ws, sum_by-cons position_count w ws)

-- and one of a chunk is one of the part
pub chunk_tells : (store : Option (List ℕ)) (at : ℕ) (d : Dimensions) (f : ℕ → Window) (a m n : ℕ) (fail : PieceFail) → TellsPiece store (at + 17 * sum_by position_count (map f (range_with_len a m))) (window_numbers d (f (a + m))) fail → TellsPiece store at (flat_map (window_numbers d) (map f (range_with_len a (m + suc n)))) fail
chunk_tells store at d f a m n Failed h = tt
chunk_tells store at d f a m n SpoolFailed h = tt
chunk_tells store at d f a m n (Damaged number) h =
    let before = flat_map (window_numbers d) (map f (range_with_len a m)) in
    let sum = sum_by position_count (map f (range_with_len a m)) in
    let long : length before ≡ sum = length-numbers_all d (map f (range_with_len a m)) in
    let offset : at + 17 * sum + 17 * h.0 ≡ at + 17 * (length before + h.0) = omega (arith, long) in (
      length before + h.0,
      ap (λ (ns : List ℕ). slice_get ns (length before + h.0)) (numbers_split d f a m n) ∙ behind before (window_numbers d (f (a + m))) (flat_map (window_numbers d) (map f (range_with_len (a + m + 1) n))) h.0 number h.1,
      subst (HasNoRecordAt store) offset h.2,
    )
