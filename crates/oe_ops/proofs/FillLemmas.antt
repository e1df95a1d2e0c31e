-- One row, or one piece, after the other fills a window.
use Rattle.std.proofs.Common.{◌≡◌, ◌==◌, ℕ, zero, suc, ◌+◌, ◌-◌, ◌*◌, ◌/◌, ◌%◌, ◌<◌, ◌≤◌, List, [], ◌∷◌, ◌++◌, length, map, take, drop, get_or, refl, sym, ap, ◌∙◌, subst, arith, Some, inl, inr}
use Rattle.std.specs.List.{All, slice_get, slice_range, range_with_len}
use Rattle.std.proofs.Math.Nat.{mul-div_cancel}
use Rattle.std.proofs.lemmas.Bool.{cases_lt}
use Rattle.std.proofs.lemmas.Bool.Decides.{nat_tests}
use Rattle.std.proofs.Math.Seq.{take-append-add, take-append_seam}
use Rattle.std.proofs.lemmas.List.{length-take-le, length-drop, get_or-take, get_or_append_left, get_or-append_right, take-append-drop, take-map, drop-map}
use Rattle.std.proofs.lemmas.List.Elements.{All-append}
use Rattle.std.proofs.lemmas.List.Folds.{drop_split}
use Rattle.std.proofs.lemmas.Nat.{mul-le}
use Rattle.std.proofs.lemmas.Option.{same_Some, slice_get_within}
use borrow.Rule.Slice.PartMut.{put_mid}
use Rattle.oe_cell.specs.declared.cell.Cell.{Cell}
use Rattle.oe_cell.specs.declared.cell.Cell.TheVariants.{Empty}
use Rattle.oe_dims.specs.Positions.{Position}
use Rattle.oe_window.specs.Parts.{IsPartFrom, plane_count, plane_of, plane_size}
use Rattle.oe_window.specs.Windows.{IsIn, span_length, positions, position_count, number_in}
use Rattle.oe_window.specs.declared.window.Window.{Window}
use Rattle.oe_window.proofs.ChunkLemmas.{none_or_more}
use Rattle.oe_window.proofs.PartLemmas.{plane_ends, plane_of_size}
use Rattle.oe_window.proofs.WindowLemmas.{position_at, length-positions}
use Rattle.oe_ops.specs.Slices.{at_indices, along_x}
use Rattle.oe_ops.proofs.ListLemmas.{map-from_each}
use Rattle.oe_ops.proofs.NumberLemmas.{AreSome, are_some, in_row_of}

-- what the row of a number is, by sides that the code counted
pub record RowAt (w : Window) (r nb ny nx : ℕ) : Type 0 where
  pub t : w.t.from + r / ny / nb < w.t.to
  pub band : w.bands.from + r / ny % nb < w.bands.to
  pub y : w.y.from + r % ny < w.y.to
  pub x : w.x.from + nx ≤ w.x.to
  pub ends : r * nx + nx ≤ position_count w
  pub inside : (i : ℕ) → i < nx → IsIn w (along_x (at_indices (w.t.from + r / ny / nb) (w.bands.from + r / ny % nb) (w.y.from + r % ny) w.x.from) i)
  pub number : (i : ℕ) → i < nx → number_in w (along_x (at_indices (w.t.from + r / ny / nb) (w.bands.from + r / ny % nb) (w.y.from + r % ny) w.x.from) i) ≡ r * nx + i

rows_in : (w : Window) → AreSome w → position_count w / span_length w.x ≡ span_length w.t * span_length w.bands * span_length w.y
rows_in w some = mul-div_cancel (span_length w.t * span_length w.bands * span_length w.y) some.x

row_here : (w : Window) (r : ℕ) → 0 < position_count w → r < position_count w / span_length w.x → RowAt w r (span_length w.bands) (span_length w.y) (span_length w.x)
row_here w r h hr =
    let some = are_some w h in
    let count = rows_in w some in
    let below : r < span_length w.t * span_length w.bands * span_length w.y = omega arith in
    let first = in_row_of w r 0 some below some.x in
    let inside = first.inside in
    let x_some = some.x in
    let more : suc r * span_length w.x ≤ span_length w.t * span_length w.bands * span_length w.y * span_length w.x = mul-le (suc r) (span_length w.x) (span_length w.t * span_length w.bands * span_length w.y) (span_length w.x) (omega arith) (omega arith) in
    record {
      t = inside.t.before;
      band = inside.bands.before;
      y = inside.y.before;
      x = omega arith;
      ends = omega arith;
      inside = λ i lt. (in_row_of w r i some below lt).inside;
      number = λ i lt. (in_row_of w r i some below lt).number;
    }

pub row_at : (w : Window) (r nb ny nx : ℕ) → nb ≡ span_length w.bands → ny ≡ span_length w.y → nx ≡ span_length w.x → 0 < position_count w → r < position_count w / nx → RowAt w r nb ny nx
row_at w r nb ny nx eb ey ex h hr =
    let below : r < position_count w / span_length w.x = omega (arith, ap (λ n. position_count w / n) ex) in
    rw (eb, ey, ex) (row_here w r h below)

pub all_rows : (w : Window) (nx : ℕ) → nx ≡ span_length w.x → 0 < position_count w → position_count w / nx * nx ≡ position_count w
all_rows w nx ex h = let some = are_some w h in rw ex (ap (λ n. n * span_length w.x) (rows_in w some))

pub length-part : (xs : List Cell) (a n : ℕ) → a + n ≤ length xs → length (take (a + n - a) (drop a xs)) ≡ n
length-part xs a n h =
    let back : a + n - a ≡ n = omega arith in
    rw back (length-take-le n (drop a xs) (let long = length-drop a xs in omega arith))

-- a row is written, and what stood before it stays
pub row_written : (f : Position → Cell) (w : Window) (r nx : ℕ) (before row : List Cell) (p0 : Position) → r * nx + nx ≤ length before → length row ≡ nx → ((i : ℕ) → i < nx → IsIn w (along_x p0 i)) → ((i : ℕ) → i < nx → number_in w (along_x p0 i) ≡ r * nx + i) → ((k : ℕ) (p : Position) → k < r * nx → slice_get (positions w) k ≡ Some p → get_or before k Empty ≡ f p) → ((i : ℕ) → i < nx → get_or row i Empty ≡ f (along_x p0 i)) → (k : ℕ) (p : Position) → k < (r + 1) * nx → slice_get (positions w) k ≡ Some p → get_or (put_mid (r * nx) (r * nx + nx - r * nx) before row) k Empty ≡ f p
row_written f w r nx before row p0 fits long inside number old new k p h e =
    let front : length (take (r * nx) before) ≡ r * nx = length-take-le (r * nx) before (omega arith) in
    elim (cases_lt k (r * nx)) [
      | inl lt ↦ get_or_append_left (take (r * nx) before) _ Empty k (omega arith) ∙ get_or-take (r * nx) before k Empty lt ∙ old k p lt e
      | inr ge ↦ let i = k - r * nx in
          let short : i < nx = omega arith in
          let at_row : slice_get (positions w) k ≡ Some (along_x p0 i) = ap (slice_get (positions w)) (let q : k ≡ number_in w (along_x p0 i) = omega (arith, number i short) in q) ∙ position_at w (along_x p0 i) (inside i short) in
          let same : along_x p0 i ≡ p = same_Some (along_x p0 i) p (sym at_row ∙ e) in
          get_or-append_right (take (r * nx) before) _ (r * nx) k Empty front ge ∙ get_or_append_left row _ Empty i (omega arith) ∙ new i short ∙ ap f same
    ]

pub all_written : (f : Position → Cell) (w : Window) (cells : List Cell) (done : ℕ) → length cells ≡ position_count w → position_count w ≤ done → ((k : ℕ) (p : Position) → k < done → slice_get (positions w) k ≡ Some p → get_or cells k Empty ≡ f p) → cells ≡ map f (positions w)
all_written f w cells done counted all each =
    let long = length-positions w in
    map-from_each f w cells (omega arith) (λ k p e. each k p (let within = slice_get_within (positions w) k p e in omega arith) e)

-- a list by indices
list_from : (f : ℕ → Cell) (a : ℕ) (xs : List Cell) → ((k : ℕ) → k < length xs → get_or xs k Empty ≡ f (a + k)) → xs ≡ map f (range_with_len a (length xs))
list_from f a [] h = refl
list_from f a (x ∷ xs) h =
    let first : x ≡ f a = h 0 (omega arith) ∙ ap f (let e : a + 0 ≡ a = omega arith in e) in
    let rest : xs ≡ map f (range_with_len (a + 1) (length xs)) = list_from f (a + 1) xs (λ k lt. h (suc k) (omega arith) ∙ ap f (let e : a + suc k ≡ a + 1 + k = omega arith in e)) in
    ap (λ v. v ∷ xs) first ∙ ap (λ l. f a ∷ l) rest

pub list_from_each : (f : ℕ → Cell) (xs : List Cell) (n : ℕ) → length xs ≡ n → ((k : ℕ) → k < n → get_or xs k Empty ≡ f k) → xs ≡ map f (range_with_len 0 n)
list_from_each f xs n long h =
    list_from f 0 xs (λ k lt. h k (omega arith) ∙ ap f (let e : k ≡ 0 + k = omega arith in e)) ∙ ap (λ m. map f (range_with_len 0 m)) long

-- ---- one piece after the other

piece_written : (before piece rest : List Cell) (done n : ℕ) → done ≤ length before → length piece ≡ n → take (done + n) (take done before ++ (piece ++ rest)) ≡ take done before ++ piece
piece_written before piece rest done n inside long =
    let front : length (take done before) ≡ done = length-take-le done before inside in
    let count : done + n ≡ length (take done before) + length piece = omega (arith, front, long) in
    ap (λ k. take k (take done before ++ (piece ++ rest))) count
    ∙ take-append-add (take done before) (piece ++ rest) (length piece)
    ∙ ap (λ ys. take done before ++ ys) (take-append_seam piece rest)

piece_follows : (xs : List Cell) (done n : ℕ) → done + n ≤ length xs → take (done + n) xs ≡ take done xs ++ slice_range xs done (done + n)
piece_follows xs done n inside =
    let piece = slice_range xs done (done + n) in
    let rest = drop (done + n) xs in
    let split : xs ≡ take done xs ++ (piece ++ rest) = sym (take-append-drop done xs) ∙ ap (λ ys. take done xs ++ ys) (drop_split xs done (done + n) (omega arith)) in
    ap (take (done + n)) split ∙ piece_written xs piece rest done n (omega arith) (length-part xs done n inside)

-- a list is that of all cells one piece further
pub piece_more : (all before piece rest : List Cell) (done n : ℕ) → length before ≡ length all → done + n ≤ length all → length piece ≡ n → take done before ≡ take done all → piece ≡ slice_range all done (done + n) → take (done + n) (take done before ++ (piece ++ rest)) ≡ take (done + n) all
piece_more all before piece rest done n same inside long was is =
    piece_written before piece rest done n (omega arith) long
    ∙ ap (λ xs. xs ++ piece) was
    ∙ ap (λ ys. take done all ++ ys) is
    ∙ sym (piece_follows all done n inside)

-- and its cells have a property one piece further
pub all_more : (P : Cell → Type 0) (before piece rest : List Cell) (done n : ℕ) → done ≤ length before → length piece ≡ n → All P (take done before) → All P piece → All P (take (done + n) (take done before ++ (piece ++ rest)))
all_more P before piece rest done n inside long was is =
    subst (All P) (sym (piece_written before piece rest done n inside long)) (All-append P (take done before) piece was is)

-- the cells of a plane of a window stand behind those of the planes before it, and end within the window
pub record IsPieceOf (w plane : Window) (n : ℕ) : Type 0 where
  pub counted : position_count plane ≡ plane_size w
  pub some : 0 < plane_size w
  pub within : n * plane_size w + plane_size w ≤ position_count w
  pub next : (n + 1) * plane_size w ≡ n * plane_size w + plane_size w

one_more : (n size : ℕ) → (n + 1) * size ≡ n * size + size
one_more n size = omega arith

some_size : (n size total : ℕ) → n * size ≡ total → 0 < total → 0 < size
some_size n zero total e h = absurd (omega arith)
some_size n (suc size) total e h = omega arith

filled_count : (w : Window) (n : ℕ) → n < plane_count w → 0 < position_count w
filled_count w n under =
    let test = (none_or_more (position_count w == 0) (span_length w.t * span_length w.bands) n under).0 in
    grind (arith, nat_tests)

pub piece_of : (w plane : Window) (n planes : ℕ) → plane ≡ plane_of w n → planes ≡ plane_count w → planes * plane_size w ≡ position_count w → n < planes → IsPieceOf w plane n
piece_of w plane n planes is all whole below =
    let under : n < plane_count w = omega (arith, all, below) in
    let some : 0 < position_count w = filled_count w n under in
    record {
      counted = ap position_count is ∙ plane_of_size w n;
      some = some_size planes (plane_size w) (position_count w) whole some;
      within = plane_ends w n under;
      next = one_more n (plane_size w);
    }

-- what stands for the positions of a part is a piece of what stands for those of the window
pub part_of_map : (f : Position → Cell) (first : ℕ) (w part : Window) → IsPartFrom first w part → slice_range (map f (positions w)) first (first + position_count part) ≡ map f (positions part)
part_of_map f first w part h =
    let n = first + position_count part - first in
    ap (take n) (drop-map f first (positions w)) ∙ take-map f n (drop first (positions w)) ∙ ap (map f) h.listed
