-- The cells of a cube on a window.
use Rattle.std.proofs.Common.{◌*◌, ◌≡◌, ℕ, zero, suc, ◌+◌, ◌-◌, ◌≤◌, List, [], ◌∷◌, ◌++◌, length, map, take, drop, get_or, refl, sym, ap, ◌∙◌, subst, arith, Some, inl, inr, append_assoc, ◌<◌}
use Rattle.std.proofs.Math.Seq.{take-length}
use Rattle.std.specs.List.{slice_get, slice_range, range_with_len, sum_by}
use Rattle.std.specs.Option.{option_map, option_and_then}
use Rattle.std.proofs.lemmas.Bool.{cases_lt}
use Rattle.std.proofs.lemmas.List.{length-map, map-append, append-nil, drop_more, take-map, drop-map}
use Rattle.std.proofs.lemmas.List.Sums.{sum_by-cons}
use Rattle.std.proofs.lemmas.Option.{slice_get-map, slice_get_past, get_or_from_slice_get, slice_get-get_or}
use Rattle.oe_dims.specs.Cube.{Tuple, Cube, tuples, at, tabulate}
use Rattle.oe_dims.specs.Dimensions.{Dimensions, IsShape, cell_count}
use Rattle.oe_dims.specs.Positions.{Position, number_of, IsPosition, tuple_of}
use Rattle.oe_dims.proofs.CubeLemmas.{number_below, slice_get-tuples, row_major-tuple_of}
use Rattle.oe_dims.proofs.FlatMapLemmas.{same_gets}
use Rattle.oe_window.specs.Cells.{cell_at, cells_on}
use Rattle.oe_window.specs.Parts.{IsPartFrom, plane_count, plane_of, plane_size, row_count, row_of}
use Rattle.oe_window.specs.Runs.{window_numbers, laid, cells_of_runs, EndWithin}
use Rattle.oe_window.specs.Windows.{span_length, IsIn, whole_window, positions, position_count, number_in, Holds}
use Rattle.oe_window.specs.declared.window.Window.{Window}
use Rattle.oe_window.proofs.PartLemmas.{plane_part, plane_of_size, row_part, row_of_size}
use Rattle.oe_window.proofs.WholeLemmas.{position_in, count_whole, number_whole, number_in_below}
use Rattle.oe_window.proofs.WindowLemmas.{position_at, position_number, length-positions}

-- ---- how many there are, and where each stands

pub length-cells_on : {C : Type 0} (other : C) (cube : Cube C) (w : Window) → length (cells_on other cube w) ≡ position_count w
length-cells_on other cube w = length-map (positions w) (cell_at other cube) ∙ length-positions w

-- the cell of a position stands at the position's number
pub cells_on-at : {C : Type 0} (other : C) (cube : Cube C) (w : Window) (p : Position) → IsIn w p → slice_get (cells_on other cube w) (number_in w p) ≡ Some (cell_at other cube p)
cells_on-at other cube w p h =
    slice_get-map (cell_at other cube) (positions w) (number_in w p) ∙ ap (option_map (cell_at other cube)) (position_at w p h)

pub cells_on-get : {C : Type 0} (other : C) (cube : Cube C) (w : Window) (p : Position) (d : C) → IsIn w p → get_or (cells_on other cube w) (number_in w p) d ≡ cell_at other cube p
cells_on-get other cube w p d h =
    get_or_from_slice_get (cells_on other cube w) (number_in w p) (cell_at other cube p) d (cells_on-at other cube w p h)

-- a list with a cell for each position, each at the position's number, is the cells of the window
pub is_cells_on : {C : Type 0} (other : C) (cube : Cube C) (w : Window) (cells : List C) → length cells ≡ position_count w → ((p : Position) → IsIn w p → slice_get cells (number_in w p) ≡ Some (cell_at other cube p)) → cells ≡ cells_on other cube w
is_cells_on other cube w cells long each =
    same_gets cells (cells_on other cube w) (λ k. elim (cases_lt k (position_count w)) [
      | inl lt ↦
          let none : Position = record { t = 0; band = 0; y = 0; x = 0 } in
          let all = length-positions w in
          let e = slice_get-get_or (positions w) k none (omega arith) in
          let p = position_number w k (get_or (positions w) k none) e in
          let here = each (get_or (positions w) k none) p.0 in
          let there = cells_on-at other cube w (get_or (positions w) k none) p.0 in
          ap (slice_get cells) p.1 ∙ here ∙ sym there ∙ ap (slice_get (cells_on other cube w)) (sym p.1)
      | inr ge ↦ let all = length-cells_on other cube w in
          slice_get_past cells k (omega arith) ∙ sym (slice_get_past (cells_on other cube w) k (omega arith))
    ])

-- of the whole window they are all cells of the cube
pub cells_on-whole : {C : Type 0} (other : C) (cube : Cube C) → length cube.cells ≡ cell_count cube.shape → cells_on other cube (whole_window cube.shape) ≡ cube.cells
cells_on-whole other cube whole =
    let d = cube.shape in
    sym (is_cells_on other cube (whole_window d) cube.cells (whole ∙ sym (count_whole d)) (λ p h.
    let number = number_whole d p in
    let below = number_in_below (whole_window d) p h in
    let count = count_whole d in
    ap (slice_get cube.cells) number ∙ slice_get-get_or cube.cells (number_of d p) other (omega arith)))

-- each cell of the window is the one that stands at its position's number in the cube
pub each_cell : {C : Type 0} (d : Dimensions) (w : Window) (cells into : List C) → length cells ≡ cell_count d → Holds (whole_window d) w → ((other : C) → into ≡ cells_on other (record { shape = d; cells = cells }) w) → (p : Position) → IsIn w p → slice_get into (number_in w p) ≡ slice_get cells (number_of d p)
each_cell d w [] into whole holds same p h =
    let below = number_below d p (position_in d p (holds p h)) in absurd (omega arith)
each_cell d w (c ∷ cs) into whole holds same p h =
    let below = number_below d p (position_in d p (holds p h)) in
    ap (λ xs. slice_get xs (number_in w p)) (same c)
    ∙ cells_on-at c (record { shape = d; cells = c ∷ cs }) w p h ∙ sym (slice_get-get_or (c ∷ cs) (number_of d p) c (omega arith))

-- ---- cells by their labels

-- the cell at a position is the one of its label tuple
pub cell_at-at : {C : Type 0} (other : C) (cube : Cube C) (p : Position) → IsShape cube.shape → length cube.cells ≡ cell_count cube.shape → IsPosition cube.shape p → at cube (tuple_of cube.shape p) ≡ Some (cell_at other cube p)
cell_at-at other cube p shape whole h =
    let below = number_below cube.shape p h in
    ap (option_and_then (slice_get cube.cells)) (row_major-tuple_of cube.shape p shape h)
    ∙ slice_get-get_or cube.cells (number_of cube.shape p) other (omega arith)

-- of a cube that was made of its tuples it is what was made of that tuple
pub cell_at-tabulate : {C : Type 0} (other : C) (d : Dimensions) (f : Tuple → C) (p : Position) → IsPosition d p → cell_at other (tabulate d f) p ≡ f (tuple_of d p)
cell_at-tabulate other d f p h =
    get_or_from_slice_get (map f (tuples d)) (number_of d p) (f (tuple_of d p)) other
    (slice_get-map f (tuples d) (number_of d p) ∙ ap (option_map f) (slice_get-tuples d p h))

pub cells_on-tabulate : {C : Type 0} (other : C) (d : Dimensions) (f : Tuple → C) (w : Window) → Holds (whole_window d) w → cells_on other (tabulate d f) w ≡ map (λ p. f (tuple_of d p)) (positions w)
cells_on-tabulate other d f w holds =
    let make : Position → _ = λ p. f (tuple_of d p) in
    sym (is_cells_on other (tabulate d f) w (map make (positions w)) (length-map (positions w) make ∙ length-positions w) (λ p h.
    slice_get-map make (positions w) (number_in w p) ∙ ap (option_map make) (position_at w p h)
    ∙ ap Some (sym (cell_at-tabulate other d f p (position_in d p (holds p h))))))

-- ---- a part that is one piece

slice_range-map : {A B : Type 0} (f : A → B) (xs : List A) (from to : ℕ) → slice_range (map f xs) from to ≡ map f (slice_range xs from to)
slice_range-map f xs from to = ap (take (to - from)) (drop-map f from xs) ∙ take-map f (to - from) (drop from xs)

pub cells_on-part : {C : Type 0} (other : C) (cube : Cube C) (first : ℕ) (w part : Window) → IsPartFrom first w part → slice_range (cells_on other cube w) first (first + position_count part) ≡ cells_on other cube part
cells_on-part other cube first w part h =
    slice_range-map (cell_at other cube) (positions w) first (first + position_count part) ∙ ap (map (cell_at other cube)) h.listed

pub plane_cells_are : {C : Type 0} (other : C) (cube : Cube C) (w : Window) (cells : List C) (n : ℕ) → n < plane_count w → cells ≡ cells_on other cube w → slice_range cells (n * plane_size w) (n * plane_size w + plane_size w) ≡ cells_on other cube (plane_of w n)
plane_cells_are other cube w cells n h same =
    ap (λ xs. slice_range xs (n * plane_size w) (n * plane_size w + plane_size w)) same
    ∙ ap (λ size. slice_range (cells_on other cube w) (n * plane_size w) (n * plane_size w + size)) (sym (plane_of_size w n))
    ∙ cells_on-part other cube (n * plane_size w) w (plane_of w n) (plane_part w n h)

pub row_cells_are : {C : Type 0} (other : C) (cube : Cube C) (w : Window) (cells : List C) (n : ℕ) → n < row_count w → cells ≡ cells_on other cube w → slice_range cells (n * span_length w.x) (n * span_length w.x + span_length w.x) ≡ cells_on other cube (row_of w n)
row_cells_are other cube w cells n h same =
    ap (λ xs. slice_range xs (n * span_length w.x) (n * span_length w.x + span_length w.x)) same
    ∙ ap (λ size. slice_range (cells_on other cube w) (n * span_length w.x) (n * span_length w.x + size)) (sym (row_of_size w n))
    ∙ cells_on-part other cube (n * span_length w.x) w (row_of w n) (row_part w n h)

-- ---- the cells at the numbers of a window

map-map : {X Y Z : Type 0} (f : X → Y) (g : Y → Z) (xs : List X) → map (λ x. g (f x)) xs ≡ map g (map f xs)
map-map f g [] = refl
map-map f g (x ∷ xs) = ap (λ ys. g (f x) ∷ ys) (map-map f g xs)

pub cells_on-numbers : {C : Type 0} (other : C) (cube : Cube C) (w : Window) → cells_on other cube w ≡ map (λ k. get_or cube.cells k other) (window_numbers cube.shape w)
cells_on-numbers other cube w = map-map (number_of cube.shape) (λ k. get_or cube.cells k other) (positions w)

-- the elements at numbers that count up are a part of the list
pub range_of_list : {X : Type 0} (xs : List X) (other : X) (a n : ℕ) → a + n ≤ length xs → map (λ k. get_or xs k other) (range_with_len a n) ≡ take n (drop a xs)
range_of_list xs other a zero h = refl
range_of_list xs other a (suc n) h =
    let rest = range_of_list xs other (a + 1) n (omega arith) in
    let here = drop_more xs a other (omega arith) in
    rw (here, rest) refl

part_of_list : {X : Type 0} (xs : List X) (a n : ℕ) → slice_range xs a (a + n) ≡ take n (drop a xs)
part_of_list xs a n = let less : a + n - a ≡ n = omega arith in ap (λ m. take m (drop a xs)) less

pub laid_cells : {C : Type 0} (cells : List C) (other : C) (runs : List (ℕ × ℕ)) → EndWithin (length cells) runs → cells_of_runs cells runs ≡ map (λ k. get_or cells k other) (laid runs)
laid_cells cells other [] h = refl
laid_cells cells other (run ∷ runs) h =
    let get : ℕ → _ = λ k. get_or cells k other in
    let here : slice_range cells run.0 (run.0 + run.1) ≡ map get (range_with_len run.0 run.1) = part_of_list cells run.0 run.1 ∙ sym (range_of_list cells other run.0 run.1 h.0) in
    let rest = laid_cells cells other runs h.1 in
    rw (here, rest) (sym (map-append get (range_with_len run.0 run.1) (laid runs)))

-- the parts of all cells that the runs of a window take up, laid end to end, are its cells
pub cells_on-runs : {C : Type 0} (other : C) (cube : Cube C) (w : Window) (runs : List (ℕ × ℕ)) → laid runs ≡ window_numbers cube.shape w → EndWithin (length cube.cells) runs → cells_of_runs cube.cells runs ≡ cells_on other cube w
cells_on-runs other cube w runs numbers within =
    laid_cells cube.cells other runs within ∙ ap (map (λ k. get_or cube.cells k other)) numbers ∙ sym (cells_on-numbers other cube w)

-- ---- a loop that copies run by run

-- what was copied, and what the runs that are left take up, are all that is to be copied
pub record Copying {C : Type 0} (cells : List C) (left : List (ℕ × ℕ)) (done : ℕ) (into all : List C) : Type 0 where
  pub copied : take done into ++ cells_of_runs cells left ≡ all
  pub within : EndWithin (length cells) left
  pub room : done + sum_by (λ run. run.1) left ≡ length into

pub copying_goes : {C : Type 0} (cells : List C) (left next : List (ℕ × ℕ)) (first count done : ℕ) (into after all : List C) → Copying cells left done into all → left ≡ (first, count) ∷ next → take (done + count) after ≡ take done into ++ slice_range cells first (first + count) → length after ≡ length into → Copying cells next (done + count) after all
copying_goes cells left next first count done into after all c e copied long =
    let within : EndWithin (length cells) ((first, count) ∷ next) = subst (EndWithin (length cells)) e c.within in
    let room : done + sum_by (λ run. run.1) ((first, count) ∷ next) ≡ length into = subst (λ runs. done + sum_by (λ run. run.1) runs ≡ length into) e c.room in
    let before : take done into ++ cells_of_runs cells ((first, count) ∷ next) ≡ all = subst (λ runs. take done into ++ cells_of_runs cells runs ≡ all) e c.copied in
    record {
      copied = ap (λ ys. ys ++ cells_of_runs cells next) copied ∙ append_assoc (take done into) (slice_range cells first (first + count)) (cells_of_runs cells next) ∙ before;
      within = within.1;
      room = let more = sum_by-cons (λ run. run.1) (first, count) next in omega arith;
    }

-- the next run lies within both
pub copying_fits : {C : Type 0} (cells : List C) (left next : List (ℕ × ℕ)) (first count done : ℕ) (into all : List C) → Copying cells left done into all → left ≡ (first, count) ∷ next → (first + count ≤ length cells) × (done + count ≤ length into)
copying_fits cells left next first count done into all c e =
    let within : EndWithin (length cells) ((first, count) ∷ next) = subst (EndWithin (length cells)) e c.within in
    let room : done + sum_by (λ run. run.1) ((first, count) ∷ next) ≡ length into = subst (λ runs. done + sum_by (λ run. run.1) runs ≡ length into) e c.room in
    let more = sum_by-cons (λ run. run.1) (first, count) next in
    (within.0, omega arith)

pub copying_begins : {C : Type 0} (cells : List C) (runs begun : List (ℕ × ℕ)) (into : List C) → EndWithin (length cells) runs → sum_by (λ run. run.1) runs ≡ length into → begun ≡ runs → Copying cells begun 0 into (cells_of_runs cells begun)
copying_begins cells runs begun into within room e =
    subst (λ rs. Copying cells rs 0 into (cells_of_runs cells rs)) (sym e) (record { copied = refl; within = within; room = omega arith })

pub copying_ends : {C : Type 0} (other : C) (d : Dimensions) (w : Window) (cells : List C) (runs begun left : List (ℕ × ℕ)) (done : ℕ) (into : List C) → EndWithin (length cells) runs → laid runs ≡ window_numbers d w → begun ≡ runs → left ≡ [] → Copying cells left done into (cells_of_runs cells begun) → into ≡ cells_on other (record { shape = d; cells = cells }) w
copying_ends other d w cells runs begun left done into within numbers e none c =
    let ended : Copying cells [] done into (cells_of_runs cells begun) = subst (λ rs. Copying cells rs done into (cells_of_runs cells begun)) none c in
    let room = ended.room in
    let whole : done ≡ length into = omega arith in
    sym (ap (λ n. take n into) whole ∙ take-length into) ∙ sym (append-nil (take done into)) ∙ ended.copied
    ∙ ap (cells_of_runs cells) e ∙ cells_on-runs other (record { shape = d; cells = cells }) w runs numbers within
