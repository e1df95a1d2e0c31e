-- A window whose tuples stand in a box of a part.
use Rattle.std.proofs.Common.{◌≡◌, ℕ, ◌+◌, ◌-◌, ◌*◌, ◌<◌, true, false, List, length, Option, Some, None, IfSome, sym, ap, ◌∙◌, arith, unwrap_or, ◌==◌}
use Rattle.std.specs.List.{Contains, list_any, slice_get}
use Rattle.std.specs.Option.{option_map_or}
use Rattle.oe_cell.specs.declared.cell.Cell.{Cell}
use Rattle.oe_cell.specs.declared.cell.Cell.TheVariants.{Empty}
use Rattle.oe_cube.specs.Collections.{IsCollection}
use Rattle.oe_dims.specs.Cube.{Cube, Tuple, at, row_major, tabulate}
use Rattle.oe_dims.specs.Dimensions.{Dimensions, IsShape}
use Rattle.oe_dims.specs.Positions.{IsPosition, Position, number_of, tuple_of}
use Rattle.oe_dims.proofs.CubeLemmas.{row_major-tuple_of}
use Rattle.oe_mosaic.specs.Mosaics.{Part, cell_in, deciding_part, is_damaged_at, is_damaged_in, mosaic_cell}
use Rattle.oe_mosaic.specs.Places.{HasBox, index_from, moved}
use Rattle.oe_mosaic.specs.Readings.{AreApart}
use Rattle.oe_mosaic.proofs.DecideLemmas.{cell_some, damage_some, first_decides, is_listed, not_listed}
use Rattle.oe_sources.specs.Source.{AreCellsOf, Contents, HasNoDamage, collection_with}
use Rattle.oe_window.specs.Cells.{cell_at, cells_on}
use Rattle.oe_window.specs.Windows.{Holds, IsAlong, IsIn, number_in, position_count, span_length, whole_window}
use Rattle.oe_window.specs.declared.window.Span.{Span}
use Rattle.oe_window.specs.declared.window.Window.{Window}
use Rattle.oe_window.proofs.CellLemmas.{cell_at-at, cell_at-tabulate, cells_on-at, is_cells_on}
use Rattle.oe_window.proofs.WholeLemmas.{position_in}

along_from : (box span : Span) (i : ℕ) → span_length box ≡ span_length span → IsAlong span i → IsAlong box (index_from box.from span i)
along_from box span i same in_ = record { begun = omega arith; before = omega (arith, same, in_.begun, in_.before) }

pub moved_in : (d own : Dimensions) (window box : Window) (p : Position) → HasBox d own window box → IsIn window p → IsIn box (moved window box p)
moved_in d own window box p h in_ = record {
  t = along_from box.t window.t p.t h.t in_.t;
  bands = along_from box.bands window.bands p.band h.bands in_.bands;
  y = along_from box.y window.y p.y h.y in_.y;
  x = along_from box.x window.x p.x h.x in_.x;
}

number_steps : ℕ → ℕ → ℕ → ℕ → ℕ → ℕ → ℕ → ℕ
number_steps t b y x bands lines columns = ((t * bands + b) * lines + y) * columns + x

pub number_moved : (d own : Dimensions) (window box : Window) (p : Position) → HasBox d own window box → number_in box (moved window box p) ≡ number_in window p
unfolding number_steps
number_moved d own window box p h =
    let step : (first from i : ℕ) → first + (i - from) - first ≡ i - from = λ first from i. omega arith in
    ap (λ (t : ℕ). number_steps t (box.bands.from + (p.band - window.bands.from) - box.bands.from) (box.y.from + (p.y - window.y.from) - box.y.from) (box.x.from + (p.x - window.x.from) - box.x.from) (span_length box.bands) (span_length box.y) (span_length box.x)) (step box.t.from window.t.from p.t)
    ∙ ap (λ (b : ℕ). number_steps (p.t - window.t.from) b (box.y.from + (p.y - window.y.from) - box.y.from) (box.x.from + (p.x - window.x.from) - box.x.from) (span_length box.bands) (span_length box.y) (span_length box.x)) (step box.bands.from window.bands.from p.band)
    ∙ ap (λ (y : ℕ). number_steps (p.t - window.t.from) (p.band - window.bands.from) y (box.x.from + (p.x - window.x.from) - box.x.from) (span_length box.bands) (span_length box.y) (span_length box.x)) (step box.y.from window.y.from p.y)
    ∙ ap (λ (x : ℕ). number_steps (p.t - window.t.from) (p.band - window.bands.from) (p.y - window.y.from) x (span_length box.bands) (span_length box.y) (span_length box.x)) (step box.x.from window.x.from p.x)
    ∙ ap (λ (n : ℕ). number_steps (p.t - window.t.from) (p.band - window.bands.from) (p.y - window.y.from) (p.x - window.x.from) n (span_length box.y) (span_length box.x)) h.bands
    ∙ ap (λ (n : ℕ). number_steps (p.t - window.t.from) (p.band - window.bands.from) (p.y - window.y.from) (p.x - window.x.from) (span_length window.bands) n (span_length box.x)) h.y
    ∙ ap (λ (n : ℕ). number_steps (p.t - window.t.from) (p.band - window.bands.from) (p.y - window.y.from) (p.x - window.x.from) (span_length window.bands) (span_length window.y) n) h.x

-- a tuple of the window is decided by the part, at the number of the position that stands in the box
pub decided : (parts : List Part) (k : ℕ) (part : Part) (d : Dimensions) (window box : Window) (p : Position) → IsShape part.shape
    → slice_get parts k ≡ Some part → AreApart parts d window k → HasBox d part.shape window box → IsIn window p
    → (deciding_part parts (tuple_of d p) ≡ Some part) × (row_major part.shape (tuple_of d p) ≡ Some (number_of part.shape (moved window box p)))
decided parts k part d window box p valid stands apart h in_ =
    let q = moved window box p in
    let position : IsPosition part.shape q = position_in part.shape q (h.within q (moved_in d part.shape window box p h in_)) in
    let number : row_major part.shape (tuple_of d p) ≡ Some (number_of part.shape q) =
    ap (row_major part.shape) (sym (h.same p in_)) ∙ row_major-tuple_of part.shape q valid position in
    (first_decides parts k (number_of part.shape q) part (tuple_of d p) stands (λ j below. before j below) number, number)
  where
    before : (j : ℕ) → j < k → IfSome (slice_get parts j) (λ (other : Part). row_major other.shape (tuple_of d p) ≡ None)
    before j below = each (slice_get parts j) (apart j below)
      where
        each : (o : Option Part) → IfSome o (λ (other : Part). (q : Position) → IsIn window q → row_major other.shape (tuple_of d q) ≡ None) → IfSome o (λ (other : Part). row_major other.shape (tuple_of d p) ≡ None)
        each None a = tt
        each (Some other) a = a p in_

cell_of : (part : Part) (c : Contents) (tuple : Tuple) (cell : Cell) → part.contents ≡ Some c → at (record { shape = part.shape; cells = c.cells }) tuple ≡ Some cell → cell_in tuple part ≡ cell
cell_of part c tuple cell shown there =
    ap (λ (o : Option Contents). option_map_or (λ (c : Contents). unwrap_or (at (record { shape = part.shape; cells = c.cells }) tuple) Empty) o Empty) shown
    ∙ ap (λ (o : Option Cell). unwrap_or o Empty) there

-- the cells that a read of the box gives are those of the mosaic on the window
pub box_cells : (parts : List Part) (k : ℕ) (part : Part) (d : Dimensions) (window box : Window) (c : Contents) (cells : List Cell)
    → slice_get parts k ≡ Some part → AreApart parts d window k → HasBox d part.shape window box → Holds (whole_window d) window
    → part.contents ≡ Some c → IsCollection (collection_with part.shape part.kind c) → length cells ≡ position_count window
    → AreCellsOf part.shape c box cells → cells ≡ cells_on Empty (tabulate d (mosaic_cell parts)) window
box_cells parts k part d window box c cells stands apart h inside shown sound long read =
    is_cells_on Empty (tabulate d (mosaic_cell parts)) window cells long (λ p in_.
    let q = moved window box p in
    let cube : Cube Cell = record { shape = part.shape; cells = c.cells } in
    let in_box : IsIn box q = moved_in d part.shape window box p h in_ in
    let position : IsPosition part.shape q = position_in part.shape q (h.within q in_box) in
    let here : slice_get cells (number_in window p) ≡ Some (cell_at Empty cube q) =
    ap (slice_get cells) (sym (number_moved d part.shape window box p h))
    ∙ ap (λ (cs : List Cell). slice_get cs (number_in box q)) read.cells_are
    ∙ cells_on-at Empty cube box q in_box in
    let by = decided parts k part d window box p sound.valid stands apart h in_ in
    let there : at cube (tuple_of d p) ≡ Some (cell_at Empty cube q) =
    ap (at cube) (sym (h.same p in_)) ∙ cell_at-at Empty cube q sound.valid sound.counted position in
    let cell : mosaic_cell parts (tuple_of d p) ≡ cell_at Empty cube q =
    cell_some parts (tuple_of d p) part by.0 ∙ cell_of part c (tuple_of d p) (cell_at Empty cube q) shown there in
    here ∙ ap Some (sym cell ∙ sym (cell_at-tabulate Empty d (mosaic_cell parts) p (position_in d p (inside p in_)))))

damage_of : (part : Part) (c : Contents) (tuple : Tuple) (n : ℕ) → part.contents ≡ Some c → row_major part.shape tuple ≡ Some n
    → is_damaged_in tuple part ≡ list_any (λ other. other == n) c.damaged
damage_of part c tuple n shown there =
    ap (λ (o : Option Contents). option_map_or (λ (c : Contents). option_map_or (λ number. list_any (λ other. other == number) c.damaged) (row_major part.shape tuple) false) o false) shown
    ∙ ap (λ (o : Option ℕ). option_map_or (λ number. list_any (λ other. other == number) c.damaged) o false) there

pub box_undamaged : (parts : List Part) (k : ℕ) (part : Part) (d : Dimensions) (window box : Window) (c : Contents) (p : Position)
    → slice_get parts k ≡ Some part → AreApart parts d window k → HasBox d part.shape window box → IsShape part.shape
    → part.contents ≡ Some c → HasNoDamage part.shape c box → IsIn window p → is_damaged_at parts (tuple_of d p) ≡ false
box_undamaged parts k part d window box c p stands apart h valid shown none in_ =
    let q = moved window box p in
    let by = decided parts k part d window box p valid stands apart h in_ in
    damage_some parts (tuple_of d p) part by.0 ∙ damage_of part c (tuple_of d p) (number_of part.shape q) shown by.1
    ∙ not_listed c.damaged (number_of part.shape q) (none q (moved_in d part.shape window box p h in_))

pub box_damaged : (parts : List Part) (k : ℕ) (part : Part) (d : Dimensions) (window box : Window) (c : Contents) (p : Position)
    → slice_get parts k ≡ Some part → AreApart parts d window k → HasBox d part.shape window box → IsShape part.shape
    → part.contents ≡ Some c → Contains c.damaged (number_of part.shape (moved window box p)) → IsIn window p
    → is_damaged_at parts (tuple_of d p) ≡ true
box_damaged parts k part d window box c p stands apart h valid shown there in_ =
    let by = decided parts k part d window box p valid stands apart h in_ in
    damage_some parts (tuple_of d p) part by.0 ∙ damage_of part c (tuple_of d p) (number_of part.shape (moved window box p)) shown by.1
    ∙ is_listed c.damaged (number_of part.shape (moved window box p)) there
