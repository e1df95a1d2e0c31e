-- A mosaic: one collection of several, in order of priority.
use Rattle.std.specs.Prelude.{ℕ, ℤ, ◌==◌, Bool, false, min, List, [], ◌∷◌, map, filter, sum_by, slice_get, Option, Some, None, is_some, if◌then◌else◌}
use Rattle.std.specs.List.{find, list_all, list_any, range_with_len}
use Rattle.std.specs.Option.{option_map_or}
use Rattle.oe_cell.specs.declared.cell.Cell.{Cell}
use Rattle.oe_cell.specs.declared.cell.Cell.TheVariants.{Empty}
use Rattle.oe_dims.specs.Cube.{Tuple, cell_or, row_major, tabulate, tuples}
use Rattle.oe_dims.specs.Dimensions.{Dimensions, cell_count, numbers_along}
use Rattle.oe_dims.specs.declared.kind.CellKind.{CellKind}
use Rattle.oe_dims.specs.declared.kind.CellKind.TheVariants.{Numbers}
use Rattle.oe_dims.specs.declared.kind.Kind.{Kind}
use Rattle.oe_dims.specs.declared.kind.Kind.TheVariants.{Time, Y, X}
use Rattle.oe_mosaic.specs.Labels.{bands_with, labels_with}
use Rattle.oe_outside.specs.Faults.{last_count}
use Rattle.oe_sources.specs.Source.{Contents, Source}

-- what a mosaic takes from one of its parts: the shape, the kind of the cells, and the contents where they are visible
pub record Part : Type 0 where
  pub shape : Dimensions
  pub kind : CellKind
  pub contents : Option Contents

abbrev pub part_of : Source → Part
part_of s = record { shape = s.shape; kind = s.kind; contents = s.contents }

-- ---- shape and kind

-- the reference system of the first part
abbrev pub first_epsg : List Part → ℕ
first_epsg [] = 0
first_epsg (part ∷ parts) = part.shape.epsg

abbrev pub first_kind : List Part → CellKind
first_kind [] = Numbers
first_kind (part ∷ parts) = part.kind

-- all labels of the parts along t, y or x, in their order and each once
abbrev pub labels_of_parts : Kind → List Part → Option (List ℤ)
labels_of_parts kind parts = labels_with kind None (map (λ part. numbers_along kind part.shape) parts)

-- the bands of the first part, and then the new ones of each later part
abbrev pub bands_of_parts : List Part → Option (List (List ℕ))
bands_of_parts parts = bands_with None (map (λ part. part.shape.bands) parts)

abbrev pub mosaic_shape : List Part → Dimensions
mosaic_shape parts = record {
  epsg = first_epsg parts;
  t = labels_of_parts Time parts;
  bands = bands_of_parts parts;
  y = labels_of_parts Y parts;
  x = labels_of_parts X parts;
}

-- ---- cells and damage

-- the part has the label tuple
abbrev pub has_tuple : Tuple → Part → Bool
has_tuple tuple part = is_some (row_major part.shape tuple)

-- the first part that has the tuple, whatever its cell there is
abbrev pub deciding_part : List Part → Tuple → Option Part
deciding_part parts tuple = find (has_tuple tuple) parts

-- the cell of a tuple in a part
abbrev pub cell_in : Tuple → Part → Cell
cell_in tuple part =
    option_map_or (λ (c : Contents). cell_or (record { shape = part.shape; cells = c.cells }) Empty tuple)
    part.contents Empty

-- the position of the tuple is damaged in a part
abbrev pub is_damaged_in : Tuple → Part → Bool
is_damaged_in tuple part =
    option_map_or (λ (c : Contents). option_map_or (λ number. list_any (λ other. other == number) c.damaged)
    (row_major part.shape tuple) false) part.contents false

-- the cell of a tuple is that of the first part that has the tuple, null or not, and null where no part has it
abbrev pub mosaic_cell : List Part → Tuple → Cell
mosaic_cell parts tuple = option_map_or (cell_in tuple) (deciding_part parts tuple) Empty

-- a position is damaged where that of its tuple is damaged in that part
abbrev pub is_damaged_at : List Part → Tuple → Bool
is_damaged_at parts tuple = option_map_or (is_damaged_in tuple) (deciding_part parts tuple) false

-- the row-major numbers of the tuples that pass a test, rising
abbrev pub numbers_where : (Tuple → Bool) → Dimensions → List ℕ
numbers_where test d =
    filter (λ number. option_map_or test (slice_get (tuples d) number) false) (range_with_len 0 (cell_count d))

abbrev pub contents_of_parts : List Part → Contents
contents_of_parts parts = record {
  cells = (tabulate (mosaic_shape parts) (mosaic_cell parts)).cells;
  damaged = numbers_where (is_damaged_at parts) (mosaic_shape parts);
}

-- the contents of a mosaic, visible where those of all parts are
abbrev pub are_visible : List Part → Bool
are_visible parts = list_all (λ part. is_some part.contents) parts

abbrev pub mosaic_contents : List Part → Option Contents
mosaic_contents parts = if are_visible parts then Some (contents_of_parts parts) else None

-- ---- the source of a mosaic; `seen` is what contracts see of a part

abbrev pub parts_of : {S : Type 0} → (S → Source) → List S → List Part
parts_of seen items = map (λ s. part_of (seen s)) items

-- the fault counters of the parts
abbrev pub fault_counts : {S : Type 0} → (S → Source) → List S → List ℕ
fault_counts seen items = map (λ s. (seen s).faults) items

-- the fault counter of the mosaic: the sum of those of the parts, which stays at its last value
abbrev pub fault_count : {S : Type 0} → (S → Source) → List S → ℕ
fault_count seen items = min (sum_by (λ s. (seen s).faults) items) last_count

-- the mosaic of these parts, of which so many cells were asked
abbrev pub mosaic_source : {S : Type 0} → (S → Source) → List S → ℕ → Source
mosaic_source seen items asked = record {
  shape = mosaic_shape (parts_of seen items);
  kind = first_kind (parts_of seen items);
  contents = mosaic_contents (parts_of seen items);
  faults = fault_count seen items;
  asked = asked;
}
