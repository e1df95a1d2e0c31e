-- A catalogue: the collections by their ids, in the order in which they were mounted.
use Rattle.std.specs.Prelude.{◌≡◌, ℕ, zero, suc, Bool, true, false, if◌then◌else◌, not, nat_le, List, [], ◌∷◌, length, map, codes, slice_get, sum_by, Option, Some, None, IfSome, is_some, Result}
use Rattle.std.specs.List.{filter, find}
use Rattle.std.specs.Option.{option_map, option_map_or}
use Rattle.oe_cell.specs.declared.cell.Cell.{Cell}
use Rattle.oe_cube.specs.Collections.{Collection}
use Rattle.oe_dims.specs.Indices.{index_where}
use Rattle.oe_dims.specs.Names.{is_name, same_name}
use Rattle.oe_dims.specs.declared.kind.CellKind.TheVariants.{Numbers}
use Rattle.oe_outside.specs.Faults.{NeverFalls}
use Rattle.oe_sources.specs.Generated.{generated_contents, generated_shape}
use Rattle.oe_sources.specs.Source.{CountsRead, Reads, Source, collection_of}
use Rattle.oe_sources.specs.declared.catalogue.Kept.{Kept}
use Rattle.oe_sources.specs.declared.catalogue.Kept.TheVariants.{Boxed, Generated}
use Rattle.oe_sources.specs.declared.catalogue.Mounted.{Mounted}
use Rattle.oe_sources.specs.declared.source.ReadFault.{ReadFault}
use Rattle.oe_sources.specs.declared.source.SourceFail.{SourceFail}
use Rattle.oe_window.specs.declared.window.Window.{Window}

-- ---- rows

-- a collection under its id. A box that a caller made has the seal of its catalogue; a generated cube, which no caller
-- can take out, has none.
pub record Row : Type 0 where
  pub id : List ℕ
  pub source : Source
  pub seal : Option ℕ

-- the most rows of a catalogue
abbrev pub most_collections : ℕ
most_collections = 64

-- the row of an id, and its index
abbrev pub row_of : List Row → List ℕ → Option Row
row_of rows id = find (λ row. same_name row.id id) rows

abbrev pub row_index : List Row → List ℕ → Option ℕ
row_index rows id = index_where (λ row. same_name row.id id) rows

-- a collection is mounted under the id, and one that is a box
abbrev pub is_mounted : List Row → List ℕ → Bool
is_mounted rows id = option_map_or (λ row. true) (row_of rows id) false

abbrev pub has_box : List Row → List ℕ → Bool
has_box rows id = option_map_or (λ row. is_some row.seal) (row_of rows id) false

-- a box of a source under an id, in a catalogue of a seal
abbrev pub box_row : ℕ → List ℕ → Source → Row
box_row seal id source = record { id = id; source = source; seal = Some seal }

-- a row, where it is a box under this seal, and all rows so
abbrev pub row_sealed : ℕ → Row → Row
row_sealed seal row = record row { seal = option_map (λ old. seal) row.seal }

abbrev pub rows_sealed : ℕ → List Row → List Row
rows_sealed seal rows = map (row_sealed seal) rows

-- ---- mounting, detaching and replacing

-- why a collection is refused under an id
pub data MountRefusal : Type 0 where
  id_invalid : MountRefusal
  id_taken : MountRefusal
  is_full : MountRefusal

-- the first reason that stands, in this order; none where there is no reason
abbrev pub mount_refusal : List Row → List ℕ → Option MountRefusal
mount_refusal rows id =
    if not (is_name id) then Some id_invalid
    else (if is_mounted rows id then Some id_taken
    else (if nat_le most_collections (length rows) then Some is_full
    else None))

-- all rows but that of an id, in their order
abbrev pub rows_without : List Row → List ℕ → List Row
rows_without rows id = filter (λ row. not (same_name row.id id)) rows

-- a row with another source where it is of an id, and all rows so
abbrev pub row_replaced : List ℕ → Source → Row → Row
row_replaced id source row = if same_name row.id id then record row { source = source } else row

abbrev pub rows_replaced : List Row → List ℕ → Source → List Row
rows_replaced rows id source = map (row_replaced id source) rows

-- ---- reading

-- stands for what is not mounted
abbrev pub no_source : Source
no_source = record {
  shape = record { epsg = 0; t = None; bands = None; y = None; x = None };
  kind = Numbers;
  contents = None;
  faults = 0;
  asked = 0;
}

-- the source of the row of an index
abbrev pub source_at : List Row → ℕ → Source
source_at [] index = no_source
source_at (row ∷ rows) zero = row.source
source_at (row ∷ rows) (suc index) = source_at rows index

-- the rows with another source in the row of an index
abbrev pub rows_at : List Row → ℕ → Source → List Row
rows_at [] index source = []
rows_at (row ∷ rows) zero source = record { id = row.id; source = source; seal = row.seal } ∷ rows
rows_at (row ∷ rows) (suc index) source = row ∷ rows_at rows index source

-- a read of a window of the source of one row: all else in the catalogue stays
pub record ReadsRow (before : List Row) (index : ℕ) (window : Window) (cells : List Cell) (after : List Row)
    (result : Result (Unit {0}) SourceFail) : Type 0 where
  pub read : Reads (source_at before index) window cells (source_at after index) result
  pub others : after ≡ rows_at before index (source_at after index)

-- the same was counted of the source of one row: all else in the catalogue stays
pub record CountsRow (before : List Row) (index cells : ℕ) (failed : Bool) (after : List Row) : Type 0 where
  pub count : CountsRead (source_at before index) cells failed (source_at after index)
  pub others : after ≡ rows_at before index (source_at after index)

-- A look at the row of an index met this fault: it knows the index, and has the seal of the box that stands there. So
-- no box was taken out of the catalogue since.
pub record IsFaultAt (rows : List Row) (index : ℕ) (fault : ReadFault) : Type 0 where
  pub place : fault.place ≡ index
  pub seal : IfSome (slice_get rows index) (λ (row : Row). row.seal ≡ Some fault.seal)

-- some reads of one row, or none: beside its two counters all in the catalogue stays
pub record OnlyReads (before : List Row) (index : ℕ) (after : List Row) : Type 0 where
  pub shape : (source_at after index).shape ≡ (source_at before index).shape
  pub kind : (source_at after index).kind ≡ (source_at before index).kind
  pub contents : (source_at after index).contents ≡ (source_at before index).contents
  pub count : NeverFalls (source_at before index).faults (source_at after index).faults
  pub others : after ≡ rows_at before index (source_at after index)

-- ---- what a run speaks of

-- the number of cells asked of a catalogue: the sum over its rows
abbrev pub cells_asked : List Row → ℕ
cells_asked rows = sum_by (λ row. row.source.asked) rows

-- the collections that a catalogue shows, by their ids: those whose cells are visible
abbrev pub collections_shown : List Row → List (List ℕ × Collection)
collections_shown [] = []
collections_shown (row ∷ rows) =
    let rest = collections_shown rows in
    option_map_or (λ (c : Collection). (row.id, c) ∷ rest) (collection_of row.source) rest

-- ---- the demonstration

-- the generated cube of a seed and a side, of which nothing has been read
abbrev pub generated_source : ℕ → ℕ → Source
generated_source seed side = record {
  shape = generated_shape side;
  kind = Numbers;
  contents = Some (generated_contents seed side);
  faults = 0;
  asked = 0;
}

-- the catalogue of it alone
abbrev pub demonstration : ℕ → ℕ → List Row
demonstration seed side = record { id = codes "demo"; source = generated_source seed side; seal = None } ∷ []

-- ---- what the code keeps

-- the source that a row keeps, given what contracts see of a box
abbrev pub kept_source : {B : Type 0} → (B → Source) → Kept B → Source
kept_source seen (Boxed cube) = seen cube
kept_source seen (Generated cube) = cube

abbrev pub is_boxed : {B : Type 0} → Kept B → Bool
is_boxed (Boxed cube) = true
is_boxed (Generated cube) = false

-- what contracts see of a row, and of all, in a catalogue of a seal
abbrev pub row_shown : {B : Type 0} → (B → Source) → ℕ → Mounted B → Row
row_shown seen seal m =
    record { id = m.id; source = kept_source seen m.cube; seal = if is_boxed m.cube then Some seal else None }

abbrev pub rows_shown : {B : Type 0} → (B → Source) → ℕ → List (Mounted B) → List Row
rows_shown seen seal mounted = map (row_shown seen seal) mounted

-- the ids
abbrev pub mounted_ids : {B : Type 0} → List (Mounted B) → List (List ℕ)
mounted_ids mounted = map (λ m. m.id) mounted

-- the index of the row of an id
abbrev pub mounted_index : {B : Type 0} → List (Mounted B) → List ℕ → Option ℕ
mounted_index mounted id = index_where (λ m. same_name m.id id) mounted
