-- What the layers above may rely on of runs and of the catalogues that they read.
use Rattle.std.specs.Prelude.{◌≡◌, ◌↔◌, ℕ, List, map, replicate, Option, None, IfSome, IsSome, option_and_then, unwrap_or}
use Rattle.std.specs.List.{All}
use Rattle.oe_cell.specs.declared.cell.Cell.{Cell}
use Rattle.oe_cell.specs.declared.cell.Cell.TheVariants.{Empty}
use Rattle.oe_cube.specs.Collections.{Collection, IsCollection}
use Rattle.oe_dims.specs.Cube.{Cube}
use Rattle.oe_dims.specs.Dimensions.{IsShape, cell_count}
use Rattle.oe_dims.specs.declared.dims.DimsRow.{DimsRow}
use Rattle.oe_plan.specs.Plans.{IsPlan, PlanOf}
use Rattle.oe_check.specs.Checked.{CheckedGraph}
use Rattle.oe_meanings.specs.Graphs.{Collections, NamedCollection}
use Rattle.oe_check.specs.Laws.{AreCollectionsOf, meaning_of_node}
use Rattle.oe_sources.specs.Catalogue.{Row, collections_shown, row_of, source_at}
use Rattle.oe_sources.specs.CatalogueDims.{AreDimsOf, dims_of}
use Rattle.oe_sources.specs.Source.{collection_of}
use Rattle.oe_spool.specs.Least.{least_over_of}
use Rattle.oe_steps.specs.Collections.{AreRead, HasCollections, IsLoadedBy, IsMountedAt, LoadRose, Shows}
use Rattle.oe_steps.specs.Refusals.{RefusalSays}
use Rattle.oe_engine.specs.Runs.{HasDone, HasRunRecords, RunOf, chunk_total, result_cube}
use Rattle.oe_steps.specs.declared.fail.RunFail.{RunFail}

-- ---- the collections of a catalogue

-- the collection of a shape and a kind all of whose cells are null
abbrev pub null_collection : DimsRow → Collection
null_collection row = record { shape = row.shape; cells = replicate (cell_count row.shape) Empty; kind = row.kind }

-- the collection of an id, where it is visible
abbrev pub collection_at : List Row → List ℕ → Option Collection
collection_at rows id = option_and_then (λ (row : Row). collection_of row.source) (row_of rows id)

-- the collection of a row under its id; nulls stand for one that is hidden
abbrev pub collection_named_by : List Row → DimsRow → NamedCollection
collection_named_by rows row = (row.id, unwrap_or (collection_at rows row.id) (null_collection row))

-- all collections of a catalogue, in byte order of their ids
abbrev pub collections_of : List Row → Collections
collections_of rows = map (collection_named_by rows) (dims_of rows)

-- all collections are visible
abbrev pub AreVisible : List Row → Type 0
AreVisible rows = All (λ (row : Row). IsSome row.source.contents) rows

-- each collection that a step loads is visible
abbrev pub LoadsVisible : CheckedGraph → List Row → Type 0
LoadsVisible c rows =
    (step : ℕ) (id : List ℕ) (index : ℕ) → IsLoadedBy c step id → IsMountedAt c rows id index
    → IsSome (source_at rows index).contents

-- the shape of a row is valid, and so is the collection of its id, where it is visible
pub record HasValid (rows : List Row) (row : DimsRow) : Type 0 where
  pub shape : IsShape row.shape
  pub collection : IfSome (collection_at rows row.id) IsCollection

-- The collections of a catalogue are collections of each graph that was checked over it, and where those that the graph
-- loads are visible they are shown.
pub record GivesCollections (rows : List Row) : Type 0 where
  pub valid : (c : CheckedGraph) → c.rows ≡ dims_of rows → AreCollectionsOf c (collections_of rows)
  pub shown : (c : CheckedGraph) → c.rows ≡ dims_of rows → LoadsVisible c rows → Shows c rows (collections_of rows)

-- A graph was checked over the collections of a catalogue with these rows: what it has of them is their ids, shapes and
-- kinds, under each id those that are mounted, and they are collections of each graph that was checked so.
pub record IsCheckedOver (rows : List Row) (c : CheckedGraph) : Type 0 where
  pub rows_are : c.rows ≡ dims_of rows
  pub found : AreDimsOf rows c.rows
  pub given : GivesCollections rows

-- ---- laws

-- A plan of a graph that was checked over a catalogue has its collections mounted there.
abbrev pub AreMounted : Type 0
AreMounted = (p : PlanOf) (rows : List Row) → IsPlan p → AreDimsOf rows p.graph.rows → HasCollections p.graph rows

-- Where all collections of a catalogue are visible, those that a graph loads are, and what it means over them is what
-- it means over the collections that the catalogue shows.
pub record AreShown : Type 0 where
  pub loads : (rows : List Row) → AreVisible rows → (c : CheckedGraph) → LoadsVisible c rows
  pub meaning : (rows : List Row) → AreVisible rows → AreDimsOf rows (dims_of rows) → (c : CheckedGraph) (node : ℕ)
      → meaning_of_node (collections_of rows) c node ≡ meaning_of_node (collections_shown rows) c node

-- Reading leaves what is mounted, what is visible and what the catalogue gives to graphs as it was. What is said of
-- reads one after the other is said of all of them together.
pub record StayAfterReads : Type 0 where
  pub none : (rows : List Row) → AreRead rows rows
  pub both : (first second third : List Row) → AreRead first second → AreRead second third → AreRead first third
  pub mounted : (c : CheckedGraph) (before after : List Row) → AreRead before after → HasCollections c before
      → HasCollections c after
  pub shows : (c : CheckedGraph) (before after : List Row) → AreRead before after → (collections : Collections)
      → Shows c after collections ↔ Shows c before collections
  pub shown : (before after : List Row) → AreRead before after → collections_shown after ≡ collections_shown before
  pub dims : (before after : List Row) → AreRead before after → dims_of after ≡ dims_of before
  pub given : (before after : List Row) → AreRead before after → GivesCollections before → GivesCollections after
  pub rose_first : (c : CheckedGraph) (first second third : List Row) → LoadRose c first second → AreRead second third
      → LoadRose c first third
  pub rose_later : (c : CheckedGraph) (first second third : List Row) → AreRead first second → LoadRose c second third
      → LoadRose c first third
  pub says : (c : CheckedGraph) (before after : List Row) → AreRead before after → (refusal : RunFail)
      → RefusalSays c after refusal → RefusalSays c before refusal

-- Of a run none of whose chunks is done, whatever a store holds is what it has done. Of one all of whose chunks are
-- done, the number that it has found is the least of a cell of the result that is Over, and it found none exactly where
-- no cell is.
pub record BeginAndEnd : Type 0 where
  pub begun : (r : RunOf) → r.done ≡ 0 → r.over ≡ None → (store : Option (List ℕ))
      → HasRunRecords r store × ((cube : Cube Cell) → HasDone r store cube)
  pub over : (r : RunOf) (store : Option (List ℕ)) (collections : Collections) → IsPlan r.plan
      → AreCollectionsOf r.plan.graph collections → r.done ≡ chunk_total r.plan
      → HasDone r store (result_cube collections r.plan)
      → r.over ≡ least_over_of (result_cube collections r.plan).cells
