-- What a run asks of the catalogue whose collections it reads.
use Rattle.std.specs.Prelude.{◌≡◌, ◌<◌, ◌≤◌, ℕ, List, length, map, min, slice_index, Some}
use Rattle.oe_cube.specs.Collections.{Collection}
use Rattle.oe_outside.specs.Faults.{NeverFalls, Rose, last_count}
use Rattle.oe_check.specs.Checked.{CheckedGraph, collection_of_node}
use Rattle.oe_meanings.specs.Graphs.{Collections, collection_named, datacube_of, outline_named}
use Rattle.oe_sources.specs.Catalogue.{Row, row_index, source_at}
use Rattle.oe_sources.specs.Source.{collection_of}
use Rattle.oe_plan.specs.Figures.{steps_of}

-- ---- what is mounted

-- the collection of an id is mounted at an index, with the shape and the kind that the graph was checked over
pub record IsMountedAt (c : CheckedGraph) (rows : List Row) (id : List ℕ) (index : ℕ) : Type 0 where
  pub index_is : row_index rows id ≡ Some index
  pub within : index < length rows
  pub shape_is : (source_at rows index).shape ≡ (outline_named c.rows id).shape
  pub kind_is : (source_at rows index).kind ≡ (outline_named c.rows id).kind

-- a step of the run loads the collection of an id
pub record IsLoadedBy (c : CheckedGraph) (step : ℕ) (id : List ℕ) : Type 0 where
  pub within : step < length (steps_of c)
  pub loads : collection_of_node c (slice_index (steps_of c) step) ≡ Some id

-- each collection that a step loads is mounted so
abbrev pub HasCollections : CheckedGraph → List Row → Type 0
HasCollections c rows =
    (step : ℕ) (id : List ℕ) → IsLoadedBy c step id → (index : ℕ) × IsMountedAt c rows id index

-- ---- what is visible

-- each collection that a step loads is visible, and is the one of its id among these
abbrev pub Shows : CheckedGraph → List Row → Collections → Type 0
Shows c rows collections =
    (step : ℕ) (id : List ℕ) (index : ℕ) → IsLoadedBy c step id → IsMountedAt c rows id index
    → (collection : Collection) × (collection_of (source_at rows index) ≡ Some collection)
    × (collection_named collections id ≡ datacube_of collection)

-- ---- what reading leaves

-- a row without its counters
abbrev pub without_counts : Row → Row
without_counts row = record row { source = record row.source { faults = 0; asked = 0 } }

-- of each row all is as it was but its two counters, neither of which falls; that of cells asked stays at 2^64 − 1
pub record AreRead (before after : List Row) : Type 0 where
  pub same : map without_counts after ≡ map without_counts before
  pub counts : (index : ℕ) → NeverFalls (source_at before index).faults (source_at after index).faults
  pub asked : (index : ℕ) → min (source_at before index).asked last_count ≤ (source_at after index).asked

-- each row at which no step of the run has its collection is as it was
abbrev pub KeepsOtherRows : CheckedGraph → List Row → List Row → Type 0
KeepsOtherRows c before after =
    (index : ℕ) → ((step : ℕ) (id : List ℕ) → IsLoadedBy c step id → ¬ IsMountedAt c before id index)
    → source_at after index ≡ source_at before index

-- the fault counter of a collection that a step loads rose
pub record LoadRose (c : CheckedGraph) (before after : List Row) : Type 0 where
  pub step : ℕ
  pub id : List ℕ
  pub index : ℕ
  pub loaded : IsLoadedBy c step id
  pub mounted : IsMountedAt c before id index
  pub rose : Rose (source_at before index).faults (source_at after index).faults
