-- The graph of the demonstration, and what is said of its result.
use Rattle.std.specs.Prelude.{◌≡◌, ◌≢◌, ◌<◌, ◌≤◌, ℕ, ◌++◌, ◌-◌, List, length, codes, decimal, slice_index_or, Option}
use Rattle.oe_cell.specs.Cells.{IsCell}
use Rattle.oe_cell.specs.Spelling.{cell_text}
use Rattle.oe_cell.specs.declared.cell.Cell.{Cell}
use Rattle.oe_cell.specs.declared.cell.Cell.TheVariants.{Empty, Over}
use Rattle.oe_dims.specs.Cube.{Cube}
use Rattle.oe_spool.specs.Spooled.{HoldsRecord}

-- the collection `demo` whole, then a kernel of 3 × 3 ones whose border repeats the nearest pixel, then the greatest
-- cell of the bands
abbrev pub demo_graph : List ℕ
demo_graph =
    codes "{\"process_graph\":{\"load\":{\"process_id\":\"load_collection\",\"arguments\":{\"id\":\"demo\",\"spatial_extent\":null,\"temporal_extent\":null}},"
    ++ codes "\"sum\":{\"process_id\":\"apply_kernel\",\"arguments\":{\"data\":{\"from_node\":\"load\"},\"kernel\":[[1,1,1],[1,1,1],[1,1,1]],\"border\":\"replicate\"}},"
    ++ codes "\"top\":{\"process_id\":\"reduce_dimension\",\"arguments\":{\"data\":{\"from_node\":\"sum\"},\"dimension\":\"bands\",\"reducer\":{\"process_graph\":"
    ++ codes "{\"max\":{\"process_id\":\"max\",\"arguments\":{\"data\":{\"from_parameter\":\"data\"}},\"result\":true}}}},\"result\":true}}}"

-- so many cells, and the first and the last of them
abbrev pub figures_text : ℕ → Cell → Cell → List ℕ
figures_text count first last =
    codes "cells " ++ decimal count ++ codes " first " ++ cell_text first ++ codes " last " ++ cell_text last ++ codes
    "\n"

-- how many cells a cube has, and its first and its last cell; null where it has none
abbrev pub demo_text : Cube Cell → List ℕ
demo_text cube =
    let count = length cube.cells in
    figures_text count (slice_index_or cube.cells 0 Empty) (slice_index_or cube.cells (count - 1) Empty)

-- the cell of a number among so many whose records a spool has from its first byte on, a valid one that is not Over;
-- null where there are not so many
pub record IsSpooled (store : Option (List ℕ)) (count number : ℕ) (cell : Cell) : Type 0 where
  pub valid : IsCell cell
  pub numbered : cell ≢ Over
  pub held : number < count → HoldsRecord store 0 number cell
  pub missing : count ≤ number → cell ≡ Empty

-- there is such a cell
abbrev pub HasSpooled : Option (List ℕ) → ℕ → ℕ → Type 0
HasSpooled store count number = (cell : Cell) × IsSpooled store count number cell
