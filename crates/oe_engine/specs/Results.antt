-- What a graph means over the collections of a catalogue.
use Rattle.std.specs.Prelude.{◌≡◌, ⊤, ℕ, List, Option, Some, None}
use Rattle.oe_cell.specs.declared.cell.Cell.{Cell}
use Rattle.oe_dims.specs.Cube.{Cube}
use Rattle.oe_check.specs.Checked.{CheckedGraph}
use Rattle.oe_check.specs.Laws.{meaning_of_node}
use Rattle.oe_sources.specs.Catalogue.{Row}
use Rattle.oe_spool.specs.Least.{least_over_of}
use Rattle.oe_engine.specs.Laws.{LoadsVisible, collections_of}

-- the cube of its result over the collections of the catalogue, in which neither chunks nor workers occur
abbrev pub result_of : List Row → CheckedGraph → Cube Cell
result_of rows c = (meaning_of_node (collections_of rows) c c.result).cube

-- something holds of this cube, where the collections that the graph loads are visible
abbrev pub OfMeaning : List Row → CheckedGraph → (Cube Cell → Type 0) → Type 0
OfMeaning rows c Holds = LoadsVisible c rows → Holds (result_of rows c)

-- no cell is Over
abbrev pub IsWithoutOver : Cube Cell → Type 0
IsWithoutOver cube = least_over_of cube.cells ≡ None

-- this is the least row-major number of a cell that is Over
abbrev pub IsOverFirst : ℕ → Cube Cell → Type 0
IsOverFirst number cube = least_over_of cube.cells ≡ Some number

-- bytes are visible
abbrev pub IsVisible : Option (List ℕ) → Type 0
IsVisible None = ⊥
IsVisible (Some bytes) = ⊤
