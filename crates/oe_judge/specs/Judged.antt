-- Where a fault stands in a graph whose form is valid: in what it calls and names, or in its arguments and cubes.
use Rattle.std.specs.Prelude.{ℕ, List}
use Rattle.oe_dims.specs.declared.dims.DimsRow.{DimsRow}
use Rattle.oe_graph.specs.Read.{IsFaultless}
use Rattle.oe_graph.specs.Tree.{PlainGraph, PlainStored}
use Rattle.oe_graph.specs.declared.code.Code.{Code}
use Rattle.oe_calls.specs.Faults as names
use Rattle.oe_resolve.specs.Defaults.{resolved}
use Rattle.oe_check.specs.Checked.{CheckedGraph}
use Rattle.oe_meanings.specs.Stands as cubes

-- A fault stands in a graph that may call these stored processes, over collections of these rows. Faults of arguments
-- and cubes are looked for only where none stands in what the graph calls and names, in the graph with all calls replaced
-- and with all defaults.
pub data StandsWithCollections (rows : List DimsRow) (stored : List PlainStored) (g : PlainGraph)
    : Code → List ℕ → Type 0 where
  of_names : {code : Code} {name : List ℕ}
      → names.StandsWithStored stored g code name → StandsWithCollections rows stored g code name
  of_cubes : {code : Code} {name : List ℕ} → IsFaultless (names.StandsWithStored stored g)
      → cubes.StandsInGraph rows (resolved stored g).nodes code name → StandsWithCollections rows stored g code name

-- the graph with all calls replaced and with all defaults, over collections of these rows
abbrev pub checked_over : List DimsRow → List PlainStored → PlainGraph → CheckedGraph
checked_over rows stored g = record {
  nodes = (resolved stored g).nodes;
  result = (resolved stored g).result;
  rows = rows;
}

-- the graph with the node of this index as its result
abbrev pub having_result : ℕ → PlainGraph → PlainGraph
having_result node g = record { nodes = g.nodes; result = node }
