-- Where a fault stands in the input of a command: in its form, or in the graph that it is.
use Rattle.std.specs.Prelude.{ℕ, List, []}
use Rattle.oe_dims.specs.declared.dims.DimsRow.{DimsRow}
use Rattle.oe_graph.specs.Form as form
use Rattle.oe_graph.specs.Read.{Reads}
use Rattle.oe_graph.specs.Tree.{PlainGraph}
use Rattle.oe_graph.specs.declared.code.Code.{Code}
use Rattle.oe_judge.specs.Judged.{StandsWithCollections}

-- A fault stands in the bytes of a graph over collections. No stored process is there to be called. What the graph
-- calls and names, its arguments and its cubes are looked at only where its form has no fault.
pub data StandsOver (rows : List DimsRow) (bytes : List ℕ) : Code → List ℕ → Type 0 where
  of_form : {code : Code} {name : List ℕ} → form.Stands bytes code name → StandsOver rows bytes code name
  of_graph : {g : PlainGraph} {code : Code} {name : List ℕ}
      → Reads bytes g → StandsWithCollections rows [] g code name → StandsOver rows bytes code name
