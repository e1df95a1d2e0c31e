-- What holds of every translated graph.
use Rattle.std.specs.Prelude.{◌≡◌, ◌≤◌, ℕ, true, false, List, All, Contains}
use Rattle.oe_cell.specs.Cells.{IsCell}
use Rattle.oe_dims.specs.Dimensions.{IsShape}
use Rattle.oe_dims.specs.declared.dims.DimsRow.{DimsRow}
use Rattle.oe_graph.specs.Printed.{ids_of, node_count}
use Rattle.oe_graph.specs.Read.{IsFaultless}
use Rattle.oe_graph.specs.References.{references_named}
use Rattle.oe_graph.specs.Resolved.{IsResolved, most_nodes}
use Rattle.oe_graph.specs.Tree.{Nodes, PlainGraph, PlainNode, PlainStored}
use Rattle.oe_graph.specs.Valid.{AreValidStored, IsValidGraph}
use Rattle.oe_calls.specs.Calls.{Calls}
use Rattle.oe_calls.specs.Faults.{StandsWithStored}
use Rattle.oe_resolve.specs.Defaults.{resolved}
use Rattle.oe_check.specs.Checked.{CheckedGraph, AreFaultless}
use Rattle.oe_meanings.specs.Graphs.{Collections, meaning_at}
use Rattle.oe_check.specs.Laws.{AreCollectionsOf}
use Rattle.oe_meanings.specs.SoundNodes.{AreAcyclic}
use Rattle.oe_meanings.specs.Stands.{StandsInGraph}
use Rattle.oe_check.specs.Walked.{IsNodeOf}
use Rattle.oe_translate.specs.Translated.{is_of_sums, translated, translated_nodes}
use Rattle.oe_translate.specs.Written.{sum_name}

-- no node has the name that the aggregation of a node of running sums gets
pub record HasRoomForSums (nodes : Nodes) : Type 0 where
  pub each : (n : PlainNode) → IsNodeOf nodes n → is_of_sums n ≡ true → ¬ Contains (ids_of nodes) (sum_name n.id)

-- A graph that was read and whose calls were replaced is so: `/` comes into names by calls alone, and no node that is
-- left has the name of a call.
pub record LeavesRoom : Type 0 where
  pub each : (stored : List PlainStored) (g : PlainGraph) → AreValidStored stored → IsValidGraph g
      → HasRoomForSums (resolved stored g).nodes

-- the translated graph has no more nodes than an index tells apart, where each node of running sums becomes two
abbrev pub HasFewNodes : List DimsRow → Nodes → Type 0
HasFewNodes rows nodes = node_count (translated_nodes rows nodes) ≤ most_nodes false

-- A graph without a fault whose calls were replaced has as few, over any collections: it has 256 nodes at most.
pub record StaysSmall : Type 0 where
  pub each : (stored : List PlainStored) (g : PlainGraph) → AreValidStored stored
      → IsFaultless (StandsWithStored stored g)
      → ((n : PlainNode) (s : PlainStored) → IsNodeOf (resolved stored g).nodes n → ¬ Calls stored n s)
      → (rows : List DimsRow) → HasFewNodes rows (resolved stored g).nodes

-- what running sums work on are numbers in lowest terms and in range, as those of the program's cells always are.
pub record SumCells (collections : Collections) (nodes : Nodes) : Type 0 where
  pub each : (n : PlainNode) → IsNodeOf nodes n → is_of_sums n ≡ true → (id : List ℕ)
      → Contains (references_named n.arguments) id → All IsCell (meaning_at collections nodes id).cube.cells

-- No references lead from a node of a translated graph back to itself.
pub record StaysAcyclic : Type 0 where
  pub each : (c : CheckedGraph) → AreFaultless c → HasRoomForSums c.nodes → AreAcyclic (translated_nodes c.rows c.nodes)

-- Each node of a graph without a fault means in the translated graph what it means in the graph itself.
pub record KeepsMeanings : Type 0 where
  pub each : (c : CheckedGraph) → AreFaultless c → HasRoomForSums c.nodes
      → (collections : Collections) → AreCollectionsOf c collections → SumCells collections c.nodes
      → (n : PlainNode) → IsNodeOf c.nodes n
      → meaning_at collections (translated_nodes c.rows c.nodes) n.id ≡ meaning_at collections c.nodes n.id

-- each collection has a valid shape, as all that a program holds have
abbrev pub HaveValidShapes : List DimsRow → Type 0
HaveValidShapes rows = All (λ (row : DimsRow). IsShape row.shape) rows

-- The translation of a graph without a fault is resolved, and has none itself over the same collections.
pub record StaysFaultless : Type 0 where
  pub resolved : (c : CheckedGraph) → AreFaultless c → HasRoomForSums c.nodes → HasFewNodes c.rows c.nodes
      → IsResolved (translated c.rows (record { nodes = c.nodes; result = c.result }))
  pub faultless : (c : CheckedGraph) → AreFaultless c → HasRoomForSums c.nodes → HaveValidShapes c.rows
      → IsFaultless (StandsInGraph c.rows (translated_nodes c.rows c.nodes))
