-- Where faults stand among the nodes of a callback.
use Rattle.std.specs.Prelude.{◌≡◌, ℕ, List, Option, Some, None, Contains}
use Rattle.oe_cell.specs.declared.cell.Cell.{Cell}
use Rattle.oe_graph.specs.Form as form
use Rattle.oe_graph.specs.References.{references_named}
use Rattle.oe_graph.specs.Tree.{Nodes, PlainNode}
use Rattle.oe_graph.specs.declared.code.Code.{Code}
use Rattle.oe_expr.specs.NodeKinds.{kind_at}
use Rattle.oe_expr.specs.Nodes.{node_named}
use Rattle.oe_expr.specs.Rows.{node_fault}
use Rattle.oe_expr.specs.Scope.{PlainScope}

module _ (scope : PlainScope) (context : Cell) (nodes : Nodes) where
  -- the first row that holds at a node, whatever is below it
  abbrev pub own_fault : PlainNode → Option Code
  own_fault n = node_fault scope context (kind_at scope context nodes) n

  -- no fault at the node of a name or below it: not at those that it refers to, nor at itself
  pub data IsSound : List ℕ → Type 0 where
    sound :
        {name : List ℕ} {n : PlainNode}
        → node_named name nodes ≡ Some n
        → ((other : List ℕ) → Contains (references_named n.arguments) other → IsSound other)
        → own_fault n ≡ None
        → IsSound name

  -- A fault stands at the node of a name: the nodes that it refers to have none at or below them, and of the rows that
  -- hold at it this is the first.
  pub record StandsAt (name : List ℕ) (code : Code) : Type 0 where
    pub node : PlainNode
    pub is_node : node_named name nodes ≡ Some node
    pub below : (other : List ℕ) → Contains (references_named node.arguments) other → IsSound other
    pub first : own_fault node ≡ Some code

  -- A fault stands in the callback of a path: its node `n` has the name `path/n`.
  pub record StandsOnPath (path : List ℕ) (code : Code) (name : List ℕ) : Type 0 where
    pub id : List ℕ
    pub at : StandsAt id code
    pub is_named : name ≡ form.node_name path id
