-- The kind of each node of a callback: numbers, flags or open.
use Rattle.std.specs.Prelude.{ℕ, List, [], ◌∷◌, map, Option, Some, None, option_and_then}
use Rattle.oe_cell.specs.declared.cell.Cell.{Cell}
use Rattle.oe_dims.specs.declared.kind.CellKind.{CellKind}
use Rattle.oe_graph.specs.Tree.{Nodes, PlainGraph, PlainNode}
use Rattle.oe_expr.specs.Kinds.{literal_kind, kind_among}
use Rattle.oe_expr.specs.Nodes.{down_from, result_id}
use Rattle.oe_expr.specs.Operations.{unary_gives, binary_gives, reducer_gives}
use Rattle.oe_expr.specs.Requests.{Scalar, literal, of_node, of_x, of_y, of_context, Items, the_data, written, CellRequest, unary, binary, choice, reduction, element, cell_request_at}
use Rattle.oe_expr.specs.Scope.{PlainScope, apply, reduce, merge}

-- of `x`, of `y` and of the cells of `data`, where the scope has them
abbrev pub x_kind : PlainScope → Option CellKind
x_kind (apply kind) = Some kind
x_kind (reduce kind labels lists) = None
x_kind (merge kind) = Some kind

abbrev pub y_kind : PlainScope → Option CellKind
y_kind (apply kind) = None
y_kind (reduce kind labels lists) = None
y_kind (merge kind) = Some kind

abbrev pub data_kind : PlainScope → Option CellKind
data_kind (apply kind) = None
data_kind (reduce kind labels lists) = Some kind
data_kind (merge kind) = None

module _ (scope : PlainScope) (context : Cell) (at : List ℕ → Option CellKind) where
  -- of a scalar, where `at` has the kinds of nodes
  abbrev pub scalar_kind : Scalar → Option CellKind
  scalar_kind (literal c) = literal_kind c
  scalar_kind (of_node id) = at id
  scalar_kind of_x = x_kind scope
  scalar_kind of_y = y_kind scope
  scalar_kind of_context = literal_kind context

  -- of the elements of a list
  abbrev pub items_kinds : Items → List (Option CellKind)
  items_kinds the_data = data_kind scope ∷ []
  items_kinds (written scalars) = map scalar_kind scalars

  -- of what a node asks for: that which the operation gives, or that of the cells among which it chooses
  abbrev pub request_kind : CellRequest → Option CellKind
  request_kind (unary f x) = Some (unary_gives f)
  request_kind (binary f x y) = Some (binary_gives f)
  request_kind (choice value accept reject) = kind_among (scalar_kind accept ∷ scalar_kind reject ∷ [])
  request_kind (reduction reducer ignore items) = kind_among (reducer_gives reducer ∷ items_kinds items)
  request_kind (element items index label return_nodata) = kind_among (items_kinds items)

-- of a node
abbrev pub node_kind : PlainScope → Cell → (List ℕ → Option CellKind) → PlainNode → Option CellKind
node_kind scope context at n = option_and_then (request_kind scope context at) (cell_request_at n)

-- of the node of a name
abbrev pub kind_at : PlainScope → Cell → Nodes → List ℕ → Option CellKind
kind_at scope context nodes name = down_from None (node_kind scope context) nodes name

-- of the callback: that of its result node
abbrev pub graph_kind : PlainScope → Cell → PlainGraph → Option CellKind
graph_kind scope context g = kind_at scope context g.nodes (result_id g)
