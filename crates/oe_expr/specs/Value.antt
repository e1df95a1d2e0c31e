-- The value of a callback (openEO API, process graphs): at each node the operation on the values of its arguments.
use Rattle.std.specs.Prelude.{ℕ, List, map, Option, Some, None, slice_index_or}
use Rattle.std.specs.Option.{option_map_or}
use Rattle.oe_cell.specs.Operations.{choose_of}
use Rattle.oe_cell.specs.declared.cell.Cell.{Cell}
use Rattle.oe_cell.specs.declared.cell.Cell.TheVariants.{Empty}
use Rattle.oe_dims.specs.Plain.{PlainLabels}
use Rattle.oe_fold.specs.Value.{reduction_of}
use Rattle.oe_graph.specs.Tree.{Nodes, PlainGraph, PlainNode}
use Rattle.oe_expr.specs.Nodes.{down_from, result_id}
use Rattle.oe_expr.specs.Operations.{unary_of, binary_of}
use Rattle.oe_expr.specs.Requests.{Scalar, literal, of_node, of_x, of_y, of_context, Items, the_data, written, CellRequest, unary, binary, choice, reduction, element, cell_request_at}
use Rattle.oe_expr.specs.Scope.{Environment, Label, no_labels, label_index}

module _ (e : Environment) (at : List ℕ → Cell) where
  -- of a scalar, where `at` has the values of nodes
  abbrev pub scalar_value : Scalar → Cell
  scalar_value (literal c) = c
  scalar_value (of_node id) = at id
  scalar_value of_x = e.x
  scalar_value of_y = e.y
  scalar_value of_context = e.context

  -- of a list
  abbrev pub items_value : Items → List Cell
  items_value the_data = e.cells
  items_value (written scalars) = map scalar_value scalars

-- the labels of a list
abbrev pub items_labels : Environment → Items → PlainLabels
items_labels e the_data = e.labels
items_labels e (written scalars) = no_labels

-- the index of the element that is asked for, by its index or by its label
abbrev pub element_index : PlainLabels → Option ℕ → Option Label → Option ℕ
element_index labels (Some index) label = Some index
element_index labels None (Some label) = label_index labels label
element_index labels None None = None

-- the element at an index; one that is missing is null
abbrev pub element_of : List Cell → Option ℕ → Cell
element_of cells index = option_map_or (λ k. slice_index_or cells k Empty) index Empty

-- of what a node asks for
abbrev pub request_value : Environment → (List ℕ → Cell) → CellRequest → Cell
request_value e at (unary f x) = unary_of f (scalar_value e at x)
request_value e at (binary f x y) = binary_of f (scalar_value e at x) (scalar_value e at y)
request_value e at (choice value accept reject) =
    choose_of (scalar_value e at value) (scalar_value e at accept) (scalar_value e at reject)
request_value e at (reduction reducer ignore items) = reduction_of reducer ignore (items_value e at items)
request_value e at (element items index label return_nodata) =
    element_of (items_value e at items) (element_index (items_labels e items) index label)

-- of a node; one whose arguments are not what they may be has none
abbrev pub node_value : Environment → (List ℕ → Cell) → PlainNode → Cell
node_value e at n = option_map_or (request_value e at) (cell_request_at n) Empty

-- of the node of a name
abbrev pub node_value_at : Environment → Nodes → List ℕ → Cell
node_value_at e nodes name = down_from Empty (node_value e) nodes name

-- of the callback: that of its result node
abbrev pub graph_value : PlainGraph → Environment → Cell
graph_value g e = node_value_at e g.nodes (result_id g)
