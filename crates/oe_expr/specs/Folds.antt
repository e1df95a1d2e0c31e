-- Callbacks of one node that reduces the list of the scope cell by cell.
use Rattle.std.specs.Prelude.{Bool, true, false, Option, Some, None, option_and_then, if◌then◌else◌}
use Rattle.oe_fold.specs.declared.reducer.Reducer.{Reducer}
use Rattle.oe_fold.specs.declared.reducer.Reducer.TheVariants.{Median}
use Rattle.oe_graph.specs.Tree.{Nodes, no_nodes, node}
use Rattle.oe_expr.specs.Callback.{Callback}
use Rattle.oe_expr.specs.Requests.{CellRequest, reduction, the_data, cell_request_at}

abbrev pub is_median : Reducer → Bool
is_median Median = true
is_median _ = false

-- a reducer of the whole list that goes over it cell by cell, every one but the median, and whether it ignores nulls,
-- as `count` does
abbrev pub cell_by_cell : CellRequest → Option (Reducer × Bool)
cell_by_cell (reduction reducer ignore the_data) = if is_median reducer then None else Some (reducer, ignore)
cell_by_cell _ = None

-- of the node of a graph that has no other
abbrev pub single_reducer : Nodes → Option (Reducer × Bool)
single_reducer (node id process_id namespace arguments no_nodes) =
    option_and_then cell_by_cell
    (cell_request_at (record { id = id; process_id = process_id; namespace = namespace; arguments = arguments }))
single_reducer _ = None

abbrev pub callback_reducer : Callback → Option (Reducer × Bool)
callback_reducer c = single_reducer c.graph.nodes
