-- In which order nodes come to be worked off that are ready: by their names, where a node of running sums has the name of
-- its sums.
use Rattle.std.specs.Prelude.{ℕ, zero, suc, Bool, true, false, List, [], ◌++◌, count_by, codes, if◌then◌else◌}
use Rattle.std.specs.List.{insert}
use Rattle.std.specs.Option.{option_map_or}
use Rattle.oe_dims.specs.Names.{is_name_before}
use Rattle.oe_expr.specs.Nodes.{id_at}
use Rattle.oe_graph.specs.Printed.{node_count}
use Rattle.oe_check.specs.Checked.{CheckedGraph, operation_of_node}
use Rattle.oe_requests.specs.Operations.{Operation, accumulate}

-- whether an operation takes running sums
abbrev pub is_accumulate : Operation → Bool
is_accumulate (accumulate ignore) = true
is_accumulate _ = false

-- whether a node does
abbrev pub takes_sums : CheckedGraph → ℕ → Bool
takes_sums c node = option_map_or is_accumulate (operation_of_node c node) false

-- the id of a node, with `/sum` behind it where the node takes running sums
abbrev pub turn_name : CheckedGraph → ℕ → List ℕ
turn_name c node = if takes_sums c node then id_at node c.nodes ++ codes "/sum" else id_at node c.nodes

-- the first so many nodes in the byte order of their names: one after the other is put behind those whose names come
-- before its own
unfoldable pub in_order_of : (ℕ → List ℕ) → ℕ → List ℕ
in_order_of name zero = []
in_order_of name (suc node) =
    let others = in_order_of name node in
    insert others (count_by (λ other. is_name_before (name other) (name node)) others) node

-- all nodes
unfoldable pub turns_of : CheckedGraph → List ℕ
turns_of c = in_order_of (turn_name c) (node_count c.nodes)
