-- That a fault stands only where none stands at or below the nodes that its node refers to.
use Rattle.std.proofs.Common.{◌≡◌, ℕ, List, Some, sym, subst, ◌∙◌}
use Rattle.oe_dims.specs.declared.dims.DimsRow.{DimsRow}
use Rattle.oe_graph.specs.Tree.{Nodes, PlainNode}
use Rattle.oe_graph.specs.declared.code.Code.{Code}
use Rattle.oe_expr.specs.Nodes.{node_named}
use Rattle.oe_meanings.specs.Graphs.{outline_at}
use Rattle.oe_meanings.specs.Stands.{StandsHere, StandsAt, IsSound, sound, HasNoneAtOrBelow}

pub none_at_or_below : (rows : List DimsRow) (nodes : Nodes) → HasNoneAtOrBelow rows nodes
none_at_or_below rows nodes id (sound {n = n} is below none) code name s =
    let same : s.node ≡ n = let one = s.is_node in cc in
    none code name (subst (λ (x : PlainNode). StandsHere rows (outline_at rows nodes) x code name) same s.here)
