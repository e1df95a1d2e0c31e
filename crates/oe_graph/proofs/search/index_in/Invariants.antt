use Rattle.std.proofs.Common.{◌≡◌, ℕ, ◌<◌, false, [], get_or}
use Rattle.oe_dims.specs.Names.{same_name}
use Rattle.oe_graph.specs.Plain.{plain_nodes}
use Rattle.oe_graph.specs.Printed.{ids_of}
use Rattle.oe_graph.proofs.search.index_in.Given as goal

-- none of those before has the id
abbrev pub invariant-loop-index : goal.invariant-loop-index
invariant-loop-index l =
    (k : ℕ) → k < l.index → same_name (get_or (ids_of (plain_nodes l.nodes.items)) k []) l.id ≡ false
