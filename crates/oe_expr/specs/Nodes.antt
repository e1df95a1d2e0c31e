-- Recursion down the references of a callback's nodes.
use Rattle.std.specs.Prelude.{◌≡◌, ℕ, zero, suc, List, [], Option, Some, None, Contains, if◌then◌else◌}
use Rattle.std.specs.Option.{option_map_or}
use Rattle.oe_dims.specs.Names.{same_name}
use Rattle.oe_graph.specs.Printed.{node_count}
use Rattle.oe_graph.specs.References.{references_named}
use Rattle.oe_graph.specs.Tree.{Nodes, no_nodes, node, PlainNode, PlainGraph}

-- the node of a name
abbrev pub node_named : List ℕ → Nodes → Option PlainNode
node_named name no_nodes = None
node_named name (node id process_id namespace arguments rest) =
    if same_name id name
    then Some (record { id = id; process_id = process_id; namespace = namespace; arguments = arguments })
    else node_named name rest

-- the name of the node at an index
abbrev pub id_at : ℕ → Nodes → List ℕ
id_at index no_nodes = []
id_at zero (node id process_id namespace arguments rest) = id
id_at (suc index) (node id process_id namespace arguments rest) = id_at index rest

-- the name of the result node
abbrev pub result_id : PlainGraph → List ℕ
result_id g = id_at g.result g.nodes

-- What `step` makes of a node, given what it makes of the nodes that it refers to, as far down as the turns last.
abbrev pub within_turns : {A : Type 0} → ℕ → A → ((List ℕ → A) → PlainNode → A) → Nodes → List ℕ → A
within_turns zero other step nodes name = other
within_turns (suc turns) other step nodes name =
    option_map_or (step (within_turns turns other step nodes)) (node_named name nodes) other

-- The same to the end: no way down the references of a graph without a cycle is longer than its nodes are many.
unfoldable pub down_from : {A : Type 0} → A → ((List ℕ → A) → PlainNode → A) → Nodes → List ℕ → A
down_from other step nodes name = within_turns (node_count nodes) other step nodes name

-- the step of a node depends on no other nodes than those that it refers to
abbrev pub LooksDown : {A : Type 0} → ((List ℕ → A) → PlainNode → A) → Type 0
LooksDown {A} step =
    (n : PlainNode) (f g : List ℕ → A)
    → ((name : List ℕ) → Contains (references_named n.arguments) name → f name ≡ g name) → step f n ≡ step g n

-- the recursion unfolds at one node
abbrev pub UnfoldsAt : {A : Type 0} → A → ((List ℕ → A) → PlainNode → A) → Nodes → List ℕ → Type 0
UnfoldsAt other step nodes name =
    (n : PlainNode) → node_named name nodes ≡ Some n → down_from other step nodes name
    ≡ step (down_from other step nodes) n
