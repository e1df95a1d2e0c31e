-- The nodes of a graph object by their indices, and the references between them.
use Rattle.std.specs.Prelude.{◌≡◌, ◌<◌, ℕ, ◌&&◌, Bool, true, false, List, [], ◌∷◌, ◌++◌, map, Option, is_some, Contains}
use Rattle.std.specs.Option.{option_to_list}
use Rattle.oe_dims.specs.Indices.{index_where}
use Rattle.oe_dims.specs.Names.{same_name, names_rise}
use Rattle.oe_graph.specs.Plain.{plain_nodes}
use Rattle.oe_graph.specs.Printed.{ids_of, node_count}
use Rattle.oe_graph.specs.References.{each_node, references_named}
use Rattle.oe_graph.specs.Tree.{Nodes, PlainNode}
use Rattle.oe_graph.specs.declared.search.Beside.{Beside}
use Rattle.oe_graph.specs.declared.search.Guesses.{Guesses}
use Rattle.oe_order.specs.Graph as order
use Rattle.oe_order.specs.Sorted.{AreSorted}

-- the index of the node of an id, of several the first
abbrev pub index_named : Nodes → List ℕ → Option ℕ
index_named nodes id = index_where (λ (other : List ℕ). same_name other id) (ids_of nodes)

-- the indices of the nodes that these ids name, one by one; an id that no node has is left out
abbrev pub indices_named : Nodes → List (List ℕ) → List ℕ
indices_named nodes [] = []
indices_named nodes (id ∷ ids) = option_to_list (index_named nodes id) ++ indices_named nodes ids

-- each of these ids is that of a node
abbrev pub are_known : Nodes → List (List ℕ) → Bool
are_known nodes [] = true
are_known nodes (id ∷ ids) = is_some (index_named nodes id) && are_known nodes ids

-- a node with the nodes that it refers to, which is asked for nothing else
abbrev pub reference_node : Nodes → PlainNode → order.Node
reference_node nodes n = record { load = false; arguments = indices_named nodes (references_named n.arguments) }

-- the references between the nodes of a graph object, by index
abbrev pub reference_graph : Nodes → List order.Node
reference_graph nodes = map (reference_node nodes) (each_node nodes)

-- the indices of all nodes, each once and behind those of the nodes that it refers to
pub record AreNodesSorted (nodes : Nodes) (indices : List ℕ) : Type 0 where
  pub sorted : AreSorted (reference_graph nodes) indices
  pub all : (index : ℕ) → index < node_count nodes → Contains indices index

-- ---- for private functions

-- it is noted whether the ids of these nodes rise
abbrev pub AreGuessesOf : Nodes → Guesses → Type 0
AreGuessesOf nodes guesses = guesses.rising ≡ names_rise (ids_of nodes)

-- the guesses are those of the nodes that they stand beside
abbrev pub NotesRise : Beside → Type 0
NotesRise beside = AreGuessesOf (plain_nodes beside.nodes.now.items) beside.guesses.now
