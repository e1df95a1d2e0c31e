-- The expanded graph. A round replaces each call of a stored process by the graph of that process, and leaves what that
-- graph calls to the next round. Calls are replaced outermost first: a callback in an argument of a call waits, and its
-- own calls are replaced where a node that is no call uses it. Nodes stand in byte order of their ids after each round.
-- Rounds go on until no call is left.
use Rattle.std.specs.Prelude.{ℕ, zero, suc, Bool, List, [], ◌∷◌, ◌++◌, map, Option, Some, None, is_some, option_and_then, find, if◌then◌else◌}
use Rattle.std.specs.List.{list_any}
use Rattle.oe_dims.specs.Names.{same_name, is_name_before}
use Rattle.oe_graph.specs.Printed.{ids_of}
use Rattle.oe_graph.specs.References.{each_node}
use Rattle.oe_graph.specs.Tree.{Argument, null, flag, whole, inexact, text, list, object, from_node, from_parameter, callback, ListValues, no_arguments, argument, Named, no_named, named, Nodes, no_nodes, node, PlainGraph, PlainNode, PlainStored}
use Rattle.oe_calls.specs.Calls.{callee}
use Rattle.oe_calls.specs.Renamed.{renamed_nodes}
use Rattle.oe_calls.specs.Substituted.{values_given, substituted_nodes}

-- ---- dangling references

-- an id, or the empty one where no node has it
abbrev pub cleared_id : List (List ℕ) → List ℕ → List ℕ
cleared_id ids id = if list_any (same_name id) ids then id else []

-- A reference that names no node of the graph object in which it was written dangles for good, also where a node of that
-- name comes into being: `c/n` in the call c. So all such have the empty id at first.
abbrev mutual
  pub cleared : List (List ℕ) → Argument → Argument
  cleared ids null = null
  cleared ids (flag b) = flag b
  cleared ids (whole z) = whole z
  cleared ids inexact = inexact
  cleared ids (text s) = text s
  cleared ids (list rest) = list (cleared_each ids rest)
  cleared ids (object ms) = object (cleared_named ids ms)
  cleared ids (from_node id) = from_node (cleared_id ids id)
  cleared ids (from_parameter name) = from_parameter name
  cleared ids (callback ns result) = callback (cleared_nodes (ids_of ns) ns) result

  pub cleared_each : List (List ℕ) → ListValues → ListValues
  cleared_each ids no_arguments = no_arguments
  cleared_each ids (argument a rest) = argument (cleared ids a) (cleared_each ids rest)

  pub cleared_named : List (List ℕ) → Named → Named
  cleared_named ids no_named = no_named
  cleared_named ids (named name a rest) = named name (cleared ids a) (cleared_named ids rest)

  pub cleared_nodes : List (List ℕ) → Nodes → Nodes
  cleared_nodes ids no_nodes = no_nodes
  cleared_nodes ids (node id process_id namespace arguments rest) =
      node id process_id namespace (cleared_named ids arguments) (cleared_nodes ids rest)

abbrev pub cleared_node : List (List ℕ) → PlainNode → PlainNode
cleared_node ids n = record n { arguments = cleared_named ids n.arguments }

abbrev pub cleared_graph : PlainGraph → PlainGraph
cleared_graph g = record { nodes = cleared_nodes (ids_of g.nodes) g.nodes; result = g.result }

abbrev pub cleared_stored : PlainStored → PlainStored
cleared_stored s = record { id = s.id; parameters = s.parameters; graph = cleared_graph s.graph; text = s.text }

-- ---- the graph of a call

-- the node n in the call c is c/n; what refers to no node still does
abbrev pub under_id : List ℕ → List ℕ → List ℕ
under_id call [] = []
under_id call (b ∷ id) = call ++ 47 ∷ b ∷ id

-- ---- one round

-- the index that a name has in byte order among others
abbrev pub index_among : List ℕ → List (List ℕ) → ℕ
index_among name [] = 0
index_among name (other ∷ names) = if is_name_before other name then suc (index_among name names) else 0

-- a node at the index that its id has in byte order among others, and each of some nodes
abbrev pub put_node : PlainNode → Nodes → Nodes
put_node n no_nodes = node n.id n.process_id n.namespace n.arguments no_nodes
put_node n (node id process_id namespace arguments rest) =
    if is_name_before id n.id then node id process_id namespace arguments (put_node n rest)
    else node n.id n.process_id n.namespace n.arguments (node id process_id namespace arguments rest)

abbrev pub put_nodes : Nodes → Nodes → Nodes
put_nodes no_nodes found = found
put_nodes (node id process_id namespace arguments rest) found =
    put_nodes rest (put_node
    (record { id = id; process_id = process_id; namespace = namespace; arguments = arguments }) found)

-- the id of the node at an index, and the index of the node of an id
abbrev pub id_at : Nodes → ℕ → List ℕ
id_at no_nodes index = []
id_at (node id process_id namespace arguments rest) zero = id
id_at (node id process_id namespace arguments rest) (suc index) = id_at rest index

abbrev pub index_of : List ℕ → Nodes → ℕ
index_of id no_nodes = 0
index_of id (node other process_id namespace arguments rest) = if same_name other id then 0 else suc (index_of id rest)

-- a reference to a call means the result node of its graph
abbrev pub landing : List ℕ → Option PlainStored → List ℕ
landing id None = id
landing id (Some s) = under_id id (id_at s.graph.nodes s.graph.result)

abbrev pub landed : List PlainStored → Nodes → List ℕ → List ℕ
landed stored all id =
    landing id (option_and_then (λ (n : PlainNode). callee stored n.namespace n.process_id)
    (find (λ (n : PlainNode). same_name n.id id) (each_node all)))

-- a node, or in place of a call the nodes of the process that it calls
abbrev pub opened : List PlainStored → PlainNode → Option PlainStored → Nodes
opened stored n None = node n.id n.process_id n.namespace n.arguments no_nodes
opened stored n (Some s) =
    substituted_nodes stored (values_given s.parameters n.arguments) (renamed_nodes (under_id n.id) s.graph.nodes)

-- a callback whose result is the node of an id
abbrev pub callback_with_result : List ℕ → Nodes → Argument
callback_with_result id ns = callback ns (index_of id ns)

-- The nodes of a graph object that has all of these, put beside those that stand already; and the arguments in it. In
-- those of a call callbacks wait.
abbrev mutual
  pub round_nodes : List PlainStored → Nodes → Nodes → Nodes → Nodes
  round_nodes stored all no_nodes found = found
  round_nodes stored all (node id process_id namespace arguments rest) found =
      round_nodes stored all rest (put_nodes
      (opened stored
      (record {
        id = id;
        process_id = process_id;
        namespace = namespace;
        arguments = round_named stored (is_some (callee stored namespace process_id)) all arguments;
      })
      (callee stored namespace process_id))
      found)

  pub round_named : List PlainStored → Bool → Nodes → Named → Named
  round_named stored waits all no_named = no_named
  round_named stored waits all (named name a rest) =
      named name (round_argument stored waits all a) (round_named stored waits all rest)

  pub round_argument : List PlainStored → Bool → Nodes → Argument → Argument
  round_argument stored waits all null = null
  round_argument stored waits all (flag b) = flag b
  round_argument stored waits all (whole z) = whole z
  round_argument stored waits all inexact = inexact
  round_argument stored waits all (text s) = text s
  round_argument stored waits all (list rest) = list (round_each stored waits all rest)
  round_argument stored waits all (object ms) = object (round_named stored waits all ms)
  round_argument stored waits all (from_node id) = from_node (landed stored all id)
  round_argument stored waits all (from_parameter name) = from_parameter name
  round_argument stored waits all (callback ns result) =
      if waits then callback ns result
      else callback_with_result (landed stored ns (id_at ns result)) (round_nodes stored ns ns no_nodes)

  pub round_each : List PlainStored → Bool → Nodes → ListValues → ListValues
  round_each stored waits all no_arguments = no_arguments
  round_each stored waits all (argument a rest) =
      argument (round_argument stored waits all a) (round_each stored waits all rest)

-- what stands in place of one node: itself, or where it calls a process the nodes of that; callbacks in the arguments
-- of a call wait
abbrev pub round_node : List PlainStored → Nodes → PlainNode → Option PlainStored → Nodes
round_node stored all n process =
    opened stored (record n { arguments = round_named stored (is_some process) all n.arguments }) process

abbrev pub graph_with_result : List ℕ → Nodes → PlainGraph
graph_with_result id ns = record { nodes = ns; result = index_of id ns }

abbrev pub round : List PlainStored → PlainGraph → PlainGraph
round stored g =
    graph_with_result (landed stored g.nodes (id_at g.nodes g.result)) (round_nodes stored g.nodes g.nodes no_nodes)

-- ---- all rounds

abbrev pub rounds : List PlainStored → ℕ → PlainGraph → PlainGraph
rounds stored zero g = g
rounds stored (suc times) g = round stored (rounds stored times g)

-- the graph after so many rounds
abbrev pub expanded_by : ℕ → List PlainStored → PlainGraph → PlainGraph
expanded_by times stored g = rounds (map cleared_stored stored) times (cleared_graph g)

-- The graph after all rounds. Once no call is left, a round more changes nothing; a graph that has calls after so many
-- rounds is not resolved.
unfoldable pub most_rounds : ℕ
most_rounds = 1048576

abbrev pub expanded : List PlainStored → PlainGraph → PlainGraph
expanded stored g = expanded_by most_rounds stored g
