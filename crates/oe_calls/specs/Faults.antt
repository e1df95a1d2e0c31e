-- Where each fault of the processes that a graph calls, of its size and of its names stands: one case for each row of
-- the table of faults.
use Rattle.std.specs.Prelude.{◌≡◌, ◌<◌, ℕ, Bool, false, List, [], ◌∷◌, length, map, Some, None, Contains}
use Rattle.oe_graph.specs.Form.{node_name, callback_name}
use Rattle.oe_graph.specs.Printed.{ids_of, names_of, node_count}
use Rattle.oe_graph.specs.References.{each_node, references_named, parameters_named, callbacks_in, callbacks_named, Leads}
use Rattle.oe_graph.specs.Resolved.{scope_inside}
use Rattle.oe_graph.specs.Tree.{Argument, Named, no_named, named, Nodes, PlainGraph, PlainNode, PlainParameter, PlainStored}
use Rattle.oe_graph.specs.declared.code.Code.{Code}
use Rattle.oe_graph.specs.declared.code.Code.TheVariants.{ProcessUnsupported, ProcessRecursive, GraphTooLarge, ArgumentUnknown, ProcessParameterMissing, ParameterUnknown, NodeUnknown, GraphCycle}
use Rattle.oe_calls.specs.Calls.{callee, may_stand, parameters_of, Brings, ReachesProcess, CallsReach}
use Rattle.oe_calls.specs.Rounds.{expanded_by, expanded}

-- most nodes of an expanded main graph, and of an expanded callback
abbrev pub most_main_nodes : ℕ
most_main_nodes = 256

abbrev pub most_callback_nodes : ℕ
most_callback_nodes = 64

-- the arguments of a node, one by one
abbrev pub each_argument : Named → List (List ℕ × Argument)
each_argument no_named = []
each_argument (named name a rest) = (name, a) ∷ each_argument rest

-- A graph object, by its name and scope, stands within one: it is that one itself, or stands within a callback in an
-- argument of a node of it that is no call; a callback in an argument of a call waits. The callback in the argument a of
-- the node p is p/a, and sees the parameters of the process of p and those that p sees.
pub data IsWithin (stored : List PlainStored) (name : List ℕ) (scope : List (List ℕ)) (nodes : Nodes)
    : List ℕ → List (List ℕ) → Nodes → Type 0 where
  itself : IsWithin stored name scope nodes name scope nodes
  inside :
      {at : List ℕ} {outer_scope : List (List ℕ)} {outer : Nodes} {n : PlainNode} {a : List ℕ × Argument}
      {g : PlainGraph}
      → Contains (each_node outer) n → callee stored n.namespace n.process_id ≡ None
      → Contains (each_argument n.arguments) a → Contains (callbacks_in a.1) g
      → IsWithin stored name scope nodes (callback_name (node_name at n.id) a.0) (scope_inside n outer_scope) g.nodes
      → IsWithin stored name scope nodes at outer_scope outer

-- a graph has this node, under this name: n in the main graph, whose nodes see no parameter, and p/a/n in a callback
pub record HasNode (stored : List PlainStored) (g : PlainGraph) (n : PlainNode) (name : List ℕ) : Type 0 where
  pub object : Nodes
  pub object_name : List ℕ
  pub scope : List (List ℕ)
  pub within : IsWithin stored object_name scope object [] [] g.nodes
  pub is_node : Contains (each_node object) n
  pub is_named : node_name object_name n.id ≡ name

-- the names of the parameters of a process
abbrev pub names_among : List PlainParameter → List (List ℕ)
names_among parameters = map (λ (p : PlainParameter). p.name) parameters

-- Calls are judged in the graph after so many rounds in which they stand. A call that stands there in a callback has
-- its name there, and that in the graph of the call c begins with c/. As many rounds as there are stored processes
-- replace all calls that do not stand in a callback, where no process reaches itself.
pub data StandsWithStored (stored : List PlainStored) (g : PlainGraph) : Code → List ℕ → Type 0 where
  -- a node, or one that its callbacks and calls bring, names no process that may stand where it does, or has a callback
  -- or calls a process in which one may not
  process_unsupported : {n m : PlainNode} {in_callback : Bool}
      → Contains (each_node g.nodes) n → Brings stored false n in_callback m → may_stand stored in_callback m ≡ false
      → StandsWithStored stored g ProcessUnsupported n.id
  -- the calls of a node reach a stored process that reaches itself
  process_recursive : {n : PlainNode} {s : PlainStored}
      → Contains (each_node g.nodes) n → CallsReach stored n s → ReachesProcess stored s s
      → StandsWithStored stored g ProcessRecursive n.id
  -- after expansion the main graph has more nodes than it may
  graph_too_large : most_main_nodes < node_count (expanded_by (length stored) stored g).nodes
      → StandsWithStored stored g GraphTooLarge []
  -- or a callback has, as it is written in the graph or in a process that calls reach
  callback_too_large : {n m : PlainNode} {in_callback : Bool} {written : PlainGraph}
      → Contains (each_node g.nodes) n → Brings stored false n in_callback m
      → Contains (callbacks_named m.arguments) written
      → most_callback_nodes < node_count (expanded_by (length stored) stored written).nodes
      → StandsWithStored stored g GraphTooLarge []
  -- the name of an argument is no parameter of the process
  argument_unknown : (times : ℕ) {n : PlainNode} {name argument : List ℕ} {parameters : List PlainParameter}
      → HasNode stored (expanded_by times stored g) n name
      → parameters_of stored n ≡ Some parameters
      → Contains (names_of n.arguments) argument → ¬ Contains (names_among parameters) argument
      → StandsWithStored stored g ArgumentUnknown name
  -- a parameter without a default that is not optional is not given
  process_parameter_missing : (times : ℕ) {n : PlainNode} {name : List ℕ} {parameters : List PlainParameter}
      {p : PlainParameter}
      → HasNode stored (expanded_by times stored g) n name
      → parameters_of stored n ≡ Some parameters
      → Contains parameters p → p.default ≡ None → p.optional ≡ false → ¬ Contains (names_of n.arguments) p.name
      → StandsWithStored stored g ProcessParameterMissing name
  -- after all replacement an argument still refers to a parameter that its scope lacks
  parameter_unknown : {n : PlainNode} {name parameter : List ℕ} (has : HasNode stored (expanded stored g) n name)
      → Contains (parameters_named n.arguments) parameter → ¬ Contains has.scope parameter
      → StandsWithStored stored g ParameterUnknown name
  -- a reference names no node of its graph object: it named none where it was written, or was carried into another one
  node_unknown : (times : ℕ) {n : PlainNode} {name id : List ℕ}
      → (has : HasNode stored (expanded_by times stored g) n name)
      → Contains (references_named n.arguments) id → ¬ Contains (ids_of has.object) id
      → StandsWithStored stored g NodeUnknown name
  -- references lead from a node of the expanded graph back to itself
  graph_cycle : {n : PlainNode} {name : List ℕ} (has : HasNode stored (expanded stored g) n name)
      → Leads has.object n.id n.id
      → StandsWithStored stored g GraphCycle name
