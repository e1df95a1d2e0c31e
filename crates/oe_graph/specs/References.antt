-- What the arguments of a node refer to, and where references lead (openEO API, process graphs).
use Rattle.std.specs.Prelude.{◌≡◌, ℕ, suc, List, [], ◌∷◌, ◌++◌, Option, Some, None, if◌then◌else◌, Contains}
use Rattle.oe_dims.specs.Names.{same_name}
use Rattle.oe_graph.specs.Tree.{Argument, null, flag, whole, inexact, text, list, object, from_node, from_parameter, callback, ListValues, no_arguments, argument, Named, no_named, named, Nodes, no_nodes, node, PlainGraph, PlainNode}

-- the nodes of a graph object, one by one
abbrev pub each_node : Nodes → List PlainNode
each_node no_nodes = []
each_node (node id process_id namespace arguments rest) =
    record { id = id; process_id = process_id; namespace = namespace; arguments = arguments } ∷ each_node rest

-- the argument of a name
abbrev pub argument_named : List ℕ → Named → Option Argument
argument_named name no_named = None
argument_named name (named k a rest) = if same_name k name then Some a else argument_named name rest

-- The ids of the nodes that an argument refers to, at any depth. The references in a callback are those of its own
-- nodes.
abbrev mutual
  pub references_in : Argument → List (List ℕ)
  references_in null = []
  references_in (flag b) = []
  references_in (whole z) = []
  references_in inexact = []
  references_in (text s) = []
  references_in (list rest) = references_each rest
  references_in (object ms) = references_named ms
  references_in (from_node id) = id ∷ []
  references_in (from_parameter name) = []
  references_in (callback ns result) = []

  pub references_each : ListValues → List (List ℕ)
  references_each no_arguments = []
  references_each (argument a rest) = references_in a ++ references_each rest

  pub references_named : Named → List (List ℕ)
  references_named no_named = []
  references_named (named k a rest) = references_in a ++ references_named rest

-- the names of the parameters that an argument refers to, in the same way
abbrev mutual
  pub parameters_in : Argument → List (List ℕ)
  parameters_in null = []
  parameters_in (flag b) = []
  parameters_in (whole z) = []
  parameters_in inexact = []
  parameters_in (text s) = []
  parameters_in (list rest) = parameters_each rest
  parameters_in (object ms) = parameters_named ms
  parameters_in (from_node id) = []
  parameters_in (from_parameter name) = name ∷ []
  parameters_in (callback ns result) = []

  pub parameters_each : ListValues → List (List ℕ)
  parameters_each no_arguments = []
  parameters_each (argument a rest) = parameters_in a ++ parameters_each rest

  pub parameters_named : Named → List (List ℕ)
  parameters_named no_named = []
  parameters_named (named k a rest) = parameters_in a ++ parameters_named rest

-- the callbacks in an argument, at any depth; those within a callback are in the arguments of its nodes
abbrev mutual
  pub callbacks_in : Argument → List PlainGraph
  callbacks_in null = []
  callbacks_in (flag b) = []
  callbacks_in (whole z) = []
  callbacks_in inexact = []
  callbacks_in (text s) = []
  callbacks_in (list rest) = callbacks_each rest
  callbacks_in (object ms) = callbacks_named ms
  callbacks_in (from_node id) = []
  callbacks_in (from_parameter name) = []
  callbacks_in (callback ns result) = record { nodes = ns; result = result } ∷ []

  pub callbacks_each : ListValues → List PlainGraph
  callbacks_each no_arguments = []
  callbacks_each (argument a rest) = callbacks_in a ++ callbacks_each rest

  pub callbacks_named : Named → List PlainGraph
  callbacks_named no_named = []
  callbacks_named (named k a rest) = callbacks_in a ++ callbacks_named rest

-- the node a of a graph object has an argument that refers to b
pub record Refers (nodes : Nodes) (a b : List ℕ) : Type 0 where
  pub from : PlainNode
  pub is_node : Contains (each_node nodes) from
  pub is_named : from.id ≡ a
  pub refers : Contains (references_named from.arguments) b

-- references lead from a to b within a graph object, by one of them at least
pub data Leads (nodes : Nodes) : List ℕ → List ℕ → Type 0 where
  refers : {a b : List ℕ} → Refers nodes a b → Leads nodes a b
  onwards : {a b c : List ℕ} → Refers nodes a b → Leads nodes b c → Leads nodes a c

-- a number of references lead from a to b within a graph object, one by one
pub data Chain (nodes : Nodes) : ℕ → List ℕ → List ℕ → Type 0 where
  none : {a : List ℕ} → Chain nodes 0 a a
  more : {count : ℕ} {a b c : List ℕ} → Refers nodes a b → Chain nodes count b c → Chain nodes (suc count) a c
