-- Arguments and nodes whose references have other ids.
use Rattle.std.specs.Prelude.{ℕ, List, []}
use Rattle.oe_graph.specs.Tree.{Argument, null, flag, whole, inexact, text, list, object, from_node, from_parameter, callback, ListValues, no_arguments, argument, Named, no_named, named, Nodes, no_nodes, node, PlainNode}

-- Each reference has the id that becomes of its own. Those in a callback are between its nodes, and stay.
abbrev mutual
  pub renamed : (List ℕ → List ℕ) → Argument → Argument
  renamed rename null = null
  renamed rename (flag b) = flag b
  renamed rename (whole z) = whole z
  renamed rename inexact = inexact
  renamed rename (text s) = text s
  renamed rename (list rest) = list (renamed_each rename rest)
  renamed rename (object ms) = object (renamed_named rename ms)
  renamed rename (from_node id) = from_node (rename id)
  renamed rename (from_parameter name) = from_parameter name
  renamed rename (callback ns result) = callback ns result

  pub renamed_each : (List ℕ → List ℕ) → ListValues → ListValues
  renamed_each rename no_arguments = no_arguments
  renamed_each rename (argument a rest) = argument (renamed rename a) (renamed_each rename rest)

  pub renamed_named : (List ℕ → List ℕ) → Named → Named
  renamed_named rename no_named = no_named
  renamed_named rename (named name a rest) = named name (renamed rename a) (renamed_named rename rest)

-- nodes with their references
abbrev pub renamed_nodes : (List ℕ → List ℕ) → Nodes → Nodes
renamed_nodes rename no_nodes = no_nodes
renamed_nodes rename (node id process_id namespace arguments rest) =
    node (rename id) process_id namespace (renamed_named rename arguments) (renamed_nodes rename rest)

abbrev pub renamed_node : (List ℕ → List ℕ) → PlainNode → PlainNode
renamed_node rename n = record n { id = rename n.id; arguments = renamed_named rename n.arguments }

-- what becomes of the id of a reference that dangles: no node has the empty id
abbrev pub dangling : List ℕ → List ℕ
dangling id = []
