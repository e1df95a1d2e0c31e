-- The expanded graph with the defaults of all arguments that are not given.
use Rattle.std.specs.Prelude.{ℕ, List, [], ◌∷◌, map, Option, Some, None, if◌then◌else◌}
use Rattle.std.specs.Option.{option_map_or}
use Rattle.oe_dims.specs.Names.{is_name_before}
use Rattle.oe_graph.specs.Catalogue.{Process, process_named, plain_parameter}
use Rattle.oe_graph.specs.References.{argument_named}
use Rattle.oe_graph.specs.Tree.{Argument, null, flag, whole, inexact, text, list, object, from_node, from_parameter, callback, ListValues, no_arguments, argument, Named, no_named, named, Nodes, no_nodes, node, PlainGraph, PlainNode, PlainParameter, PlainStored}
use Rattle.oe_calls.specs.Substituted.{default_of}
use Rattle.oe_calls.specs.Rounds.{expanded}

-- an argument at the index that its name has in byte order
abbrev pub put_argument : List ℕ → Argument → Named → Named
put_argument name a no_named = named name a no_named
put_argument name a (named other b rest) =
    if is_name_before other name then named other b (put_argument name a rest) else named name a (named other b rest)

-- a default, where there is one and no argument is given
abbrev pub put_default : List ℕ → Option Argument → Option Argument → Named → Named
put_default name given None arguments = arguments
put_default name None (Some a) arguments = put_argument name a arguments
put_default name (Some given) (Some a) arguments = arguments

abbrev pub put_defaults : List PlainParameter → Named → Named
put_defaults [] arguments = arguments
put_defaults (p ∷ parameters) arguments =
    put_defaults parameters (put_default p.name (argument_named p.name arguments) (default_of p) arguments)

-- the parameters of a process of the catalogue
abbrev pub parameters_named : List ℕ → List PlainParameter
parameters_named process_id =
    option_map_or (λ (p : Process). map plain_parameter p.parameters) (process_named process_id) []

-- at any depth of callbacks
abbrev mutual
  pub nodes_with_defaults : Nodes → Nodes
  nodes_with_defaults no_nodes = no_nodes
  nodes_with_defaults (node id process_id namespace arguments rest) =
      node id process_id namespace (put_defaults (parameters_named process_id) (named_with_defaults arguments))
      (nodes_with_defaults rest)

  pub named_with_defaults : Named → Named
  named_with_defaults no_named = no_named
  named_with_defaults (named name a rest) = named name (with_defaults a) (named_with_defaults rest)

  pub with_defaults : Argument → Argument
  with_defaults null = null
  with_defaults (flag b) = flag b
  with_defaults (whole z) = whole z
  with_defaults inexact = inexact
  with_defaults (text s) = text s
  with_defaults (list rest) = list (each_with_defaults rest)
  with_defaults (object ms) = object (named_with_defaults ms)
  with_defaults (from_node id) = from_node id
  with_defaults (from_parameter name) = from_parameter name
  with_defaults (callback ns result) = callback (nodes_with_defaults ns) result

  pub each_with_defaults : ListValues → ListValues
  each_with_defaults no_arguments = no_arguments
  each_with_defaults (argument a rest) = argument (with_defaults a) (each_with_defaults rest)

abbrev pub node_with_defaults : PlainNode → PlainNode
node_with_defaults n = record n {
  arguments = put_defaults (parameters_named n.process_id) (named_with_defaults n.arguments);
}

abbrev pub graph_with_defaults : PlainGraph → PlainGraph
graph_with_defaults g = record { nodes = nodes_with_defaults g.nodes; result = g.result }

-- what a graph without a fault resolves to
abbrev pub resolved : List PlainStored → PlainGraph → PlainGraph
resolved stored g = graph_with_defaults (expanded stored g)
