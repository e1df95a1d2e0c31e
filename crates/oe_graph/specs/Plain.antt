-- The plain value of each tree of the code.
use Rattle.std.specs.Prelude.{ℕ, List, map}
use Rattle.std.specs.Option.{option_map}
use Rattle.oe_graph.specs.Tree.{Argument, null, flag, whole, inexact, text, list, object, from_node, from_parameter, callback, ListValues, Named, Nodes, PlainGraph, PlainNode, PlainParameter, PlainProcess, PlainStored, values_from_list, named_from_list, nodes_from_list}
use Rattle.oe_graph.specs.declared.tree.Arg.{Arg, fold-Arg}
use Rattle.oe_graph.specs.declared.tree.Arg.TheOpen.{Arg-F, Graph-F, Node-F}
use Rattle.oe_graph.specs.declared.tree.Graph.{Graph, fold-Graph}
use Rattle.oe_graph.specs.declared.tree.Node.{Node, fold-Node}
use Rattle.oe_graph.specs.declared.catalogue.ParameterRow.{ParameterRow}
use Rattle.oe_graph.specs.declared.catalogue.ProcessRow.{ProcessRow}
use Rattle.oe_graph.specs.declared.stored.StoredProcess.{StoredProcess}

-- one level, with each tree inside already seen as its plain value
abbrev pub arg_step : Arg-F Argument PlainGraph PlainNode → Argument
arg_step Arg-F.Null = null
arg_step (Arg-F.Flag b) = flag b
arg_step (Arg-F.Whole z) = whole z
arg_step Arg-F.Inexact = inexact
arg_step (Arg-F.Str s) = text s
arg_step (Arg-F.List v) = list (values_from_list v.items)
arg_step (Arg-F.Object v) = object (named_from_list v.items)
arg_step (Arg-F.FromNode s) = from_node s
arg_step (Arg-F.FromParameter s) = from_parameter s
arg_step (Arg-F.Callback g) = callback g.nodes g.result

abbrev pub graph_step : Graph-F Argument PlainGraph PlainNode → PlainGraph
graph_step g = record { nodes = nodes_from_list g.nodes.items; result = g.result }

abbrev pub node_step : Node-F Argument PlainGraph PlainNode → PlainNode
node_step n = record {
  id = n.id;
  process_id = n.process_id;
  namespace = n.namespace;
  arguments = named_from_list n.arguments.items;
}

abbrev pub plain_arg : Arg → Argument
plain_arg = fold-Arg Argument PlainGraph PlainNode arg_step graph_step node_step

abbrev pub plain_graph : Graph → PlainGraph
plain_graph = fold-Graph Argument PlainGraph PlainNode arg_step graph_step node_step

abbrev pub plain_node : Node → PlainNode
plain_node = fold-Node Argument PlainGraph PlainNode arg_step graph_step node_step

-- of lists of trees
abbrev pub plain_args : List Arg → ListValues
plain_args args = values_from_list (map plain_arg args)

abbrev pub plain_pair : List ℕ × Arg → List ℕ × Argument
plain_pair a = (a.0, plain_arg a.1)

abbrev pub plain_named : List (List ℕ × Arg) → Named
plain_named args = named_from_list (map plain_pair args)

abbrev pub plain_nodes : List Node → Nodes
plain_nodes ns = nodes_from_list (map plain_node ns)

-- of parameters and processes
abbrev pub plain_parameter : ParameterRow → PlainParameter
plain_parameter p = record { name = p.name; optional = p.optional; default = option_map plain_arg p.default }

abbrev pub plain_process : ProcessRow → PlainProcess
plain_process p = record { id = p.id; parameters = map plain_parameter p.parameters.items; in_callback = p.in_callback }

abbrev pub plain_stored : StoredProcess → PlainStored
plain_stored p = record {
  id = p.id;
  parameters = map plain_parameter p.parameters.items;
  graph = plain_graph p.graph;
  text = p.text;
}
