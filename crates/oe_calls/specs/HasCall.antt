-- Whether a graph calls a stored process, at any depth of callbacks.
use Rattle.std.specs.Prelude.{ℕ, Bool, false, ◌||◌, is_some, List}
use Rattle.oe_graph.specs.Tree.{Argument, null, flag, whole, inexact, text, list, object, from_node, from_parameter, callback, ListValues, no_arguments, argument, Named, no_named, named, Nodes, no_nodes, node, PlainNode, PlainStored}
use Rattle.oe_calls.specs.Calls.{callee}

abbrev mutual
  pub nodes_call : List PlainStored → Nodes → Bool
  nodes_call stored no_nodes = false
  nodes_call stored (node id process_id namespace arguments rest) =
      (is_some (callee stored namespace process_id) || named_call stored arguments) || nodes_call stored rest

  pub named_call : List PlainStored → Named → Bool
  named_call stored no_named = false
  named_call stored (named name a rest) = calls stored a || named_call stored rest

  pub calls : List PlainStored → Argument → Bool
  calls stored null = false
  calls stored (flag b) = false
  calls stored (whole z) = false
  calls stored inexact = false
  calls stored (text s) = false
  calls stored (list rest) = each_call stored rest
  calls stored (object ms) = named_call stored ms
  calls stored (from_node id) = false
  calls stored (from_parameter name) = false
  calls stored (callback ns result) = nodes_call stored ns

  pub each_call : List PlainStored → ListValues → Bool
  each_call stored no_arguments = false
  each_call stored (argument a rest) = calls stored a || each_call stored rest

abbrev pub node_calls : List PlainStored → PlainNode → Bool
node_calls stored n = is_some (callee stored n.namespace n.process_id) || named_call stored n.arguments
