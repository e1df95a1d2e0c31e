-- Values substituted for parameters, at any depth of an argument.
use Rattle.std.specs.Prelude.{ℕ, List, [], ◌∷◌, Option, Some, None, unwrap_or, if◌then◌else◌}
use Rattle.std.specs.List.{list_any}
use Rattle.std.specs.Option.{option_or}
use Rattle.oe_dims.specs.Names.{same_name}
use Rattle.oe_graph.specs.References.{argument_named}
use Rattle.oe_graph.specs.Tree.{Argument, null, flag, whole, inexact, text, list, object, from_node, from_parameter, callback, ListValues, no_arguments, argument, Named, no_named, named, Nodes, no_nodes, node, PlainNode, PlainParameter, PlainStored}
use Rattle.oe_calls.specs.Calls.{callback_parameters}
use Rattle.oe_calls.specs.Renamed.{dangling, renamed_named}

-- ---- what a call gives

-- what a parameter has where no argument is given: its default, else null where it is optional
abbrev pub default_of : PlainParameter → Option Argument
default_of p = option_or p.default (if p.optional then Some null else None)

-- a parameter with its value, where it has one, before the others
abbrev pub value_before : List ℕ → Option Argument → Named → Named
value_before name None rest = rest
value_before name (Some a) rest = named name a rest

-- the value of each parameter of a process that is called with these arguments: the given argument, else its default
abbrev pub values_given : List PlainParameter → Named → Named
values_given [] arguments = no_named
values_given (p ∷ parameters) arguments =
    value_before p.name (option_or (argument_named p.name arguments) (default_of p)) (values_given parameters arguments)

-- ---- what is seen in a callback

abbrev pub without_names : List (List ℕ) → Named → Named
without_names names no_named = no_named
without_names names (named name a rest) =
    if list_any (same_name name) names then without_names names rest else named name a (without_names names rest)

-- The values that a callback sees: the parameters that its node gives it hide those of the same names. A value is put into
-- another graph object there, so its references dangle; those in a callback are between its nodes, which it takes along.
abbrev pub inside : List (List ℕ) → Named → Named
inside own values = renamed_named dangling (without_names own values)

-- ---- substituted

-- For each reference to a parameter that has a value this is substituted. Values are not looked through again: what they
-- refer to belongs to where they were written. `own` has the parameters that the callbacks of the node see.
abbrev mutual
  pub substituted : List PlainStored → List (List ℕ) → Named → Argument → Argument
  substituted stored own values null = null
  substituted stored own values (flag b) = flag b
  substituted stored own values (whole z) = whole z
  substituted stored own values inexact = inexact
  substituted stored own values (text s) = text s
  substituted stored own values (list rest) = list (substituted_each stored own values rest)
  substituted stored own values (object ms) = object (substituted_named stored own values ms)
  substituted stored own values (from_node id) = from_node id
  substituted stored own values (from_parameter name) = unwrap_or (argument_named name values) (from_parameter name)
  substituted stored own values (callback ns result) = callback (substituted_nodes stored (inside own values) ns) result

  pub substituted_each : List PlainStored → List (List ℕ) → Named → ListValues → ListValues
  substituted_each stored own values no_arguments = no_arguments
  substituted_each stored own values (argument a rest) =
      argument (substituted stored own values a) (substituted_each stored own values rest)

  pub substituted_named : List PlainStored → List (List ℕ) → Named → Named → Named
  substituted_named stored own values no_named = no_named
  substituted_named stored own values (named name a rest) =
      named name (substituted stored own values a) (substituted_named stored own values rest)

  pub substituted_nodes : List PlainStored → Named → Nodes → Nodes
  substituted_nodes stored values no_nodes = no_nodes
  substituted_nodes stored values (node id process_id namespace arguments rest) =
      node id process_id namespace
      (substituted_named stored (callback_parameters stored namespace process_id) values arguments)
      (substituted_nodes stored values rest)

abbrev pub substituted_node : List PlainStored → Named → PlainNode → PlainNode
substituted_node stored values n =
    record n {
      arguments = substituted_named stored (callback_parameters stored n.namespace n.process_id) values
          n.arguments;
    }
