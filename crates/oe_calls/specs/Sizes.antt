-- How much the arguments of graphs hold, and the most that they may.
use Rattle.std.specs.Prelude.{◌≡◌, ◌≤◌, ◌+◌, ℕ, Bool, List, [], ◌∷◌, length, map, Option, Some, None, is_some, option_map, unwrap_or, if◌then◌else◌}
use Rattle.std.specs.List.{list_any}
use Rattle.std.specs.Option.{option_or}
use Rattle.oe_dims.specs.Names.{same_name}
use Rattle.oe_graph.specs.References.{argument_named}
use Rattle.oe_graph.specs.Tree.{Argument, null, flag, whole, inexact, text, list, object, from_node, from_parameter, callback, ListValues, no_arguments, argument, Named, no_named, named, Nodes, no_nodes, node, PlainGraph, PlainNode, PlainParameter, PlainStored}
use Rattle.oe_calls.specs.Calls.{callee}
use Rattle.oe_calls.specs.Substituted.{default_of}
use Rattle.oe_calls.specs.Renamed.{renamed_nodes}
use Rattle.oe_calls.specs.Rounds.{opened, round_named, under_id}
use Rattle.oe_calls.specs.declared.sizes.Measure.{Measure}
use Rattle.oe_calls.specs.declared.sizes.Measure.TheVariants.{Values, TextBytes, NameBytes}

-- ---- what is counted

-- the values in arguments, each with those inside it, of which a node of a callback is one
abbrev pub value_size : Measure → ℕ
value_size Values = 1
value_size TextBytes = 0
value_size NameBytes = 0

-- the bytes of the texts among them
abbrev pub text_size : Measure → List ℕ → ℕ
text_size Values s = 0
text_size TextBytes s = length s
text_size NameBytes s = 0

-- the bytes of the names in them: of arguments, of the members of objects, of parameters that are referred to, and in
-- callbacks the ids of nodes and of their processes
abbrev pub name_size : Measure → List ℕ → ℕ
name_size Values name = 0
name_size TextBytes name = 0
name_size NameBytes name = length name

-- of a node of a callback without its arguments, and of all its nodes
abbrev pub size_bare : Measure → List ℕ → List ℕ → ℕ
size_bare m id process_id = value_size m + name_size m id + name_size m process_id

abbrev pub size_bare_nodes : Measure → Nodes → ℕ
size_bare_nodes m no_nodes = 0
size_bare_nodes m (node id process_id namespace arguments rest) = size_bare m id process_id + size_bare_nodes m rest

-- of an argument, and of the arguments of nodes
abbrev mutual
  pub size_in : Measure → Argument → ℕ
  size_in m null = value_size m
  size_in m (flag b) = value_size m
  size_in m (whole z) = value_size m
  size_in m inexact = value_size m
  size_in m (text s) = value_size m + text_size m s
  size_in m (list rest) = value_size m + size_each m rest
  size_in m (object ms) = value_size m + size_named m ms
  size_in m (from_node id) = value_size m
  size_in m (from_parameter name) = value_size m + name_size m name
  size_in m (callback ns result) = value_size m + (size_bare_nodes m ns + size_nodes m ns)

  pub size_each : Measure → ListValues → ℕ
  size_each m no_arguments = 0
  size_each m (argument a rest) = size_in m a + size_each m rest

  pub size_named : Measure → Named → ℕ
  size_named m no_named = 0
  size_named m (named name a rest) = name_size m name + size_in m a + size_named m rest

  pub size_nodes : Measure → Nodes → ℕ
  size_nodes m no_nodes = 0
  size_nodes m (node id process_id namespace arguments rest) = size_named m arguments + size_nodes m rest

-- ---- the most

abbrev pub most : Measure → ℕ
most Values = 1048576
most TextBytes = 16777216
most NameBytes = 16777216

-- a graph holds no more than it may
abbrev pub IsWithinLimits : PlainGraph → Type 0
IsWithinLimits g = (m : Measure) → size_nodes m g.nodes ≤ most m

-- ---- for private functions: how much a graph would hold after a round

-- of the nodes that stand in place of these, which stand beside all
abbrev pub round_size : Measure → List PlainStored → Nodes → Nodes → ℕ
round_size m stored all no_nodes = 0
round_size m stored all (node id process_id namespace arguments rest) =
    size_nodes m
    (opened stored
    (record {
      id = id;
      process_id = process_id;
      namespace = namespace;
      arguments = round_named stored (is_some (callee stored namespace process_id)) all arguments;
    })
    (callee stored namespace process_id))
    + round_size m stored all rest

-- of the same nodes without their arguments
abbrev pub opened_bare : Measure → List ℕ → List ℕ → Option PlainStored → ℕ
opened_bare m id process_id None = size_bare m id process_id
opened_bare m id process_id (Some s) = size_bare_nodes m (renamed_nodes (under_id id) s.graph.nodes)

abbrev pub round_bare : Measure → List PlainStored → Nodes → ℕ
round_bare m stored no_nodes = 0
round_bare m stored (node id process_id namespace arguments rest) =
    opened_bare m id process_id (callee stored namespace process_id) + round_bare m stored rest

-- the size of the value of a parameter of a process that is called with these arguments, where it has one
abbrev pub given_size : Measure → Named → PlainParameter → Option ℕ
given_size m arguments p = option_map (size_in m) (option_or (argument_named p.name arguments) (default_of p))

abbrev pub given_sizes : Measure → Named → List PlainParameter → List (List ℕ × Option ℕ)
given_sizes m arguments parameters = map (λ (p : PlainParameter). (p.name, given_size m arguments p)) parameters

-- the size of what stands for a parameter: of its value, else of the reference to it
abbrev pub size_or : Bool → Option ℕ → ℕ → ℕ
size_or same None other = other
size_or same (Some size) other = if same then size else other

abbrev pub size_for : Measure → List (List ℕ × Option ℕ) → List ℕ → ℕ
size_for m [] name = size_in m (from_parameter name)
size_for m (s ∷ sizes) name = size_or (same_name s.0 name) s.1 (size_for m sizes name)

-- these are the sizes of the values of parameters, of which some names are hidden
abbrev pub HasSizes : Measure → List (List ℕ × Option ℕ) → List (List ℕ) → Named → Type 0
HasSizes m sizes hidden values =
    (name : List ℕ) → size_in m (unwrap_or (argument_named name values) (from_parameter name))
    ≡ (if list_any (same_name name) hidden then size_in m (from_parameter name) else size_for m sizes name)
