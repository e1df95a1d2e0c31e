-- For private functions. How many nodes graphs have after expansion, counted up to one more than a graph may have.
use Rattle.std.specs.Prelude.{ℕ, zero, suc, ◌+◌, min, nat_le, Bool, true, ◌&&◌, List}
use Rattle.std.specs.Option.{option_map_or}
use Rattle.oe_graph.specs.Tree.{Argument, null, flag, whole, inexact, text, list, object, from_node, from_parameter, callback, ListValues, no_arguments, argument, Named, no_named, named, Nodes, no_nodes, node, PlainStored}
use Rattle.oe_calls.specs.Calls.{callee}

-- one more than the main graph may have
abbrev pub enough : ℕ
enough = 257

-- a node counts as one, and a call as many as its process gives
abbrev pub count_with : List PlainStored → (PlainStored → ℕ) → Nodes → ℕ
count_with stored size no_nodes = 0
count_with stored size (node id process_id namespace arguments rest) =
    option_map_or size (callee stored namespace process_id) 1 + count_with stored size rest

abbrev pub total : List PlainStored → (PlainStored → ℕ) → Nodes → ℕ
total stored size ns = min enough (count_with stored size ns)

-- how many nodes a stored process gives by so many rounds
abbrev pub size_by : List PlainStored → ℕ → PlainStored → ℕ
size_by stored zero s = 1
size_by stored (suc times) s = total stored (size_by stored times) s.graph.nodes

-- no callback in these has more nodes than it may
abbrev mutual
  pub fits : List PlainStored → (PlainStored → ℕ) → Argument → Bool
  fits stored size null = true
  fits stored size (flag b) = true
  fits stored size (whole z) = true
  fits stored size inexact = true
  fits stored size (text s) = true
  fits stored size (list rest) = fit_each stored size rest
  fits stored size (object ms) = fit_named stored size ms
  fits stored size (from_node id) = true
  fits stored size (from_parameter name) = true
  fits stored size (callback ns result) = nat_le (total stored size ns) 64 && fit_nodes stored size ns

  pub fit_each : List PlainStored → (PlainStored → ℕ) → ListValues → Bool
  fit_each stored size no_arguments = true
  fit_each stored size (argument a rest) = fits stored size a && fit_each stored size rest

  pub fit_named : List PlainStored → (PlainStored → ℕ) → Named → Bool
  fit_named stored size no_named = true
  fit_named stored size (named name a rest) = fits stored size a && fit_named stored size rest

  pub fit_nodes : List PlainStored → (PlainStored → ℕ) → Nodes → Bool
  fit_nodes stored size no_nodes = true
  fit_nodes stored size (node id process_id namespace arguments rest) =
      fit_named stored size arguments && fit_nodes stored size rest
