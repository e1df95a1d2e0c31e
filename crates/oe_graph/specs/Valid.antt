-- Graphs and stored processes in the form that reading gives, as far as resolving them depends on it.
use Rattle.std.specs.Prelude.{◌≡◌, ◌≢◌, ◌<◌, ℕ, suc, Bool, true, false, ◌&&◌, nat_le, List, Some, slice_get, Contains}
use Rattle.oe_dims.specs.Names.{is_name, names_rise}
use Rattle.oe_graph.specs.Printed.{ids_of, names_of, node_count}
use Rattle.oe_graph.specs.Tree.{Argument, null, flag, whole, inexact, text, list, object, from_node, from_parameter, callback, ListValues, no_arguments, argument, Named, no_named, named, Nodes, no_nodes, node, PlainGraph, PlainParameter, PlainStored}

-- ids are names; ids, and the names of the arguments of a node, rise in byte order; the result is the index of a node
abbrev mutual
  pub is_valid : Argument → Bool
  is_valid null = true
  is_valid (flag b) = true
  is_valid (whole z) = true
  is_valid inexact = true
  is_valid (text s) = true
  is_valid (list rest) = are_valid rest
  is_valid (object ms) = are_valid_named ms
  is_valid (from_node id) = true
  is_valid (from_parameter name) = true
  is_valid (callback ns result) = nat_le (suc result) (node_count ns) && names_rise (ids_of ns) && are_valid_nodes ns

  pub are_valid : ListValues → Bool
  are_valid no_arguments = true
  are_valid (argument a rest) = is_valid a && are_valid rest

  pub are_valid_named : Named → Bool
  are_valid_named no_named = true
  are_valid_named (named name a rest) = is_valid a && are_valid_named rest

  pub are_valid_nodes : Nodes → Bool
  are_valid_nodes no_nodes = true
  are_valid_nodes (node id process_id namespace arguments rest) =
      is_name id && names_rise (names_of arguments) && are_valid_named arguments && are_valid_nodes rest

abbrev pub IsValidGraph : PlainGraph → Type 0
IsValidGraph g = is_valid (callback g.nodes g.result) ≡ true

-- no reference and no callback stands in a value, at any depth
abbrev mutual
  pub is_plain : Argument → Bool
  is_plain null = true
  is_plain (flag b) = true
  is_plain (whole z) = true
  is_plain inexact = true
  is_plain (text s) = true
  is_plain (list rest) = are_plain rest
  is_plain (object ms) = are_plain_named ms
  is_plain (from_node id) = false
  is_plain (from_parameter name) = false
  is_plain (callback ns result) = false

  pub are_plain : ListValues → Bool
  are_plain no_arguments = true
  are_plain (argument a rest) = is_plain a && are_plain rest

  pub are_plain_named : Named → Bool
  are_plain_named no_named = true
  are_plain_named (named name a rest) = is_plain a && are_plain_named rest

-- a stored process: its graph is valid, and its defaults are plain values
pub record IsValidStored (s : PlainStored) : Type 0 where
  pub graph : IsValidGraph s.graph
  pub plain : (p : PlainParameter) (a : Argument) → Contains s.parameters p → p.default ≡ Some a → is_plain a ≡ true

-- stored processes, no two of one id
pub record AreValidStored (stored : List PlainStored) : Type 0 where
  pub each : (s : PlainStored) → Contains stored s → IsValidStored s
  pub differ : (i j : ℕ) (a b : PlainStored) → i < j → slice_get stored i ≡ Some a → slice_get stored j ≡ Some b
      → a.id ≢ b.id
