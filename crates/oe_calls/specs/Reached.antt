-- Which stored processes the calls of a node reach, each where it stands in the main graph or in a callback, and whether
-- all nodes that come with it may stand there.
use Rattle.std.specs.Prelude.{◌≡◌, ◌↔◌, ℕ, ◌+◌, ◌*◌, ◌/◌, Bool, true, false, ◌&&◌, ◌⊎◌, List, [], ◌∷◌, ◌++◌, length, map, slice_get, slice_index_or, Option, Some, None, if◌then◌else◌, Contains}
use Rattle.oe_graph.specs.Codes.{phase_of}
use Rattle.oe_graph.specs.Tree.{Argument, null, flag, whole, inexact, text, list, object, from_node, from_parameter, callback, ListValues, no_arguments, argument, Named, no_named, named, Nodes, no_nodes, node, PlainGraph, PlainNode, PlainStored}
use Rattle.oe_graph.specs.declared.code.Code.{Code}
use Rattle.oe_graph.specs.declared.code.Code.TheVariants.{ProcessUnsupported, ProcessRecursive}
use Rattle.oe_graph.specs.declared.fault.Fault.{Fault}
use Rattle.oe_order.specs.Graph as order
use Rattle.oe_calls.specs.Calls as calls
use Rattle.oe_calls.specs.Calls.{callee, Brings, CallsReach, ReachesProcess}
use Rattle.oe_calls.specs.Faults.{StandsWithStored}

-- nodes and the nodes of their callbacks, at any depth, each with whether it stands in a callback
abbrev mutual
  pub held_nodes : Bool → Nodes → List (Bool × PlainNode)
  held_nodes in_callback no_nodes = []
  held_nodes in_callback (node id process_id namespace arguments rest) =
      ((in_callback, record { id = id; process_id = process_id; namespace = namespace; arguments = arguments })
      ∷ held_named arguments)
      ++ held_nodes in_callback rest

  pub held_named : Named → List (Bool × PlainNode)
  held_named no_named = []
  held_named (named name a rest) = held_in a ++ held_named rest

  pub held_in : Argument → List (Bool × PlainNode)
  held_in null = []
  held_in (flag b) = []
  held_in (whole z) = []
  held_in inexact = []
  held_in (text s) = []
  held_in (list rest) = held_each rest
  held_in (object ms) = held_named ms
  held_in (from_node id) = []
  held_in (from_parameter name) = []
  held_in (callback ns result) = held_nodes true ns

  pub held_each : ListValues → List (Bool × PlainNode)
  held_each no_arguments = []
  held_each (argument a rest) = held_in a ++ held_each rest

abbrev pub held_by : Bool → PlainNode → List (Bool × PlainNode)
held_by in_callback n = (in_callback, n) ∷ held_named n.arguments

-- each of them may stand where it does
abbrev mutual
  pub support_nodes : List PlainStored → Bool → Nodes → Bool
  support_nodes stored in_callback no_nodes = true
  support_nodes stored in_callback (node id process_id namespace arguments rest) =
      (calls.may_stand stored in_callback
      (record { id = id; process_id = process_id; namespace = namespace; arguments = arguments })
      && support_named stored arguments)
      && support_nodes stored in_callback rest

  pub support_named : List PlainStored → Named → Bool
  support_named stored no_named = true
  support_named stored (named name a rest) = supports stored a && support_named stored rest

  pub supports : List PlainStored → Argument → Bool
  supports stored null = true
  supports stored (flag b) = true
  supports stored (whole z) = true
  supports stored inexact = true
  supports stored (text s) = true
  supports stored (list rest) = support_each stored rest
  supports stored (object ms) = support_named stored ms
  supports stored (from_node id) = true
  supports stored (from_parameter name) = true
  supports stored (callback ns result) = support_nodes stored true ns

  pub support_each : List PlainStored → ListValues → Bool
  support_each stored no_arguments = true
  support_each stored (argument a rest) = supports stored a && support_each stored rest

abbrev pub supports_node : List PlainStored → Bool → PlainNode → Bool
supports_node stored in_callback n = calls.may_stand stored in_callback n && support_named stored n.arguments

-- ---- the index of a process where it stands

-- twice the number of the process, and one more in a callback
abbrev pub index_at : ℕ → Bool → ℕ
index_at place in_callback = 2 * place + (if in_callback then 1 else 0)

-- this is the index of a stored process where it stands in a callback, or in the main graph
pub record IsIndexOf (stored : List PlainStored) (called : PlainStored) (in_callback : Bool) (index : ℕ) : Type 0 where
  pub place : ℕ
  pub is_there : slice_get stored place ≡ Some called
  pub is : index ≡ index_at place in_callback

-- one of these nodes calls the process of this index
pub record IsCalled (stored : List PlainStored) (held : List (Bool × PlainNode)) (index : ℕ) : Type 0 where
  pub caller : Bool × PlainNode
  pub holds : Contains held caller
  pub called : PlainStored
  pub calls : callee stored caller.1.namespace caller.1.process_id ≡ Some called
  pub has_index : IsIndexOf stored called caller.0 index

-- the index of a process is in a list
pub record HasIndexOf (stored : List PlainStored) (called : PlainStored) (in_callback : Bool)
    (indices : List ℕ) : Type 0 where
  pub index : ℕ
  pub has : Contains indices index
  pub is : IsIndexOf stored called in_callback index

-- the indices of what these nodes call, behind others
pub record IsCalledBehind (stored : List PlainStored) (held : List (Bool × PlainNode)) (old new : List ℕ) : Type 0 where
  pub kept : (index : ℕ) → Contains old index → Contains new index
  pub sound : (index : ℕ) → Contains new index → Contains old index ⊎ IsCalled stored held index
  pub found : (caller : Bool × PlainNode) (called : PlainStored) → Contains held caller
      → callee stored caller.1.namespace caller.1.process_id ≡ Some called → HasIndexOf stored called caller.0 new

-- the calls of all stored processes, and whether their nodes may stand
pub record IsCallGraph (stored : List PlainStored) (links : List order.Node) (supported : List Bool) : Type 0 where
  pub each : length links ≡ 2 * length stored
  pub each_marked : length supported ≡ 2 * length stored
  pub linked : (place : ℕ) (in_callback : Bool) (s : PlainStored) → slice_get stored place ≡ Some s
      → IsCalledBehind stored (held_nodes in_callback s.graph.nodes) []
      (order.arguments links (index_at place in_callback))
  pub marked : (place : ℕ) (in_callback : Bool) (s : PlainStored) → slice_get stored place ≡ Some s
      → slice_index_or supported (index_at place in_callback) false ≡ support_nodes stored in_callback s.graph.nodes

-- a node that a node brings calls the process of this index
pub record IsReached (stored : List PlainStored) (n : PlainNode) (index : ℕ) : Type 0 where
  pub in_callback : Bool
  pub caller : PlainNode
  pub brings : Brings stored false n in_callback caller
  pub called : PlainStored
  pub calls : callee stored caller.namespace caller.process_id ≡ Some called
  pub has_index : IsIndexOf stored called in_callback index

-- the indices of all that the calls of a node reach
pub record AreReached (stored : List PlainStored) (n : PlainNode) (found : List ℕ) : Type 0 where
  pub sound : (index : ℕ) → Contains found index → IsReached stored n index
  pub complete : (index : ℕ) → IsReached stored n index → Contains found index

-- the index in a callback of the process of an index
abbrev pub back_from : ℕ → ℕ
back_from index = 2 * (index / 2) + 1

-- the process of one of these indices reaches itself in a callback
pub record AnyRecurs (links : List order.Node) (found : List ℕ) : Type 0 where
  pub index : ℕ
  pub is_there : Contains found index
  pub back : order.Reaches links (back_from index) (back_from index)

-- why the calls of a node are at fault: a process that they bring with them is not supported where it would stand
pub record IsUnsupported (stored : List PlainStored) (n : PlainNode) : Type 0 where
  pub in_callback : Bool
  pub brought : PlainNode
  pub brings : Brings stored false n in_callback brought
  pub stands_not : calls.may_stand stored in_callback brought ≡ false

pub record IsRecursive (stored : List PlainStored) (n : PlainNode) : Type 0 where
  pub reached : PlainStored
  pub calls_reach : CallsReach stored n reached
  pub recurs : ReachesProcess stored reached reached

-- the first of the two codes of which the calls of a node have a fault
pub data IsCodeOf (stored : List PlainStored) (n : PlainNode) : Option Code → Type 0 where
  unsupported : IsUnsupported stored n → IsCodeOf stored n (Some ProcessUnsupported)
  recursive : ¬ IsUnsupported stored n → IsRecursive stored n → IsCodeOf stored n (Some ProcessRecursive)
  faultless : ¬ IsUnsupported stored n → ¬ IsRecursive stored n → IsCodeOf stored n None

-- a fault of the processes that a graph calls
abbrev pub IsCallFault : List PlainStored → PlainGraph → Fault → Type 0
IsCallFault stored g f = (phase_of f.code ≡ 2) × StandsWithStored stored g f.code f.node
