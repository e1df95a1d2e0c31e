-- For private functions. What judging finds at a node of a graph object, and the faults of a graph object and of the
-- callbacks in it.
use Rattle.std.specs.Prelude.{◌≡◌, ◌↔◌, ℕ, Bool, true, false, not, ◌&&◌, ◌||◌, ◌⊎◌, List, length, slice_get, slice_index_or, Option, Some, None, is_none, if◌then◌else◌, Contains}
use Rattle.std.specs.List.{list_any}
use Rattle.std.specs.Option.{option_map_or}
use Rattle.oe_dims.specs.Names.{same_name, names_rise}
use Rattle.oe_graph.specs.Faults.{IsLeastFault}
use Rattle.oe_graph.specs.Form.{node_name, callback_name}
use Rattle.oe_graph.specs.Printed.{ids_of, names_of}
use Rattle.oe_graph.specs.References.{each_node, argument_named, references_named, parameters_named, callbacks_in, callbacks_named, Leads}
use Rattle.oe_graph.specs.Resolved.{scope_inside}
use Rattle.oe_graph.specs.Tree.{Argument, null, flag, whole, inexact, text, list, object, from_node, from_parameter, callback, ListValues, no_arguments, argument, Named, no_named, named, Nodes, PlainGraph, PlainNode, PlainParameter, PlainStored}
use Rattle.oe_graph.specs.declared.code.Code.{Code}
use Rattle.oe_graph.specs.declared.code.Code.TheVariants.{ArgumentUnknown, ProcessParameterMissing, ParameterUnknown, NodeUnknown, GraphCycle}
use Rattle.oe_graph.specs.declared.fault.Fault.{Fault}
use Rattle.oe_calls.specs.Calls.{callee, parameters_of}
use Rattle.oe_calls.specs.Faults.{each_argument, names_among}

-- ---- one node

-- an argument has a name that is none of these
abbrev pub has_unknown : List (List ℕ) → Named → Bool
has_unknown names no_named = false
has_unknown names (named name a rest) = not (list_any (λ other. same_name other name) names) || has_unknown names rest

abbrev pub has_unknown_argument : Option (List PlainParameter) → Named → Bool
has_unknown_argument parameters arguments =
    option_map_or (λ ps. has_unknown (names_among ps) arguments) parameters false

-- a parameter needs an argument, and none is given
abbrev pub is_missing : Named → PlainParameter → Bool
is_missing arguments p = is_none p.default && not p.optional && is_none (argument_named p.name arguments)

abbrev pub lacks_parameter : Option (List PlainParameter) → Named → Bool
lacks_parameter parameters arguments = option_map_or (λ ps. list_any (is_missing arguments) ps) parameters false

-- the scope has each parameter that an argument refers to, at any depth
abbrev mutual
  pub sees : List (List ℕ) → Argument → Bool
  sees scope null = true
  sees scope (flag b) = true
  sees scope (whole z) = true
  sees scope inexact = true
  sees scope (text s) = true
  sees scope (list rest) = see_each scope rest
  sees scope (object ms) = see_named scope ms
  sees scope (from_node id) = true
  sees scope (from_parameter name) = list_any (same_name name) scope
  sees scope (callback ns result) = true

  pub see_each : List (List ℕ) → ListValues → Bool
  see_each scope no_arguments = true
  see_each scope (argument a rest) = sees scope a && see_each scope rest

  pub see_named : List (List ℕ) → Named → Bool
  see_named scope no_named = true
  see_named scope (named name a rest) = sees scope a && see_named scope rest

-- each reference in an argument is one of these ids
abbrev mutual
  pub knows : List (List ℕ) → Argument → Bool
  knows ids null = true
  knows ids (flag b) = true
  knows ids (whole z) = true
  knows ids inexact = true
  knows ids (text s) = true
  knows ids (list rest) = know_each ids rest
  knows ids (object ms) = know_named ids ms
  knows ids (from_node id) = list_any (same_name id) ids
  knows ids (from_parameter name) = true
  knows ids (callback ns result) = true

  pub know_each : List (List ℕ) → ListValues → Bool
  know_each ids no_arguments = true
  know_each ids (argument a rest) = knows ids a && know_each ids rest

  pub know_named : List (List ℕ) → Named → Bool
  know_named ids no_named = true
  know_named ids (named name a rest) = knows ids a && know_named ids rest

-- the first of the five faults of which these tests tell
abbrev pub first_code : Bool → Bool → Bool → Bool → Bool → Option Code
first_code unknown missing unseen unnamed cyclic =
    if unknown then Some ArgumentUnknown else if missing then Some ProcessParameterMissing
    else if unseen then Some ParameterUnknown else if unnamed then Some NodeUnknown
    else if cyclic then Some GraphCycle else None

-- parameters and cycles are judged in the last round alone
abbrev pub node_code : List PlainStored → Bool → List (List ℕ) → PlainNode → Bool → Bool → Option Code
node_code stored last scope n known cyclic =
    first_code (has_unknown_argument (parameters_of stored n) n.arguments)
    (lacks_parameter (parameters_of stored n) n.arguments) (last && not (see_named scope n.arguments))
    (not known) cyclic

-- a fault that a node has by itself
pub data HasFault (stored : List PlainStored) (last : Bool) (scope : List (List ℕ)) (nodes : Nodes) (n : PlainNode)
    : Code → Type 0 where
  argument_unknown : {parameters : List PlainParameter} {argument : List ℕ}
      → parameters_of stored n ≡ Some parameters
      → Contains (names_of n.arguments) argument → ¬ Contains (names_among parameters) argument
      → HasFault stored last scope nodes n ArgumentUnknown
  process_parameter_missing : {parameters : List PlainParameter} {p : PlainParameter}
      → parameters_of stored n ≡ Some parameters
      → Contains parameters p → p.default ≡ None → p.optional ≡ false → ¬ Contains (names_of n.arguments) p.name
      → HasFault stored last scope nodes n ProcessParameterMissing
  parameter_unknown : {parameter : List ℕ}
      → last ≡ true → Contains (parameters_named n.arguments) parameter → ¬ Contains scope parameter
      → HasFault stored last scope nodes n ParameterUnknown
  node_unknown : {id : List ℕ}
      → Contains (references_named n.arguments) id → ¬ Contains (ids_of nodes) id
      → HasFault stored last scope nodes n NodeUnknown
  graph_cycle : last ≡ true → Leads nodes n.id n.id → HasFault stored last scope nodes n GraphCycle

-- the fault stands at a node of this name
pub record OfItself (stored : List PlainStored) (last : Bool) (name : List ℕ) (scope : List (List ℕ)) (nodes : Nodes)
    (n : PlainNode) (f : Fault) : Type 0 where
  pub at : f.node ≡ name
  pub has : HasFault stored last scope nodes n f.code

-- ---- graph objects, under their names and scopes

-- a fault of a node of a graph object, or of a callback in an argument of one that is no call
pub data OfObject (stored : List PlainStored) (last : Bool) (f : Fault)
    : List ℕ → List (List ℕ) → Nodes → Type 0 where
  by_itself : {name : List ℕ} {scope : List (List ℕ)} {nodes : Nodes} {n : PlainNode}
      → Contains (each_node nodes) n → OfItself stored last (node_name name n.id) scope nodes n f
      → OfObject stored last f name scope nodes
  inside : {name : List ℕ} {scope : List (List ℕ)} {nodes : Nodes} {n : PlainNode} {a : List ℕ × Argument}
      {g : PlainGraph}
      → Contains (each_node nodes) n → callee stored n.namespace n.process_id ≡ None
      → Contains (each_argument n.arguments) a → Contains (callbacks_in a.1) g
      → OfObject stored last f (callback_name (node_name name n.id) a.0) (scope_inside n scope) g.nodes
      → OfObject stored last f name scope nodes

-- of a callback in the argument of a name, where the node of it gives callbacks this scope
pub record OfArgument (stored : List PlainStored) (last : Bool) (node name : List ℕ) (scope : List (List ℕ))
    (a : Argument)
    (f : Fault) : Type 0 where
  pub graph : PlainGraph
  pub is_there : Contains (callbacks_in a) graph
  pub has : OfObject stored last f (callback_name node name) scope graph.nodes

pub record OfArguments (stored : List PlainStored) (last : Bool) (node : List ℕ) (scope : List (List ℕ))
    (arguments : Named)
    (f : Fault) : Type 0 where
  pub one : List ℕ × Argument
  pub is_there : Contains (each_argument arguments) one
  pub has : OfArgument stored last node one.0 scope one.1 f

-- of a node, by itself or, where it is no call, in the callbacks in its arguments
abbrev pub OfNode : List PlainStored → Bool → List ℕ → List (List ℕ) → Nodes → PlainNode → Fault → Type 0
OfNode stored last name scope nodes n f =
    OfItself stored last (node_name name n.id) scope nodes n f
    ⊎ ((callee stored n.namespace n.process_id ≡ None)
    × OfArguments stored last (node_name name n.id) (scope_inside n scope) n.arguments f)

-- ---- where ids rise

-- a graph object stands within one: it is that one, or stands within a callback in it
pub data IsInside (inner : Nodes) : Nodes → Type 0 where
  itself : IsInside inner inner
  deeper : {outer : Nodes} {n : PlainNode} {g : PlainGraph}
      → Contains (each_node outer) n → Contains (callbacks_named n.arguments) g → IsInside inner g.nodes
      → IsInside inner outer

-- ids rise in byte order in a graph object and in all callbacks in it
abbrev pub IdsRise : Nodes → Type 0
IdsRise nodes = (inner : Nodes) → IsInside inner nodes → names_rise (ids_of inner) ≡ true

-- and in the callbacks in arguments
abbrev pub IdsRiseIn : List PlainGraph → Type 0
IdsRiseIn callbacks = (g : PlainGraph) → Contains callbacks g → IdsRise g.nodes

-- ---- cycles

-- in the last round, whether references lead from a node back to itself
abbrev pub IsMark : Bool → Nodes → PlainNode → Bool → Type 0
IsMark last nodes n mark = (mark ≡ true) ↔ ((last ≡ true) × Leads nodes n.id n.id)

-- a mark for each node of a graph object
pub record AreMarks (last : Bool) (nodes : Nodes) (marks : List Bool) : Type 0 where
  pub each : length marks ≡ length (each_node nodes)
  pub exact : (index : ℕ) (n : PlainNode) → slice_get (each_node nodes) index ≡ Some n
      → IsMark last nodes n (slice_index_or marks index false)

-- ---- the least

-- where the ids in the callbacks of an argument rise, this is the least of its faults
abbrev pub IsLeastOfArgument : List PlainStored → Bool → List ℕ → List ℕ → List (List ℕ) → Argument → Option Fault
    → Type 0
IsLeastOfArgument stored last node name scope a least =
    IdsRiseIn (callbacks_in a) → IsLeastFault (OfArgument stored last node name scope a) least

-- The same of a node, whatever the nodes beside it are, where its two marks say whether they are all that it refers to,
-- and whether references lead back to it.
abbrev pub IsLeastOfNode : List PlainStored → Bool → List ℕ → List (List ℕ) → PlainNode → Bool → Bool → Option Fault
    → Type 0
IsLeastOfNode stored last name scope n is_known is_cyclic least =
    (nodes : Nodes) → IdsRiseIn (callbacks_named n.arguments) → is_known ≡ know_named (ids_of nodes) n.arguments
    → IsMark last nodes n is_cyclic → IsLeastFault (OfNode stored last name scope nodes n) least
