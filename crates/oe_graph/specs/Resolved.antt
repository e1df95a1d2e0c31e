-- A graph is resolved where all its names lead somewhere: each node calls a process of the catalogue that stands in the
-- main graph or in callbacks, as it does itself, with exactly the arguments that the process has, and each reference
-- names a node or a parameter that is there. Where `cumsum` may stand among callbacks is judged where calls are.
use Rattle.std.specs.Prelude.{◌≡◌, ℕ, ◌<◌, ◌≤◌, ◌-◌, ◌^◌, Bool, true, false, List, [], ◌∷◌, ◌++◌, map, length, Option, Some, None, Contains}
use Rattle.std.specs.Option.{option_map_or}
use Rattle.oe_dims.specs.Names.{names_rise}
use Rattle.oe_graph.specs.Catalogue.{Parameter, Process, process_named}
use Rattle.oe_graph.specs.Printed.{ids_of, names_of, node_count}
use Rattle.oe_graph.specs.References.{each_node, references_named, parameters_named, callbacks_named, Leads}
use Rattle.oe_graph.specs.Tree.{Nodes, PlainGraph, PlainNode}

abbrev pub parameter_names : Process → List (List ℕ)
parameter_names process = map (λ (p : Parameter). p.name) process.parameters

-- one node, in the main graph or in a callback: the ids of its graph object and the parameters of its scope
pub record IsResolvedNode (in_callback : Bool) (scope ids : List (List ℕ)) (n : PlainNode) : Type 0 where
  pub names_rise : names_rise (names_of n.arguments) ≡ true
  -- its process may stand there, and has exactly its arguments as parameters
  pub process : Process
  pub is_process : process_named n.process_id ≡ Some process
  pub stands : process.in_callback ≡ in_callback
  pub has_each : (name : List ℕ) → Contains (parameter_names process) name → Contains (names_of n.arguments) name
  pub has_no_other : (name : List ℕ) → Contains (names_of n.arguments) name → Contains (parameter_names process) name
  -- its references name nodes beside it and parameters of the scope
  pub names_nodes : (id : List ℕ) → Contains (references_named n.arguments) id → Contains ids id
  pub names_parameters : (name : List ℕ) → Contains (parameters_named n.arguments) name → Contains scope name

-- the most nodes of a graph object: of a callback 64, of the main graph as many as an index tells apart
abbrev pub most_nodes : Bool → ℕ
most_nodes true = 64
most_nodes false = 2 ^ 32 - 1

-- one graph object, without what stands in its callbacks
pub record IsResolvedObject (in_callback : Bool) (scope : List (List ℕ)) (nodes : Nodes) (result : ℕ) : Type 0 where
  pub ids_rise : names_rise (ids_of nodes) ≡ true
  pub has_result : result < node_count nodes
  pub fits : node_count nodes ≤ most_nodes in_callback
  pub each : (n : PlainNode) → Contains (each_node nodes) n → IsResolvedNode in_callback scope (ids_of nodes) n
  pub acyclic : (id : List ℕ) → ¬ Leads nodes id id

-- the parameters that the callbacks of a node see: those of its process, and those that the node itself sees
abbrev pub scope_inside : PlainNode → List (List ℕ) → List (List ℕ)
scope_inside n scope = option_map_or (λ (p : Process). p.callback_parameters) (process_named n.process_id) [] ++ scope

-- A graph object stands within one, each with whether it is a callback's and with its scope: it is that one itself, or
-- stands within a callback in an argument of a node of it.
pub data IsScopedWithin (in_callback : Bool) (scope : List (List ℕ)) (nodes : Nodes) (result : ℕ)
    : Bool → List (List ℕ) → Nodes → ℕ → Type 0 where
  itself : IsScopedWithin in_callback scope nodes result in_callback scope nodes result
  inside :
      {outer_in_callback : Bool} {outer_scope : List (List ℕ)} {outer : Nodes} {outer_result : ℕ}
      {n : PlainNode} {g : PlainGraph}
      → Contains (each_node outer) n → Contains (callbacks_named n.arguments) g
      → IsScopedWithin in_callback scope nodes result true (scope_inside n outer_scope) g.nodes g.result
      → IsScopedWithin in_callback scope nodes result outer_in_callback outer_scope outer outer_result

-- a graph, or a callback under a scope, is resolved at any depth of its callbacks
abbrev pub IsResolvedUnder : Bool → List (List ℕ) → PlainGraph → Type 0
IsResolvedUnder in_callback scope g =
    (inner_in_callback : Bool) (inner_scope : List (List ℕ)) (nodes : Nodes) (result : ℕ)
    → IsScopedWithin inner_in_callback inner_scope nodes result in_callback scope g.nodes g.result
    → IsResolvedObject inner_in_callback inner_scope nodes result

-- the main graph, whose nodes see no parameter
abbrev pub IsResolved : PlainGraph → Type 0
IsResolved g = IsResolvedUnder false [] g
