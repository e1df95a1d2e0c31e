-- What a node calls: a process that a user has stored, or a row of the catalogue (openEO API, process graphs).
use Rattle.std.specs.Prelude.{◌≡◌, ℕ, Bool, true, false, ◌&&◌, ◌||◌, not, List, [], map, Option, Some, None, codes, is_some, option_map, find, if◌then◌else◌, Contains}
use Rattle.std.specs.List.{list_all}
use Rattle.std.specs.Option.{option_map_or, option_or}
use Rattle.oe_dims.specs.Names.{same_name}
use Rattle.oe_graph.specs.Catalogue.{Process, process_named, plain_parameter}
use Rattle.oe_graph.specs.References.{each_node, callbacks_named}
use Rattle.oe_graph.specs.Tree.{PlainGraph, PlainNode, PlainParameter, PlainStored}

-- "backend" means the catalogue alone, "user" the stored processes alone; null means both, and the stored ones first
abbrev pub means_stored : Option (List ℕ) → Bool
means_stored None = true
means_stored (Some namespace) = not (same_name namespace (codes "backend"))

abbrev pub means_catalogue : Option (List ℕ) → Bool
means_catalogue None = true
means_catalogue (Some namespace) = not (same_name namespace (codes "user"))

-- the stored process of an id
abbrev pub stored_named : List ℕ → List PlainStored → Option PlainStored
stored_named id stored = find (λ (s : PlainStored). same_name s.id id) stored

-- the stored process that a node with this namespace and process calls
abbrev pub callee : List PlainStored → Option (List ℕ) → List ℕ → Option PlainStored
callee stored namespace process_id = if means_stored namespace then stored_named process_id stored else None

-- the row of the catalogue that a node means where it calls no stored process
abbrev pub row_meant : Option (List ℕ) → List ℕ → Option Process
row_meant namespace process_id = if means_catalogue namespace then process_named process_id else None

-- ---- where a node may stand

-- whether the process of a node stands in the main graph, or in callbacks: a stored process may be called in both
abbrev pub stands_in : List PlainStored → Bool → PlainNode → Bool
stands_in stored in_callback n =
    is_some (callee stored n.namespace n.process_id)
    || option_map_or (λ (p : Process). if in_callback then p.in_callback else not p.in_callback)
    (row_meant n.namespace n.process_id) false

-- the node calls no stored process and means this row of the catalogue
abbrev pub means_row : List ℕ → List PlainStored → PlainNode → Bool
means_row id stored n =
    not (is_some (callee stored n.namespace n.process_id)) && (means_catalogue n.namespace && same_name n.process_id id)

-- a running sum, which stands in callbacks of `apply_dimension`, where nothing else stands, and nowhere else (rule of
-- this profile)
abbrev pub is_running_sum : List PlainStored → PlainNode → Bool
is_running_sum stored n = means_row (codes "cumsum") stored n

-- all nodes of a callback are running sums where it is one of `apply_dimension`, and none is where it is not
abbrev pub fits_callback : List PlainStored → Bool → PlainGraph → Bool
fits_callback stored of_dimension g =
    list_all (λ k. if of_dimension then is_running_sum stored k else not (is_running_sum stored k)) (each_node g.nodes)

-- the same of all callbacks of a node
abbrev pub holds_fitting : List PlainStored → PlainNode → Bool
holds_fitting stored n =
    list_all (fits_callback stored (means_row (codes "apply_dimension") stored n)) (callbacks_named n.arguments)

-- no running sum stands by itself in the stored process that a node calls
abbrev pub calls_fitting : List PlainStored → PlainNode → Bool
calls_fitting stored n =
    option_map_or (λ (s : PlainStored). fits_callback stored false s.graph)
    (callee stored n.namespace n.process_id) true

-- whether a node may stand in the main graph, or in a callback, and running sums in its callbacks and in what it calls
abbrev pub may_stand : List PlainStored → Bool → PlainNode → Bool
may_stand stored in_callback n =
    stands_in stored in_callback n && (holds_fitting stored n && calls_fitting stored n)

-- the parameters of the process of a node
abbrev pub parameters_of : List PlainStored → PlainNode → Option (List PlainParameter)
parameters_of stored n =
    option_or (option_map (λ (s : PlainStored). s.parameters) (callee stored n.namespace n.process_id))
    (option_map (λ (p : Process). map plain_parameter p.parameters) (row_meant n.namespace n.process_id))

-- the parameters that the callbacks of a node see; those of a stored process see none of its own
abbrev pub callback_parameters : List PlainStored → Option (List ℕ) → List ℕ → List (List ℕ)
callback_parameters stored namespace process_id =
    if is_some (callee stored namespace process_id) then [] else
    option_map_or (λ (p : Process). p.callback_parameters) (process_named process_id) []

-- ---- what calls lead to

-- a node holds itself and the nodes of its callbacks, at any depth
pub data HoldsNode : PlainNode → PlainNode → Type 0 where
  itself : {n : PlainNode} → HoldsNode n n
  by_callback : {n k m : PlainNode} {g : PlainGraph}
      → Contains (callbacks_named n.arguments) g → Contains (each_node g.nodes) k → HoldsNode k m → HoldsNode n m

-- a node that it holds calls a stored process
pub record Calls (stored : List PlainStored) (n : PlainNode) (called : PlainStored) : Type 0 where
  pub caller : PlainNode
  pub holds : HoldsNode n caller
  pub calls : callee stored caller.namespace caller.process_id ≡ Some called

-- a stored process reaches another: a node of it calls that one, or calls one that reaches it
pub data ReachesProcess (stored : List PlainStored) : PlainStored → PlainStored → Type 0 where
  calls : {s t : PlainStored} {n : PlainNode}
      → Contains (each_node s.graph.nodes) n → Calls stored n t → ReachesProcess stored s t
  onwards : {s t u : PlainStored} {n : PlainNode}
      → Contains (each_node s.graph.nodes) n → Calls stored n t → ReachesProcess stored t u → ReachesProcess stored s u

-- the calls of a node reach a stored process
pub data CallsReach (stored : List PlainStored) (n : PlainNode) (reached : PlainStored) : Type 0 where
  directly : Calls stored n reached → CallsReach stored n reached
  onwards : {called : PlainStored} → Calls stored n called → ReachesProcess stored called reached
      → CallsReach stored n reached

-- A node that stands in the main graph, or in a callback, brings nodes with it, each with whether that one stands in a
-- callback: itself, what the nodes of its callbacks bring, and what those of the process that it calls bring where it
-- stands.
pub data Brings (stored : List PlainStored) : Bool → PlainNode → Bool → PlainNode → Type 0 where
  itself : {in_callback : Bool} {n : PlainNode} → Brings stored in_callback n in_callback n
  by_callback : {in_callback inner : Bool} {n k m : PlainNode} {g : PlainGraph}
      → Contains (callbacks_named n.arguments) g → Contains (each_node g.nodes) k
      → Brings stored true k inner m → Brings stored in_callback n inner m
  by_call : {in_callback inner : Bool} {n k m : PlainNode} {called : PlainStored}
      → callee stored n.namespace n.process_id ≡ Some called → Contains (each_node called.graph.nodes) k
      → Brings stored in_callback k inner m → Brings stored in_callback n inner m
