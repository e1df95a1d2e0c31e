-- How far a walk over the nodes of a graph object has come, each behind those that it refers to: what is known of each
-- node, and the least fault that was found. When a node is sound, what is kept of it then, and which faults stand at it
-- is said by whose walk it is.
use Rattle.std.specs.Prelude.{◌≡◌, ◌≢◌, ℕ, ⊤, Bool, true, false, ◌&&◌, List, [], ◌∷◌, Option, Some, None, Contains, slice_get, slice_index_or}
use Rattle.oe_graph.specs.Faults.{IsLeastFault}
use Rattle.oe_graph.specs.Indices.{reference_graph}
use Rattle.oe_graph.specs.References.{each_node}
use Rattle.oe_graph.specs.Tree.{Nodes, PlainNode}
use Rattle.oe_graph.specs.declared.fault.Fault.{Fault}
use Rattle.oe_graph.specs.declared.node_state.NodeState.{NodeState}
use Rattle.oe_graph.specs.declared.node_state.NodeState.TheVariants.{Unseen, Faulty, Sound}
use Rattle.oe_order.specs.Graph.{arguments}

-- the node at an index
abbrev pub IsNodeAt : Nodes → ℕ → PlainNode → Type 0
IsNodeAt nodes index n = slice_get (each_node nodes) index ≡ Some n

-- ---- what is known of nodes

-- the state of the node at an index
abbrev pub state_at : {Kept : Type 0} → List (NodeState Kept) → ℕ → NodeState Kept
state_at states index = slice_index_or states index Unseen

-- there is no fault at or below a node that was judged
abbrev pub is_sound : {Kept : Type 0} → NodeState Kept → Bool
is_sound Unseen = false
is_sound Faulty = false
is_sound (Sound kept) = true

-- the nodes at these indices are sound
abbrev pub are_sound : {Kept : Type 0} → List (NodeState Kept) → List ℕ → Bool
are_sound states [] = true
are_sound states (index ∷ indices) = is_sound (state_at states index) && are_sound states indices

-- the state of the node of an id is right
abbrev pub IsState : {Kept : Type 0} → (List ℕ → Type 0) → (List ℕ → Kept → Type 0) → List ℕ → NodeState Kept → Type 0
IsState IsSound IsSoundOf id Unseen = ⊤
IsState IsSound IsSoundOf id Faulty = ¬ IsSound id
IsState IsSound IsSoundOf id (Sound kept) = IsSoundOf id kept

-- ---- all nodes so far

-- a fault stands at a node that was judged
pub record StandsSeen {Kept : Type 0} (Stands : List ℕ → Fault → Type 0) (nodes : Nodes)
    (states : List (NodeState Kept)) (fault : Fault) : Type 0 where
  pub index : ℕ
  pub node : PlainNode
  pub is_node : IsNodeAt nodes index node
  pub seen : state_at states index ≢ Unseen
  pub stands : Stands node.id fault

-- the state of each node is right, and this is the least fault that stands at one that was judged
pub record IsWalked {Kept : Type 0} (IsSound : List ℕ → Type 0) (IsSoundOf : List ℕ → Kept → Type 0)
    (Stands : List ℕ → Fault → Type 0) (nodes : Nodes) (states : List (NodeState Kept)) (found : Option Fault)
    : Type 0 where
  pub each :
      (index : ℕ) (n : PlainNode) → IsNodeAt nodes index n → IsState IsSound IsSoundOf n.id (state_at states index)
  pub least : IsLeastFault (StandsSeen Stands nodes states) found
  -- where no fault was found, no node has one at or below it
  pub all : found ≡ None → (index : ℕ) → state_at states index ≢ Faulty

-- each node is sound, and this is kept of it
abbrev pub AreSound : {Kept : Type 0} → (List ℕ → Kept → Type 0) → Nodes → List (NodeState Kept) → Type 0
AreSound {Kept} IsSoundOf nodes states =
    (index : ℕ) (n : PlainNode) → IsNodeAt nodes index n
    → (kept : Kept) × (slice_get states index ≡ Some (Sound kept)) × IsSoundOf n.id kept

-- ---- one step

-- each node that the node at an index refers to was judged
abbrev pub AreSeenBelow : {Kept : Type 0} → Nodes → List (NodeState Kept) → ℕ → Type 0
AreSeenBelow nodes states index =
    (k : ℕ) → Contains (arguments (reference_graph nodes) index) k → state_at states k ≢ Unseen

-- no other node's state changes, and that of this one is known then
pub record IsStep {Kept : Type 0} (index : ℕ) (before after : List (NodeState Kept)) : Type 0 where
  pub others : (k : ℕ) → k ≢ index → state_at after k ≡ state_at before k
  pub seen : state_at after index ≢ Unseen
