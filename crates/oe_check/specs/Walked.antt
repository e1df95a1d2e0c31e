-- How far the walk over the nodes of a graph has come.
use Rattle.std.specs.Prelude.{◌≡◌, ℕ, List, Option, Some, None, Contains, option_and_then}
use Rattle.std.specs.Arc.{arc_value}
use Rattle.oe_dims.specs.declared.dims.DimsRow.{DimsRow}
use Rattle.oe_graph.specs.Faults.{IsLeast}
use Rattle.oe_graph.specs.References.{each_node, references_named}
use Rattle.oe_graph.specs.Resolved.{IsResolved}
use Rattle.oe_graph.specs.States as graph
use Rattle.oe_graph.specs.States.{IsNodeAt, state_at}
use Rattle.oe_graph.specs.Tree.{Nodes, PlainNode}
use Rattle.oe_graph.specs.declared.fault.Fault.{Fault}
use Rattle.oe_graph.specs.declared.node_state.NodeState.{NodeState}
use Rattle.oe_graph.specs.declared.node_state.NodeState.TheVariants.{Sound}
use Rattle.oe_expr.specs.Nodes.{node_named}
use Rattle.oe_meanings.specs.Graphs.{outline_at, node_outline, operation_at}
use Rattle.oe_check.specs.Links.{loaded_collection}
use Rattle.oe_requests.specs.Operations.{Operation, Outline, operation_of}
use Rattle.oe_requests.specs.PlainRequests.{plain_operation}
use Rattle.oe_requests.specs.Requests.{CubeRequest, cube_request_at}
use Rattle.oe_meanings.specs.SoundNodes.{IsSoundOperation, IsSoundNode}
use Rattle.oe_meanings.specs.Stands.{cubes_of, HasNoFault, StandsHere, IsSound, StandsAt, StandsInGraph}
use Rattle.oe_check.specs.declared.checked.CheckedNode.{CheckedNode}
use Rattle.oe_check.specs.declared.walk.Verdict.{Verdict}
use Rattle.oe_check.specs.declared.walk.Verdict.TheVariants as verdict

-- the nodes are those of a resolved graph
pub record AreResolved (nodes : Nodes) : Type 0 where
  pub result : ℕ
  pub resolved : IsResolved (record { nodes = nodes; result = result })

-- the node is one of these
abbrev pub IsNodeOf : Nodes → PlainNode → Type 0
IsNodeOf nodes n = Contains (each_node nodes) n

-- what is known of a node
abbrev pub State : Type 0
State = NodeState CheckedNode

abbrev pub outline_kept : CheckedNode → Outline
outline_kept kept = record { shape = arc_value kept.shape; kind = kept.kind }

-- ---- one node, by the outlines of those that it refers to

-- the node of a name has no fault at or below it, and `at` has the outline of its cube
pub record IsKnown (nodes : Nodes) (states : List State) (at : List ℕ → Outline) (name : List ℕ) : Type 0 where
  pub index : ℕ
  pub node : PlainNode
  pub kept : CheckedNode
  pub is_node : IsNodeAt nodes index node
  pub is_named : node.id ≡ name
  pub state_is : state_at states index ≡ Sound kept
  pub outline_is : at name ≡ outline_kept kept

-- the nodes of these names are known so
abbrev pub AreNamesKnown : Nodes → List State → (List ℕ → Outline) → List (List ℕ) → Type 0
AreNamesKnown nodes states at names = (name : List ℕ) → Contains names name → IsKnown nodes states at name

-- all nodes that a node refers to are known so
abbrev pub AreKnown : Nodes → List State → (List ℕ → Outline) → PlainNode → Type 0
AreKnown nodes states at n = AreNamesKnown nodes states at (references_named n.arguments)

module _ (rows : List DimsRow) (at : List ℕ → Outline) (n : PlainNode) where
  -- no fault stands at the node, and this is its operation, with the collection that it loads and the outline of its
  -- cube
  pub record IsJudgedSound (kept : CheckedNode) : Type 0 where
    pub no_fault : HasNoFault rows at n
    pub operation_is :
        option_and_then (λ r. operation_of r (cubes_of rows at r)) (cube_request_at n)
        ≡ Some (plain_operation kept.operation)
    pub sound_operation :
        (r : CubeRequest) (operation : Operation) → cube_request_at n ≡ Some r → operation_of r (cubes_of rows at r)
        ≡ Some operation
        → IsSoundOperation operation (cubes_of rows at r)
    pub collection_is : loaded_collection n ≡ kept.collection
    pub outline_is : node_outline rows at n ≡ outline_kept kept

  -- or this is the least fault that stands at it or in its callback
  abbrev pub IsVerdict : Verdict → Type 0
  IsVerdict (verdict.Stands fault) = IsLeast (StandsHere rows at n) fault
  IsVerdict (verdict.Sound kept) = IsJudgedSound kept

-- ---- all nodes so far

module _ (rows : List DimsRow) (nodes : Nodes) where
  -- the node of a name has no fault at or below it, and this is kept of it
  pub record IsSoundOf (name : List ℕ) (kept : CheckedNode) : Type 0 where
    pub sound : IsSound rows nodes name
    pub sound_cells : IsSoundNode rows nodes name
    pub outline_is : outline_at rows nodes name ≡ outline_kept kept
    pub operation_is : (n : PlainNode) → node_named name nodes ≡ Some n
        → operation_at rows nodes n ≡ Some (plain_operation kept.operation)
    pub collection_is : (n : PlainNode) → node_named name nodes ≡ Some n → loaded_collection n ≡ kept.collection

  -- a fault stands at the node of a name or in its callback
  abbrev pub IsFaultAt : List ℕ → Fault → Type 0
  IsFaultAt name fault = StandsAt rows nodes name fault.code fault.node

  -- the states are right, and this is the least fault that was found
  abbrev pub IsWalked : List State → Option Fault → Type 0
  IsWalked states found = graph.IsWalked (IsSound rows nodes) IsSoundOf IsFaultAt nodes states found

  -- ---- all nodes

  -- each node has no fault at or below it, and this is kept of them
  abbrev pub AreSound : List State → Type 0
  AreSound states = graph.AreSound IsSoundOf nodes states

  -- the least fault where one stands
  abbrev pub IsChecked : List State → Option Fault → Type 0
  IsChecked states None = AreSound states
  IsChecked states (Some fault) = IsLeast (StandsInGraph rows nodes) fault
