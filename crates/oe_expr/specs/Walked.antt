-- How far the walk over the nodes of a callback has come.
use Rattle.std.specs.Prelude.{◌≡◌, ◌≢◌, ◌<◌, ℕ, true, List, length, Option, Some, None, Contains, AllPairs, slice_get}
use Rattle.oe_cell.specs.declared.cell.Cell.{Cell}
use Rattle.oe_dims.specs.declared.kind.CellKind.{CellKind}
use Rattle.oe_graph.specs.Faults.{IsLeast}
use Rattle.oe_graph.specs.Form as form
use Rattle.oe_graph.specs.Plain.{plain_nodes}
use Rattle.oe_graph.specs.References.{references_named}
use Rattle.oe_graph.specs.Resolved.{IsResolvedObject}
use Rattle.oe_graph.specs.States as graph
use Rattle.oe_graph.specs.States.{AreSeenBelow, state_at}
use Rattle.oe_graph.specs.Tree.{Nodes, PlainNode}
use Rattle.oe_graph.specs.declared.fault.Fault.{Fault}
use Rattle.oe_graph.specs.declared.node_state.NodeState.TheVariants.{Unseen, Sound}
use Rattle.oe_graph.specs.declared.tree.Node.{Node}
use Rattle.oe_expr.specs.NodeKinds.{kind_at, node_kind}
use Rattle.oe_expr.specs.Orders.{IsEntry, IsEntryOf, StandsBefore, HasEntry, IsWalkOrder}
use Rattle.oe_expr.specs.PlainRequests.{plain_cell_request}
use Rattle.oe_expr.specs.Requests.{cell_request_at}
use Rattle.oe_expr.specs.Rows.{node_fault}
use Rattle.oe_expr.specs.Scope.{PlainScope, scope_parameters}
use Rattle.oe_expr.specs.Stands.{IsSound, StandsAt, StandsOnPath}
use Rattle.oe_expr.specs.States.{State, kind_named}
use Rattle.oe_expr.specs.declared.request.Request.{Request}
use Rattle.oe_expr.specs.declared.walk.Judged.{Judged}
use Rattle.oe_expr.specs.declared.walk.Verdict.{Verdict}
use Rattle.oe_expr.specs.declared.walk.Verdict.TheVariants as verdict

-- the nodes are those of a resolved callback
pub record AreResolved (scope : PlainScope) (nodes : List Node) : Type 0 where
  pub result : ℕ
  pub resolved : IsResolvedObject true (scope_parameters scope) (plain_nodes nodes) result

-- ---- one node, whose references are sound

-- no row holds, and this is what the node asks for and its kind
pub record IsJudgedSound (scope : PlainScope) (context : Cell) (nodes : List Node) (states : List State) (n : PlainNode)
    (kind : Option CellKind) (request : Request) : Type 0 where
  pub no_fault : node_fault scope context (kind_named nodes states) n ≡ None
  pub asks : cell_request_at n ≡ Some (plain_cell_request request)
  pub kind_is : node_kind scope context (kind_named nodes states) n ≡ kind

-- or this is the first row that holds
abbrev pub IsVerdict : PlainScope → Cell → List Node → List State → PlainNode → Verdict → Type 0
IsVerdict scope context nodes states n (verdict.Stands code) =
    node_fault scope context (kind_named nodes states) n ≡ Some code
IsVerdict scope context nodes states n (verdict.Sound kind request) =
    IsJudgedSound scope context nodes states n kind request

-- ---- all nodes so far

-- the nodes with a state `Sound` have one entry each, which stands behind those of the nodes that it refers to
pub record ArePartOrder (nodes : Nodes) (states : List State) (order : List Judged) : Type 0 where
  pub each : (node : ℕ) (kind : Option CellKind) → state_at states node ≡ Sound kind → HasEntry order node
  pub seen : (k : ℕ) (entry : Judged) → slice_get order k ≡ Some entry → state_at states entry.node ≢ Unseen
  pub once : AllPairs (λ (a b : Judged). a.node ≢ b.node) order
  pub entry : (k : ℕ) (entry : Judged) → slice_get order k ≡ Some entry → IsEntry nodes entry
  pub behind :
      (k : ℕ) (entry : Judged) (n : PlainNode) (name : List ℕ)
      → slice_get order k ≡ Some entry → IsEntryOf nodes n entry → Contains (references_named n.arguments) name
      → StandsBefore nodes order k name

-- the walk comes to the node at an index: there is a state for each node, it has none yet, and those that it refers to
-- have theirs
pub record IsNext (nodes : List Node) (states : List State) (index : ℕ) : Type 0 where
  pub within : index < length nodes
  pub as_many : length states ≡ length nodes
  pub unseen : state_at states index ≡ Unseen
  pub below : AreSeenBelow (plain_nodes nodes) states index

module _ (scope : PlainScope) (context : Cell) (nodes : List Node) where
  -- the node of a name has no fault at or below it, and is of this kind
  pub record IsSoundOf (name : List ℕ) (kind : Option CellKind) : Type 0 where
    pub sound : IsSound scope context (plain_nodes nodes) name
    pub kind_is : kind_at scope context (plain_nodes nodes) name ≡ kind

  -- no fault stands: each node has its kind, and the entries are an order of evaluation
  pub record AreSound (states : List State) (order : List Judged) : Type 0 where
    pub order_is : IsWalkOrder (plain_nodes nodes) order
    pub each : graph.AreSound IsSoundOf (plain_nodes nodes) states

  module _ (path : List ℕ) where
    -- a fault stands at the node of an id
    abbrev pub IsFaultAt : List ℕ → Fault → Type 0
    IsFaultAt id fault =
        StandsAt scope context (plain_nodes nodes) id fault.code × (fault.node ≡ form.node_name path id)

    -- the states are right, this is the least fault that was found, and the sound nodes have their entries
    pub record IsWalked (states : List State) (order : List Judged) (found : Option Fault) : Type 0 where
      pub walked :
          graph.IsWalked (IsSound scope context (plain_nodes nodes)) IsSoundOf IsFaultAt (plain_nodes nodes)
          states found
      pub ordered : ArePartOrder (plain_nodes nodes) states order

    -- ---- all nodes

    -- the least fault where one stands
    abbrev pub IsChecked : List State → List Judged → Option Fault → Type 0
    IsChecked states order None = AreSound states order
    IsChecked states order (Some fault) = IsLeast (StandsOnPath scope context (plain_nodes nodes) path) fault
