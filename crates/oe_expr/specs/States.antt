-- What the check keeps of the nodes: the node of a name, its state, and its kind.
use Rattle.std.specs.Prelude.{ℕ, List, ◌∷◌, Option, Some, None, Result, Ok, Err, Bool, if◌then◌else◌}
use Rattle.std.specs.Option.{option_map_or}
use Rattle.oe_cell.specs.declared.cell.Cell.{Cell}
use Rattle.oe_dims.specs.Indices.{index_where}
use Rattle.oe_dims.specs.Names.{same_name}
use Rattle.oe_dims.specs.declared.kind.CellKind.{CellKind}
use Rattle.oe_fold.specs.declared.reducer.Reducer.{Reducer}
use Rattle.oe_graph.specs.declared.code.Code.{Code}
use Rattle.oe_graph.specs.declared.code.Code.TheVariants.{CellKindInvalid}
use Rattle.oe_graph.specs.States.{state_at}
use Rattle.oe_graph.specs.declared.node_state.NodeState.{NodeState}
use Rattle.oe_graph.specs.declared.node_state.NodeState.TheVariants.{Unseen, Faulty, Sound}
use Rattle.oe_graph.specs.declared.tree.Node.{Node}
use Rattle.oe_expr.specs.Kinds.{are_mixed, kind_among}
use Rattle.oe_expr.specs.NodeKinds.{request_kind}
use Rattle.oe_expr.specs.Operations.{reducer_gives, reducer_takes}
use Rattle.oe_expr.specs.Requests.{CellRequest}
use Rattle.oe_expr.specs.Rows.{request_fault}
use Rattle.oe_expr.specs.Scope.{PlainScope}

-- what is known of a node: of a sound one, the kind that it gives
abbrev pub State : Type 0
State = NodeState (Option CellKind)

abbrev pub index_named : List Node → List ℕ → Option ℕ
index_named nodes name = index_where (λ (n : Node). same_name n.id name) nodes

abbrev pub state_named : List Node → List State → List ℕ → State
state_named nodes states name = option_map_or (λ k. state_at states k) (index_named nodes name) Unseen

abbrev pub kept_kind : State → Option CellKind
kept_kind Unseen = None
kept_kind Faulty = None
kept_kind (Sound kind) = kind

abbrev pub kind_named : List Node → List State → List ℕ → Option CellKind
kind_named nodes states name = kept_kind (state_named nodes states name)

-- the first row that holds at a node, and else its kind
abbrev pub fault_or_kind : Option Code → Option CellKind → Result (Option CellKind) Code
fault_or_kind None kind = Ok kind
fault_or_kind (Some code) kind = Err code

abbrev pub judged_request : PlainScope → Cell → (List ℕ → Option CellKind) → CellRequest → Result (Option CellKind) Code
judged_request scope context at request =
    fault_or_kind (request_fault scope context at request) (request_kind scope context at request)

-- the kind, unless cells that are to be of one kind are of both
abbrev pub kind_unless : Bool → Option CellKind → Result (Option CellKind) Code
kind_unless mixed kind = if mixed then Err CellKindInvalid else Ok kind

-- of a reduction of items of these kinds: the kind that it gives, unless they are not of the one kind that it takes
abbrev pub judged_reduction : Reducer → List (Option CellKind) → Result (Option CellKind) Code
judged_reduction reducer kinds =
    kind_unless (are_mixed (reducer_takes reducer ∷ kinds)) (kind_among (reducer_gives reducer ∷ kinds))
