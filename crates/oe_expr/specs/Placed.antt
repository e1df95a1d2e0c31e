-- How far the nodes of a callback are compiled.
use Rattle.std.specs.Prelude.{◌≡◌, ℕ, ◌<◌, ◌≤◌, Bool, true, false, List, [], length, Some, Contains}
use Rattle.std.specs.List.{slice_get, slice_index_or}
use Rattle.oe_cell.specs.declared.cell.Cell.{Cell}
use Rattle.oe_graph.specs.Plain.{plain_nodes}
use Rattle.oe_graph.specs.States.{IsNodeAt}
use Rattle.oe_graph.specs.Tree.{PlainNode}
use Rattle.oe_graph.specs.declared.tree.Node.{Node}
use Rattle.oe_expr.specs.Callback.{Callback, callback_of}
use Rattle.oe_expr.specs.PlainRequests.{plain_cell_request}
use Rattle.oe_expr.specs.Places.{IsPlace, IsStarted, null, request_names}
use Rattle.oe_expr.specs.Scope.{PlainScope}
use Rattle.oe_expr.specs.States.{index_named}
use Rattle.oe_expr.specs.Value.{node_value_at}
use Rattle.oe_expr.specs.declared.program.Operand.{Operand}
use Rattle.oe_expr.specs.declared.program.Program.{Program}
use Rattle.oe_expr.specs.declared.walk.Judged.{Judged}

abbrev pub IsNeeded : List Bool → ℕ → Type 0
IsNeeded needed node = slice_index_or needed node false ≡ true

-- the entries from one on that are needed name no nodes but needed ones
abbrev pub AreMarked : List Node → List Judged → List Bool → ℕ → Type 0
AreMarked nodes order needed from =
    (j : ℕ) (entry : Judged) → from ≤ j → slice_get order j ≡ Some entry → IsNeeded needed entry.node
    → (name : List ℕ) → Contains (request_names (plain_cell_request entry.request)) name
    → (index : ℕ) → index_named nodes name ≡ Some index → IsNeeded needed index

-- there is a mark for each node, and a node that is needed names no nodes but needed ones
pub record AreNeededMarks (nodes : List Node) (order : List Judged) (needed : List Bool) : Type 0 where
  pub counted : length needed ≡ length nodes
  pub marked : AreMarked nodes order needed 0

-- nothing is compiled yet: there is a place for each node, and the program has no step
pub record IsUncompiled (scope : PlainScope) (nodes : List Node) (places : List Operand) (p : Program) : Type 0 where
  pub counted : length places ≡ length nodes
  pub started : IsStarted scope p
  pub none : p.steps.items ≡ []

-- the needed nodes among the entries before one have places with their values
abbrev pub AreNodesPlaced : Callback → List Node → List Judged → List Bool → List Operand → Program → ℕ → Type 0
AreNodesPlaced c nodes order needed places p end =
    (j : ℕ) (entry : Judged) (n : PlainNode) → j < end → slice_get order j ≡ Some entry
    → IsNodeAt (plain_nodes nodes) entry.node n → IsNeeded needed entry.node
    → IsPlace c p (λ e. node_value_at e c.graph.nodes n.id) (slice_index_or places entry.node null)

pub record IsCompiling (c : Callback) (nodes : List Node) (order : List Judged) (needed : List Bool)
    (places : List Operand) (p : Program) (end : ℕ) : Type 0 where
  pub started : IsStarted c.scope p
  pub few : length p.steps.items ≤ end
  pub long : length places ≡ length nodes
  pub placed : AreNodesPlaced c nodes order needed places p end

-- all entries are compiled, whichever node is the result
abbrev pub AreCompiled : PlainScope → Cell → List Node → List Judged → List Bool → List Operand → Program → Type 0
AreCompiled scope context nodes order needed places p =
    (index : ℕ) → IsCompiling (callback_of (record { nodes = plain_nodes nodes; result = index }) scope context)
    nodes order needed places p (length order)
