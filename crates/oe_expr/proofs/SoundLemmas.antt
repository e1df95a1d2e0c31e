-- Each sound node gives null, Over or a cell of its kind.
use Rattle.std.proofs.Common.{◌≡◌, ℕ, ◌∷◌, [], List, Bool, true, false, Option, Some, None, refl, Contains}
use Rattle.std.specs.Option.{option_map_or, option_and_then}
use Rattle.oe_cell.specs.declared.cell.Cell.{Cell}
use Rattle.oe_cell.specs.declared.cell.Cell.TheVariants.{Empty}
use Rattle.oe_graph.specs.References.{each_node, references_named, parameters_named, Leads}
use Rattle.oe_graph.specs.Tree.{Nodes, PlainNode}
use Rattle.oe_graph.specs.declared.code.Code.{Code}
use Rattle.oe_graph.specs.declared.code.Code.TheVariants.{ProcessParameterInvalid, ArrayElementParameterMissing, ArrayElementParameterConflict, ArrayElementNotAvailable, CellKindInvalid}
use Rattle.oe_expr.specs.Kinds.{FitsKind}
use Rattle.oe_expr.specs.NodeKinds.{kind_at, node_kind, request_kind}
use Rattle.oe_expr.specs.Nodes.{node_named}
use Rattle.oe_expr.specs.Requests.{CellRequest, cell_request_at}
use Rattle.oe_expr.specs.Rows.{first_row, request_fault, callback_cell_kind_invalid, parameter_missing, parameter_conflict, element_not_available}
use Rattle.oe_expr.specs.Scope.{PlainScope, Environment, IsEnvironmentOf}
use Rattle.oe_expr.specs.Stands.{IsSound, sound}
use Rattle.oe_expr.specs.Value.{node_value_at, node_value, request_value}
use Rattle.oe_expr.proofs.FitLemmas.{Sees, request_fits}
use Rattle.oe_expr.proofs.NodeLemmas.{node_is, unfolds}
use Rattle.oe_expr.proofs.RequestLemmas.{of_node_request, value_looks_down, kind_looks_down}

-- where no row holds, the last does not
last_row : (a b c d : Code) (p q r s : Bool) → first_row ((a, p) ∷ (b, q) ∷ (c, r) ∷ (d, s) ∷ []) ≡ None → s ≡ false
last_row a b c d true q r s e = absurd cc
last_row a b c d false true r s e = absurd cc
last_row a b c d false false true s e = absurd cc
last_row a b c d false false false true e = absurd cc
last_row a b c d false false false false e = refl

module _ (scope : PlainScope) (context : Cell) (nodes : Nodes) (acyclic : (id : List ℕ) → Leads nodes id id → ⊥) where
  -- the kind of a node unfolds, and so does its value
  pub kind_unfolds : (name : List ℕ) (n : PlainNode) → node_named name nodes ≡ Some n
      → kind_at scope context nodes name ≡ node_kind scope context (kind_at scope context nodes) n
  kind_unfolds name n is = unfolds nodes None (node_kind scope context) (kind_looks_down scope context) acyclic name n is

  module _ (e : Environment) where
    pub value_unfolds : (name : List ℕ) (n : PlainNode) → node_named name nodes ≡ Some n
        → node_value_at e nodes name ≡ node_value e (node_value_at e nodes) n
    value_unfolds name n is = unfolds nodes Empty (node_value e) (value_looks_down e) acyclic name n is

    module _ (fits : IsEnvironmentOf scope e) (same_context : e.context ≡ context)
        (sees : (n : PlainNode) → Contains (each_node nodes) n → (name : List ℕ) → Contains (parameters_named n.arguments) name → Sees scope name) where
      pub sound_fits : (name : List ℕ) → IsSound scope context nodes name → FitsKind (kind_at scope context nodes name) (node_value_at e nodes name)
      sound_fits name (sound {n = n} is below none) =
          rw (kind_unfolds name n is, value_unfolds name n is) (by (cell_request_at n) refl none (λ other h. sound_fits other (below other h)))
        where
          by : (o : Option CellRequest) → cell_request_at n ≡ o
              → option_map_or (request_fault scope context (kind_at scope context nodes)) o (Some ProcessParameterInvalid) ≡ None
              → ((other : List ℕ) → Contains (references_named n.arguments) other → FitsKind (kind_at scope context nodes other) (node_value_at e nodes other))
              → FitsKind (option_and_then (request_kind scope context (kind_at scope context nodes)) o) (option_map_or (request_value e (node_value_at e nodes)) o Empty)
          by None r none each = absurd cc
          by (Some request) r none each =
              request_fits scope context e fits same_context (kind_at scope context nodes) (node_value_at e nodes) request
              (of_node_request (λ id. FitsKind (kind_at scope context nodes id) (node_value_at e nodes id)) (Sees scope) n request r each (sees n (node_is nodes name n is).0))
              (last_row ArrayElementParameterMissing ArrayElementParameterConflict ArrayElementNotAvailable CellKindInvalid (parameter_missing request) (parameter_conflict request)
              (element_not_available scope request) (callback_cell_kind_invalid scope context (kind_at scope context nodes) request) none)
