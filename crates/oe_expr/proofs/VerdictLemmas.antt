-- What one node is, from the parts that are computed of it.
use Rattle.std.proofs.Common.{◌≡◌, List, Option, Some, None, Result, Ok, Err, option_map, refl, sym, ap, ◌∙◌, subst}
use Rattle.std.specs.Option.{option_and_then, option_map_or}
use Rattle.oe_cell.specs.declared.cell.Cell.{Cell}
use Rattle.oe_dims.specs.declared.kind.CellKind.{CellKind}
use Rattle.oe_graph.specs.Plain.{plain_node}
use Rattle.oe_graph.specs.Tree.{PlainNode}
use Rattle.oe_graph.specs.declared.code.Code.{Code}
use Rattle.oe_graph.specs.declared.code.Code.TheVariants.{ProcessParameterInvalid}
use Rattle.oe_graph.specs.declared.tree.Node.{Node}
use Rattle.oe_expr.specs.NodeKinds.{request_kind}
use Rattle.oe_expr.specs.PlainRequests.{plain_cell_request}
use Rattle.oe_expr.specs.Requests.{cell_request_at}
use Rattle.oe_expr.specs.Rows.{node_fault, request_fault}
use Rattle.oe_expr.specs.Scope.{PlainScope}
use Rattle.oe_expr.specs.States.{State, kind_named, fault_or_kind, judged_request}
use Rattle.oe_expr.specs.Walked.{IsJudgedSound, IsVerdict}
use Rattle.oe_expr.specs.declared.request.Request.{Request}
use Rattle.oe_expr.specs.declared.walk.Verdict.{Verdict}

ok_parts : (fault : Option Code) (given kind : Option CellKind) → fault_or_kind fault given ≡ Ok kind → (fault ≡ None) × (given ≡ kind)
ok_parts None given kind e = (refl, cc)
ok_parts (Some code) given kind e = absurd cc

err_part : (fault : Option Code) (given : Option CellKind) (code : Code) → fault_or_kind fault given ≡ Err code → fault ≡ Some code
err_part None given code e = absurd cc
err_part (Some own) given code e = let same : own ≡ code = cc in ap Some same

module _ (scope : PlainScope) (context : Cell) (nodes : List Node) (states : List State) (node : Node) where
  module _ (asked : Option Request) (request : Request) (read : option_map plain_cell_request asked ≡ cell_request_at (plain_node node))
      (some : asked ≡ Some request) (answer : Result (Option CellKind) Code)
      (judged : answer ≡ judged_request scope context (kind_named nodes states) (plain_cell_request request)) where
    asks : cell_request_at (plain_node node) ≡ Some (plain_cell_request request)
    asks = sym read ∙ ap (option_map plain_cell_request) some

    pub judged_sound : (kind : Option CellKind) → answer ≡ Ok kind → IsJudgedSound scope context nodes states (plain_node node) kind request
    judged_sound kind ok =
        let parts = ok_parts _ _ kind (sym judged ∙ ok) in
        record {
          no_fault = ap (λ o. option_map_or (request_fault scope context (kind_named nodes states)) o (Some ProcessParameterInvalid)) asks ∙ parts.0;
          asks = asks;
          kind_is = ap (option_and_then (request_kind scope context (kind_named nodes states))) asks ∙ parts.1;
        }

    pub judged_fault : (code : Code) → answer ≡ Err code → node_fault scope context (kind_named nodes states) (plain_node node) ≡ Some code
    judged_fault code err =
        ap (λ o. option_map_or (request_fault scope context (kind_named nodes states)) o (Some ProcessParameterInvalid)) asks
        ∙ err_part _ _ code (sym judged ∙ err)

-- the verdict by the names that the code has for what it is on
pub moved_verdict : (scope : PlainScope) (context : Cell) (n : PlainNode) (ns nodes : List Node) (ss states : List State) (v w : Verdict)
    → ns ≡ nodes → ss ≡ states → v ≡ w → IsVerdict scope context ns ss n v → IsVerdict scope context nodes states n w
moved_verdict scope context n ns nodes ss states v w a b c is =
    subst (IsVerdict scope context nodes states n) c
    (subst (λ s. IsVerdict scope context nodes s n v) b (subst (λ m. IsVerdict scope context m ss n v) a is))
