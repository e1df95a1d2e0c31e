use Rattle.std.proofs.Common.{sym, ap, refl, Some}
use Rattle.std.specs.Prelude.{codes}
use Rattle.oe_graph.specs.Form.{callback_name}
use Rattle.oe_graph.specs.Read.{IsFault}
use Rattle.oe_expr.specs.Callback.{StandsInCallbackAt}
use Rattle.oe_expr.specs.Scope as scope
use Rattle.oe_meanings.specs.Callbacks.{IsBuilt}
use Rattle.oe_requests.specs.Operations as spec
use Rattle.oe_requests.specs.PlainRequests.{plain_called}
use Rattle.oe_requests.specs.Requests as request
use Rattle.oe_requests.specs.declared.operation.Operation.TheVariants.{EachCell}
use Rattle.oe_meanings.proofs.CallbackLemmas.{built_by, refused_by}
use Rattle.oe_meanings.proofs.operation_request.apply_for.Goals as goal

pub returns-in_err-callback : goal.returns-in_err-callback
returns-in_err-callback c = λ data_id shape.
    let called = plain_called c.args.process.now in
    refused_by c.args.id.now (request.apply data_id called) (record { shape = shape; kind = c.args.kind }) (codes "process")
    (spec.callback_under (scope.apply c.args.kind) called) (λ others. refl)
    c.in_err-callback.field-0.0 c.in_err-callback.ensures.refused c.from_residual.result c.from_residual.ensures.1

pub returns : goal.returns
returns c = λ data_id shape.
    let callback = c.in_ok-callback.callback in
    built_by c.args.id.now (request.apply data_id (plain_called c.args.process.now)) (record { shape = shape; kind = c.args.kind })
    (EachCell callback) (codes "process") callback
    (λ others. ap (λ x. Some (spec.each_cell x)) (sym c.in_ok-callback.ensures.built)) refl c.in_ok-callback.ensures.faultless
