use Rattle.std.proofs.Common.{◌≡◌, ◌∙◌, sym, ap, subst, refl, Some}
use Rattle.std.specs.Prelude.{codes}
use Rattle.std.specs.Option.{option_and_then}
use Rattle.oe_meanings.specs.Stands.{callback_in}
use Rattle.oe_graph.specs.Form.{callback_name}
use Rattle.oe_graph.specs.Read.{IsFault}
use Rattle.oe_expr.specs.Callback.{StandsInCallbackAt}
use Rattle.oe_expr.specs.Scope as scope
use Rattle.oe_meanings.specs.Callbacks.{IsBuilt}
use Rattle.oe_requests.specs.Operations as spec
use Rattle.oe_requests.specs.PlainRequests.{plain_called}
use Rattle.oe_requests.specs.Requests as request
use Rattle.oe_requests.specs.declared.operation.Operation.TheVariants.{Reduce}
use Rattle.oe_meanings.proofs.CallbackLemmas.{built_by, refused_by, reduces}
use Rattle.oe_meanings.proofs.operation_request.reduction_for.Goals as goal

pub returns-in_err-callback-in-Some : goal.returns-in_err-callback-in-Some
returns-in_err-callback-in-Some c = λ data_id.
    let called = plain_called c.args.reducer.now in
    let one : spec.Outline = record { shape = c.args.shape.now; kind = c.args.kind } in
    let along = c.in-Some.along in
    let e = c.in_err-callback-in-Some in
    let path = callback_name c.args.id.now (codes "reducer") in
    let refused : IsFault (StandsInCallbackAt (spec.callback_under (spec.reduction_scope along one) called) path) e.field-0.0 =
    subst (λ s. IsFault (StandsInCallbackAt (spec.callback_under s called) path) e.field-0.0) c.in_ok-scope-in-Some.ensures.value e.ensures.refused in
    refused_by c.args.id.now (request.reduce_dimension data_id c.args.dimension.now called) one (codes "reducer")
    (spec.callback_under (spec.reduction_scope along one) called)
    (λ others. ap (option_and_then callback_in) (reduces data_id c.args.dimension.now called one along (sym c.in-Some.ensures) others))
    e.field-0.0 refused c.from_residual-in_err-callback-in-Some.result c.from_residual-in_err-callback-in-Some.ensures.1

pub returns-in_ok-callback-in-Some : goal.returns-in_ok-callback-in-Some
returns-in_ok-callback-in-Some c = λ data_id.
    let called = plain_called c.args.reducer.now in
    let one : spec.Outline = record { shape = c.args.shape.now; kind = c.args.kind } in
    let along = c.in-Some.along in
    let k = c.in_ok-callback-in-Some in
    let same : spec.callback_under (spec.reduction_scope along one) called ≡ k.callback =
    sym (k.ensures.built ∙ ap (λ s. spec.callback_under s called) c.in_ok-scope-in-Some.ensures.value) in
    built_by c.args.id.now (request.reduce_dimension data_id c.args.dimension.now called) one
    (Reduce along k.callback) (codes "reducer") k.callback
    (λ others. reduces data_id c.args.dimension.now called one along (sym c.in-Some.ensures) others ∙ ap (λ x. Some (spec.reduce along x)) same)
    refl k.ensures.faultless
