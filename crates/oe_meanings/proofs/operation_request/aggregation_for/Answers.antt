use Rattle.std.proofs.Common.{◌≡◌, ◌∙◌, sym, ap, subst, refl, Some}
use Rattle.std.specs.Prelude.{codes}
use Rattle.oe_graph.specs.Form.{callback_name}
use Rattle.oe_graph.specs.Read.{IsFault}
use Rattle.oe_expr.specs.Callback.{StandsInCallbackAt}
use Rattle.oe_expr.specs.Scope as scope
use Rattle.oe_meanings.specs.Callbacks.{IsBuilt}
use Rattle.oe_requests.specs.Operations as spec
use Rattle.oe_requests.specs.PlainRequests.{plain_called}
use Rattle.oe_requests.specs.Requests as request
use Rattle.oe_requests.specs.declared.operation.Operation.TheVariants.{Aggregate}
use Rattle.oe_meanings.proofs.CallbackLemmas.{built_by, refused_by}
use Rattle.oe_meanings.proofs.operation_request.aggregation_for.Goals as goal

pub returns-in_err-callback : goal.returns-in_err-callback
returns-in_err-callback c = λ data_id name.
    let called = plain_called c.args.reducer.now in
    let one : spec.Outline = record { shape = c.args.shape.now; kind = c.args.kind } in
    let intervals = c.args.intervals.now.items in
    let e = c.in_err-callback in
    let path = callback_name c.args.id.now (codes "reducer") in
    let value = c.in_ok-scope.ensures.value ∙ ap (λ l. spec.interval_scope l one) c.deref.ensures.value in
    let refused : IsFault (StandsInCallbackAt (spec.callback_under (spec.interval_scope intervals one) called) path) e.field-0.0 =
    subst (λ s. IsFault (StandsInCallbackAt (spec.callback_under s called) path) e.field-0.0) value e.ensures.refused in
    refused_by c.args.id.now (request.aggregate_temporal data_id intervals name called) one (codes "reducer")
    (spec.callback_under (spec.interval_scope intervals one) called) (λ others. refl)
    e.field-0.0 refused c.from_residual-in_err-callback.result c.from_residual-in_err-callback.ensures.1

pub returns : goal.returns
returns c = λ data_id name.
    let called = plain_called c.args.reducer.now in
    let one : spec.Outline = record { shape = c.args.shape.now; kind = c.args.kind } in
    let intervals = c.args.intervals.now.items in
    let k = c.in_ok-callback in
    let value = c.in_ok-scope.ensures.value ∙ ap (λ l. spec.interval_scope l one) c.deref.ensures.value in
    let same : spec.callback_under (spec.interval_scope intervals one) called ≡ k.callback =
    sym (k.ensures.built ∙ ap (λ s. spec.callback_under s called) value) in
    built_by c.args.id.now (request.aggregate_temporal data_id intervals name called) one
    (Aggregate c.in_ok-intervals.intervals k.callback) (codes "reducer") k.callback
    (λ others. ap (λ l. Some (spec.aggregate l (spec.callback_under (spec.interval_scope intervals one) called))) (sym (c.in_ok-intervals.ensures ∙ c.in_ok-copies.ensures))
    ∙ ap (λ x. Some (spec.aggregate c.in_ok-intervals.intervals x)) same)
    refl k.ensures.faultless
