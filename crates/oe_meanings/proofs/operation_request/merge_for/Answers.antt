use Rattle.std.proofs.Common.{sym, ap, subst, refl, Some, Option, Ok}
use Rattle.std.specs.Prelude.{codes}
use Rattle.std.specs.Option.{option_map}
use Rattle.oe_graph.specs.Form.{callback_name}
use Rattle.oe_graph.specs.Read.{IsFault}
use Rattle.oe_expr.specs.Callback.{StandsInCallbackAt}
use Rattle.oe_expr.specs.Scope as scope
use Rattle.oe_meanings.specs.Callbacks.{IsBuilt}
use Rattle.oe_requests.specs.Operations as spec
use Rattle.oe_requests.specs.PlainRequests.{plain_called}
use Rattle.oe_requests.specs.Requests as request
use Rattle.oe_requests.specs.declared.operation.Operation.TheVariants.{Merge}
use Rattle.oe_meanings.proofs.CallbackLemmas.{built_by, refused_by}
use Rattle.oe_meanings.proofs.operation_request.merge_for.Goals as goal

pub returns-in_err-callback-in-Some : goal.returns-in_err-callback-in-Some
returns-in_err-callback-in-Some c = λ one two shape.
    let called = plain_called c.in-Some.called in
    let outline : spec.Outline = record { shape = shape; kind = c.args.kind } in
    let e = c.in_err-callback-in-Some in
    subst (λ o. IsBuilt c.args.id.now (request.merge_cubes one two (option_map plain_called o)) outline c.from_residual.result) (sym c.in-Some.is)
    (refused_by c.args.id.now (request.merge_cubes one two (Some called)) outline (codes "overlap_resolver")
    (spec.callback_under (scope.merge c.args.kind) called) (λ others. refl)
    e.field-0.0 e.ensures.refused c.from_residual.result c.from_residual.ensures.1)

pub returns-in_ok-callback-in-Some : goal.returns-in_ok-callback-in-Some
returns-in_ok-callback-in-Some c = λ one two shape.
    let called = plain_called c.in-Some.called in
    let outline : spec.Outline = record { shape = shape; kind = c.args.kind } in
    let k = c.in_ok-callback-in-Some in
    subst (λ o. IsBuilt c.args.id.now (request.merge_cubes one two (option_map plain_called o)) outline (Ok (Some (Merge (Some k.callback))))) (sym c.in-Some.is)
    (built_by c.args.id.now (request.merge_cubes one two (Some called)) outline (Merge (Some k.callback)) (codes "overlap_resolver") k.callback
    (λ others. ap (λ x. Some (spec.merge (Some x))) (sym k.ensures.built)) refl k.ensures.faultless)
