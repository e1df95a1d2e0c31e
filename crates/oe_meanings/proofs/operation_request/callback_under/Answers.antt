use Rattle.std.proofs.Common.{List, ℕ, subst, ◌∙◌}
use Rattle.std.specs.Prelude.{IfErr}
use Rattle.oe_graph.specs.Read.{IsFault}
use Rattle.oe_expr.specs.Callback.{StandsInCallbackAt}
use Rattle.oe_expr.specs.Scope.{plain_scope}
use Rattle.oe_requests.specs.Operations as spec
use Rattle.oe_requests.specs.PlainRequests.{plain_called}
use Rattle.oe_meanings.proofs.operation_request.callback_under.Goals as goal

pub build-requires : goal.build-requires
build-requires c = record { resolved = c.requires.resolved.resolved; scope = c.requires.scope; context = c.requires.resolved.context }

pub returns-clause-refused : goal.returns-clause-refused
returns-clause-refused c =
    let callback = spec.callback_under (plain_scope c.args.scope.now) (plain_called c.args.called.now) in
    subst (λ (name : List ℕ). IfErr c.build.result (IsFault (StandsInCallbackAt callback name))) (c.as_str.ensures.value ∙ c.in_ok-name.ensures) c.build.ensures.refused
