use Rattle.std.proofs.Common.{ap}
use Rattle.oe_graph.specs.Plain.{plain_graph}
use Rattle.oe_requests.specs.Operations as spec
use Rattle.oe_requests.specs.declared.operation.Operation.TheVariants.{Accumulate}
use Rattle.oe_meanings.proofs.CallbackLemmas.{built_sums, refused_sums}
use Rattle.oe_meanings.proofs.operation_request.sums_for.Goals as goal

pub returns-in_err-ignore : goal.returns-in_err-ignore
returns-in_err-ignore c = λ data_id one.
    refused_sums c.args.id.now data_id (plain_graph c.args.process.now) one c.in_err-ignore.field-0.0 c.in_err-ignore.ensures.refused
    c.from_residual.result c.from_residual.ensures.1

pub returns : goal.returns
returns c = λ data_id one.
    built_sums c.args.id.now data_id (plain_graph c.args.process.now) one (Accumulate c.in_ok-ignore.ignore)
    (ap spec.accumulate c.in_ok-ignore.ensures.value) c.in_ok-ignore.ensures.faultless
