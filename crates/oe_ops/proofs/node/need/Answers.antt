use Rattle.std.proofs.Common.{sym, subst}
use Rattle.oe_requests.specs.PlainRequests.{plain_operation}
use Rattle.oe_requests.specs.declared.operation.Operation.{Operation}
use Rattle.oe_ops.specs.Nodes.{IsConvolution}
use Rattle.oe_ops.proofs.NodeLemmas.{aggregate_needs, accumulate_needs, labels_needs, reach_needs, reduce_needs}
use Rattle.oe_ops.proofs.node.need.Goals as goal

pub need_pixels-requires : goal.need_pixels-requires
need_pixels-requires c =
    record { within = c.requires.argument_within (subst (λ (o : Operation). IsConvolution (plain_operation o)) (sym c.in-Convolve.is) tt) }

pub returns-in-Convolve : goal.returns-in-Convolve
returns-in-Convolve c = λ shapes number same is.
    reach_needs c.args.shape.now c.args.argument.now shapes number c.args.window.now c.need_pixels.result is c.args.operation.now _ _ _ _ c.in-Convolve.is c.need_pixels.ensures

pub returns-in-Reduce : goal.returns-in-Reduce
returns-in-Reduce c = λ shapes number same is.
    reduce_needs c.args.shape.now c.args.argument.now shapes number c.args.window.now c.need_beside.result is c.args.operation.now _ _ c.in-Reduce.is same c.need_beside.ensures

pub returns-in-Aggregate : goal.returns-in-Aggregate
returns-in-Aggregate c = λ shapes number same is.
    aggregate_needs c.args.shape.now c.args.argument.now shapes number c.args.window.now c.need_beside-in-Aggregate.result is c.args.operation.now _ _ c.in-Aggregate.is same c.need_beside-in-Aggregate.ensures

pub returns-in-Accumulate : goal.returns-in-Accumulate
returns-in-Accumulate c = λ shapes number same is.
    accumulate_needs c.args.shape.now c.args.argument.now shapes number c.args.window.now c.need_beside-in-Accumulate.result is c.args.operation.now _ c.in-Accumulate.is same c.need_beside-in-Accumulate.ensures

pub returns-in_default : goal.returns-in_default
returns-in_default c = λ shapes number same is.
    labels_needs c.args.shape.now c.args.argument.now shapes number c.args.window.now c.need_labels.result is c.args.operation.now
    c.in_default.not-Convolve c.in_default.not-Reduce c.in_default.not-Aggregate c.in_default.not-Accumulate same c.need_labels.ensures
