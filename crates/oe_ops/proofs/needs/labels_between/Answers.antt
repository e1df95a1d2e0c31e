use Rattle.std.proofs.Common.{◌-◌, sym, ◌∙◌, arith}
use Rattle.oe_ops.proofs.IndexLemmas.{found_below}
use Rattle.oe_ops.proofs.OrderLemmas.{span_between}
use Rattle.oe_ops.proofs.needs.labels_between.Goals as goal

pub overflow_add-result : goal.overflow_add-result
overflow_add-result c =
    let below = found_below c.args.along c.args.shape.now c.args.argument.now (c.args.span.to - 1) c.in_ok-last.last c.requires.valid
    (sym c.in_ok-last.ensures.value) in
    omega (arith, below)

pub returns : goal.returns
returns c =
    span_between c.args.shape.now c.args.argument.now c.index_in.ensures.valid c.requires.valid c.args.along
    (sym c.is_same.ensures ∙ c.if-is_same.false) c.args.span c.requires.some c.in_ok-first.first c.in_ok-last.last
    (sym c.in_ok-first.ensures.value) (sym c.in_ok-last.ensures.value)
