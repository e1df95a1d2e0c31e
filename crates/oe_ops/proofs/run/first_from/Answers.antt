use Rattle.std.proofs.Common.{◌+◌, ◌≤◌, length, sym, ap, ◌∙◌, arith}
use Rattle.std.specs.List.{slice_range}
use Rattle.oe_dims.specs.Dimensions.{number_labels}
use Rattle.oe_ops.proofs.RunLemmas.{extent_within, run_index}
use Rattle.oe_ops.proofs.run.first_from.Goals as goal

pub overflow_add-from : goal.overflow_add-from
overflow_add-from c =
    let most = extent_within c.args.along c.args.shape.now c.labels-labels.ensures.valid in
    omega (arith, most, c.requires.inside)

pub returns-then-are_same : goal.returns-then-are_same
returns-then-are_same c = λ k lt.
    let along = c.args.along in
    let from = c.args.from in
    let count = c.args.count in
    let mine = c.labels-labels.ensures.value in
    let its = c.labels-others.ensures.value in
    let ends : from + count ≤ length (number_labels c.args.shape.now along) = omega (arith, c.if-labels-from.false, ap length mine) in
    let others_end : c.in_ok-first.first + count ≤ length (number_labels c.args.argument.now along) = omega (arith, c.if-others-first.false, ap length its) in
    let equal = c.are_same.ensures.0 c.if-are_same.true in
    run_index along c.args.shape.now c.args.argument.now from c.in_ok-first.first count k c.labels-others.ensures.valid ends others_end
    (ap (λ l. slice_range l from (from + count)) (sym mine) ∙ equal ∙ ap (λ l. slice_range l c.in_ok-first.first (c.in_ok-first.first + count)) its) lt
