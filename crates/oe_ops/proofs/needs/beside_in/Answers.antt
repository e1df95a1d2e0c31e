use Rattle.std.proofs.Common.{◌∙◌, Bool, true, false, subst, sym}
use Rattle.oe_window.specs.Windows.{extent_along}
use Rattle.oe_ops.specs.Spans.{IsAnyOf, IsBeside, IsLabelAt, IsSpanOf}
use Rattle.oe_ops.proofs.SpanLemmas.{span_same}
use Rattle.oe_ops.proofs.needs.beside_in.Goals as goal

pub returns-then-is_same : goal.returns-then-is_same
returns-then-is_same c =
    let s = c.args.shape.now in
    let a = c.args.argument.now in
    subst (λ (b : Bool). IsSpanOf (IsBeside b c.args.along s a) c.args.span c.all_of.result) (sym (sym c.is_same.ensures ∙ c.if-is_same.true))
    (span_same (IsAnyOf (extent_along a c.args.along)) (IsBeside true c.args.along s a) c.args.span c.all_of.result (λ i j h. h) (λ i j h. h) c.all_of.ensures)

pub returns-else-is_same : goal.returns-else-is_same
returns-else-is_same c =
    let s = c.args.shape.now in
    let a = c.args.argument.now in
    subst (λ (b : Bool). IsSpanOf (IsBeside b c.args.along s a) c.args.span c.labels_in.result) (sym (sym c.is_same.ensures ∙ c.if-is_same.false))
    (span_same (IsLabelAt c.args.along s a) (IsBeside false c.args.along s a) c.args.span c.labels_in.result (λ i j h. h) (λ i j h. h) c.labels_in.ensures)
