use Rattle.oe_dims.specs.declared.kind.Kind.TheVariants.{Time, Bands, Y, X}
use Rattle.oe_ops.specs.Needs.{HasLabelsOf}
use Rattle.oe_ops.specs.Spans.{IsLabelAt}
use Rattle.oe_ops.proofs.NeedLemmas.{empty_window_need, labels_all, labels_each, not_both, product_need, spans_some, spans_within}
use Rattle.oe_ops.proofs.needs.need_labels.Goals as goal

pub labels_in-requires-clause-within : goal.labels_in-requires-clause-within
labels_in-requires-clause-within c = (spans_within c.args.shape.now c.args.window.now c.requires.within (λ e. not_both _ (c.is_empty.ensures.1 e) c.if-is_empty.false)).t.to

pub labels_in-requires-2-clause-within : goal.labels_in-requires-2-clause-within
labels_in-requires-2-clause-within c = (spans_within c.args.shape.now c.args.window.now c.requires.within (λ e. not_both _ (c.is_empty.ensures.1 e) c.if-is_empty.false)).bands.to

pub labels_in-requires-3-clause-within : goal.labels_in-requires-3-clause-within
labels_in-requires-3-clause-within c = (spans_within c.args.shape.now c.args.window.now c.requires.within (λ e. not_both _ (c.is_empty.ensures.1 e) c.if-is_empty.false)).y.to

pub labels_in-requires-4-clause-within : goal.labels_in-requires-4-clause-within
labels_in-requires-4-clause-within c = (spans_within c.args.shape.now c.args.window.now c.requires.within (λ e. not_both _ (c.is_empty.ensures.1 e) c.if-is_empty.false)).x.to

pub returns-then-is_empty : goal.returns-then-is_empty
returns-then-is_empty c = empty_window_need _ c.args.window.now _ (c.is_empty.ensures.0 c.if-is_empty.true) c.zero.ensures

pub returns : goal.returns
returns c =
    let s = c.args.shape.now in
    let a = c.args.argument.now in
    product_need (IsLabelAt Time s a) (IsLabelAt Bands s a) (IsLabelAt Y s a) (IsLabelAt X s a) (HasLabelsOf s a) c.args.window.now
    c.labels_in.result c.labels_in-2.result c.labels_in-3.result c.labels_in-4.result
    (labels_each s a c.requires.valid) (labels_all s a) c.labels_in.ensures c.labels_in-2.ensures c.labels_in-3.ensures c.labels_in-4.ensures
    _ c.window_of.ensures.filled c.window_of.ensures.empty

pub labels_in-requires-clause-some : goal.labels_in-requires-clause-some
labels_in-requires-clause-some c = (spans_some c.args.window.now (λ e. not_both _ (c.is_empty.ensures.1 e) c.if-is_empty.false)).t

pub labels_in-requires-2-clause-some : goal.labels_in-requires-2-clause-some
labels_in-requires-2-clause-some c = (spans_some c.args.window.now (λ e. not_both _ (c.is_empty.ensures.1 e) c.if-is_empty.false)).bands

pub labels_in-requires-3-clause-some : goal.labels_in-requires-3-clause-some
labels_in-requires-3-clause-some c = (spans_some c.args.window.now (λ e. not_both _ (c.is_empty.ensures.1 e) c.if-is_empty.false)).y

pub labels_in-requires-4-clause-some : goal.labels_in-requires-4-clause-some
labels_in-requires-4-clause-some c = (spans_some c.args.window.now (λ e. not_both _ (c.is_empty.ensures.1 e) c.if-is_empty.false)).x
