use Rattle.oe_dims.specs.declared.kind.Kind.TheVariants.{Time, Bands, Y, X}
use Rattle.oe_check.specs.Reach.{same_kind}
use Rattle.oe_ops.specs.Needs.{HasLabelsBeside}
use Rattle.oe_ops.specs.Spans.{IsBeside}
use Rattle.oe_ops.proofs.NeedLemmas.{beside_all, beside_each, empty_window_need, not_both, product_need, spans_some, spans_within}
use Rattle.oe_ops.proofs.needs.need_beside.Goals as goal

pub beside_in-requires-clause-within : goal.beside_in-requires-clause-within
beside_in-requires-clause-within c = (spans_within c.args.shape.now c.args.window.now c.requires.within (λ e. not_both _ (c.is_empty.ensures.1 e) c.if-is_empty.false)).t.to

pub beside_in-requires-clause-some : goal.beside_in-requires-clause-some
beside_in-requires-clause-some c = (spans_some c.args.window.now (λ e. not_both _ (c.is_empty.ensures.1 e) c.if-is_empty.false)).t

pub beside_in-requires-2-clause-within : goal.beside_in-requires-2-clause-within
beside_in-requires-2-clause-within c = (spans_within c.args.shape.now c.args.window.now c.requires.within (λ e. not_both _ (c.is_empty.ensures.1 e) c.if-is_empty.false)).bands.to

pub beside_in-requires-2-clause-some : goal.beside_in-requires-2-clause-some
beside_in-requires-2-clause-some c = (spans_some c.args.window.now (λ e. not_both _ (c.is_empty.ensures.1 e) c.if-is_empty.false)).bands

pub beside_in-requires-3-clause-within : goal.beside_in-requires-3-clause-within
beside_in-requires-3-clause-within c = (spans_within c.args.shape.now c.args.window.now c.requires.within (λ e. not_both _ (c.is_empty.ensures.1 e) c.if-is_empty.false)).y.to

pub beside_in-requires-3-clause-some : goal.beside_in-requires-3-clause-some
beside_in-requires-3-clause-some c = (spans_some c.args.window.now (λ e. not_both _ (c.is_empty.ensures.1 e) c.if-is_empty.false)).y

pub beside_in-requires-4-clause-within : goal.beside_in-requires-4-clause-within
beside_in-requires-4-clause-within c = (spans_within c.args.shape.now c.args.window.now c.requires.within (λ e. not_both _ (c.is_empty.ensures.1 e) c.if-is_empty.false)).x.to

pub beside_in-requires-4-clause-some : goal.beside_in-requires-4-clause-some
beside_in-requires-4-clause-some c = (spans_some c.args.window.now (λ e. not_both _ (c.is_empty.ensures.1 e) c.if-is_empty.false)).x

pub returns-then-is_empty : goal.returns-then-is_empty
returns-then-is_empty c = empty_window_need _ c.args.window.now _ (c.is_empty.ensures.0 c.if-is_empty.true) c.zero.ensures

pub returns : goal.returns
returns c =
    let r = c.args.reduced in
    let s = c.args.shape.now in
    let a = c.args.argument.now in
    product_need (IsBeside (same_kind r Time) Time s a) (IsBeside (same_kind r Bands) Bands s a) (IsBeside (same_kind r Y) Y s a) (IsBeside (same_kind r X) X s a) (HasLabelsBeside r s a) c.args.window.now
    c.beside_in.result c.beside_in-2.result c.beside_in-3.result c.beside_in-4.result
    (λ p q h. beside_each s a c.requires.valid p q r h) (λ p q h. beside_all s a c.requires.valid p q r h) c.beside_in.ensures c.beside_in-2.ensures c.beside_in-3.ensures c.beside_in-4.ensures
    _ c.window_of.ensures.filled c.window_of.ensures.empty
