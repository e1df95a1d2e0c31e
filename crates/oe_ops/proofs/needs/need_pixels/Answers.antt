use Rattle.std.proofs.Common.{◌∷◌, [], false}
use Rattle.oe_dims.specs.Dimensions.{extent}
use Rattle.oe_kernel.specs.Kernels.{radius_of}
use Rattle.oe_requests.specs.Operations.{convolve}
use Rattle.oe_check.specs.Reach.{is_wrap}
use Rattle.oe_ops.specs.Needs.{Needs}
use Rattle.oe_ops.specs.Spans.{IsReached}
use Rattle.oe_ops.proofs.NeedLemmas.{empty_window_need, not_both, product_need, reach_all, reach_each, spans_some, spans_within}
use Rattle.oe_ops.proofs.needs.need_pixels.Goals as goal

pub near_in-requires-clause-within : goal.near_in-requires-clause-within
near_in-requires-clause-within c = rw c.extent.ensures.value (spans_within c.args.shape.now c.args.window.now c.requires.within (λ e. not_both _ (c.is_empty.ensures.1 e) c.if-is_empty.false)).t.to

pub near_in-requires-clause-some : goal.near_in-requires-clause-some
near_in-requires-clause-some c = (spans_some c.args.window.now (λ e. not_both _ (c.is_empty.ensures.1 e) c.if-is_empty.false)).t

pub near_in-requires-2-clause-within : goal.near_in-requires-2-clause-within
near_in-requires-2-clause-within c = rw c.extent-2.ensures.value (spans_within c.args.shape.now c.args.window.now c.requires.within (λ e. not_both _ (c.is_empty.ensures.1 e) c.if-is_empty.false)).bands.to

pub near_in-requires-2-clause-some : goal.near_in-requires-2-clause-some
near_in-requires-2-clause-some c = (spans_some c.args.window.now (λ e. not_both _ (c.is_empty.ensures.1 e) c.if-is_empty.false)).bands

pub near_in-requires-3-clause-within : goal.near_in-requires-3-clause-within
near_in-requires-3-clause-within c = rw c.extent-3.ensures.value (spans_within c.args.shape.now c.args.window.now c.requires.within (λ e. not_both _ (c.is_empty.ensures.1 e) c.if-is_empty.false)).y.to

pub near_in-requires-3-clause-some : goal.near_in-requires-3-clause-some
near_in-requires-3-clause-some c = (spans_some c.args.window.now (λ e. not_both _ (c.is_empty.ensures.1 e) c.if-is_empty.false)).y

pub near_in-requires-4-clause-within : goal.near_in-requires-4-clause-within
near_in-requires-4-clause-within c = rw c.extent-4.ensures.value (spans_within c.args.shape.now c.args.window.now c.requires.within (λ e. not_both _ (c.is_empty.ensures.1 e) c.if-is_empty.false)).x.to

pub near_in-requires-4-clause-some : goal.near_in-requires-4-clause-some
near_in-requires-4-clause-some c = (spans_some c.args.window.now (λ e. not_both _ (c.is_empty.ensures.1 e) c.if-is_empty.false)).x

pub returns-then-is_empty : goal.returns-then-is_empty
returns-then-is_empty c = λ factor replace. empty_window_need _ c.args.window.now _ (c.is_empty.ensures.0 c.if-is_empty.true) c.zero.ensures

pub returns : goal.returns
returns c = λ factor replace.
    let k = c.args.kernel.now in
    let b = c.args.border in
    let d = c.args.shape.now in
    product_need (IsReached false 0 (extent d.t)) (IsReached false 0 (extent d.bands)) (IsReached (is_wrap b) (radius_of k.height) (extent d.y)) (IsReached (is_wrap b) (radius_of k.width) (extent d.x)) (Needs (convolve k factor b replace) (d ∷ []) 0) c.args.window.now
    c.near_in.result c.near_in-2.result c.near_in-3.result c.near_in-4.result
    (λ p q h. reach_each k factor b replace d p q h) (λ p q h. reach_all k factor b replace d p q h)
    (rw (← c.extent.ensures.value) c.near_in.ensures)
    (rw (← c.extent-2.ensures.value) c.near_in-2.ensures)
    (rw (← c.is_wrap-wraps.ensures, ← c.extent-3.ensures.value, ← c.radius_y.ensures.value) c.near_in-3.ensures)
    (rw (← c.is_wrap-wraps.ensures, ← c.extent-4.ensures.value, ← c.radius_x.ensures.value) c.near_in-4.ensures)
    _ c.window_of.ensures.filled c.window_of.ensures.empty
