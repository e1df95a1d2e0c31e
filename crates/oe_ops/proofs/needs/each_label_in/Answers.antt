use Rattle.std.proofs.Common.{◌≡◌, arith, subst, sym}
use Rattle.oe_window.specs.declared.window.Span.{Span}
use Rattle.oe_ops.specs.Indices.{index_in_argument}
use Rattle.oe_ops.specs.Spans.{IsLabelAt, IsSpanOf}
use Rattle.oe_ops.proofs.SpanLemmas.{span_more, span_none}
use Rattle.oe_ops.proofs.needs.each_label_in.Goals as goal

pub loop-index-init : goal.loop-index-init
loop-index-init c = subst (λ (s : Span). IsSpanOf (IsLabelAt c.args.along c.args.shape.now c.args.argument.now) (record { from = c.args.span.from; to = c.args.span.from }) s) (sym c.no_index-found.ensures) (span_none _ _ (omega arith))

pub loop-index-preserved : goal.loop-index-preserved
loop-index-preserved c =
    rw c.with_label-found.ensures
    (span_more (IsLabelAt c.args.along c.args.shape.now c.args.argument.now) c.args.span.from c.loop-index.index (omega arith) (index_in_argument c.args.along c.args.shape.now c.args.argument.now c.loop-index.index) c.loop-index.found
    (λ j e. e) (λ j e. e) c.loop-index.invariant)

pub returns : goal.returns
returns c =
    let ended : c.loop-index.index ≡ c.args.span.to = omega (arith, c.requires.some) in
    subst (λ n. IsSpanOf (IsLabelAt c.args.along c.args.shape.now c.args.argument.now) (record { from = c.args.span.from; to = n }) c.loop-index.found) ended c.loop-index.invariant
