use Rattle.oe_ops.specs.Spans.{IsLabelAt, IsSpanOf}
use Rattle.oe_ops.proofs.needs.each_label_in.Given as goal

-- the least span for the indices so far
abbrev pub invariant-loop-index : goal.invariant-loop-index
invariant-loop-index l = IsSpanOf (IsLabelAt l.along l.shape l.argument) (record { from = l.fn.span.from; to = l.index }) l.found
