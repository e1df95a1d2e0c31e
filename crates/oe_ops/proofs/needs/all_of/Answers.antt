use Rattle.oe_ops.proofs.SpanLemmas.{span_any}
use Rattle.oe_ops.proofs.needs.all_of.Goals as goal

pub returns : goal.returns
returns c = rw c.extent.ensures.value (span_any _ c.args.span c.requires)
