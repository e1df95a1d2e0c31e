use Rattle.oe_requests.proofs.IntervalLemmas.{uneven}
use Rattle.oe_requests.proofs.parameter_list.by_labels.Goals as goal

pub returns-then-extents-labels : goal.returns-then-extents-labels
returns-then-extents-labels c = uneven c.args.extents.now c.args.labels.now c.if-extents-labels.true
