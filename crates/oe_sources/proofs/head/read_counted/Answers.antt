use Rattle.serde_json.specs.View.{view}
use Rattle.oe_sources.proofs.OneHead.{counted_widths, other_count}
use Rattle.oe_sources.proofs.head.read_counted.Goals as goal

pub returns-then-values-count : goal.returns-then-values-count
returns-then-values-count c =
    counted_widths (λ v. v.items) (view c.args.value.now) c.in-Some.values.now c.args.count c.read_width_list.result
    c.in-Some.ensures c.if-values-count.true c.read_width_list.ensures

pub returns-else-values-count : goal.returns-else-values-count
returns-else-values-count c =
    other_count (view c.args.value.now) c.in-Some.values.now c.args.count c.in-Some.ensures c.if-values-count.false
