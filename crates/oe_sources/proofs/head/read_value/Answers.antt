use Rattle.serde_json.specs.View.{view}
use Rattle.oe_sources.proofs.OneHead.{no_widths}
use Rattle.oe_sources.proofs.head.read_value.Goals as goal

pub returns-in_default-3 : goal.returns-in_default-3
returns-in_default-3 c =
    no_widths c.args.version (view c.args.value.now) c.in-Some-2.shape c.section_count.result
    (rw c.in-Some-2.is at c.in_ok-shape.ensures) c.section_count.ensures (rw c.in_default-3.is at c.in_ok-widths.ensures)
