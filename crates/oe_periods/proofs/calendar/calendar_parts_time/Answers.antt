use Rattle.oe_periods.proofs.PartLemmas.{part_time}
use Rattle.oe_periods.proofs.calendar.calendar_parts_time.Goals as goal

pub returns : goal.returns
returns c = part_time
