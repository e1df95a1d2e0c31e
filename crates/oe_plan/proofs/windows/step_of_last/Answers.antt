use Rattle.std.proofs.Common.{refl}
use Rattle.oe_plan.specs.Schedules.{part_of}
use Rattle.oe_plan.proofs.WidenLemmas.{result_stands}
use Rattle.oe_plan.proofs.windows.step_of_last.Goals as goal

pub unreachable-requires : goal.unreachable-requires
unreachable-requires c =
    c.in-None.ensures.none.0 refl
    (result_stands (part_of c.args.checked.now c.args.schedule.now) c.args.schedule.now.order c.requires c.last.result c.last.ensures)
