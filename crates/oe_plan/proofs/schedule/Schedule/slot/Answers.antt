use Rattle.std.proofs.Common.{ap, arith}
use Rattle.oe_plan.specs.Schedules.{ScheduleOf}
use Rattle.oe_plan.proofs.schedule.Schedule.slot.Goals as goal

pub returns-clause-below : goal.returns-clause-below
returns-clause-below c =
    omega (arith, c.slot.ensures.below, c.self.invariant, ap (λ (s : ScheduleOf). s.order.width) c.self.view_is)
