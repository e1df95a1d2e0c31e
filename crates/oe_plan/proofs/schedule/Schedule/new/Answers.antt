use Rattle.std.proofs.Common.{ℕ, Option, ap, ◌∙◌}
use Rattle.oe_order.specs.Live.{Steps}
use Rattle.oe_plan.specs.Schedules.{ScheduleOf}
use Rattle.oe_plan.proofs.schedule.Schedule.new.Goals as goal

abbrev of_width : Steps → ℕ → Option ℕ → ℕ → ℕ → ScheduleOf
of_width order last given largest width =
    record { last = last; given = given; order = record order { width = width }; largest = largest }

pub returns : goal.returns
returns c = c.with_width.ensures ∙ ap (of_width c.args.order c.args.last c.args.given c.args.largest) c.width-width.ensures
