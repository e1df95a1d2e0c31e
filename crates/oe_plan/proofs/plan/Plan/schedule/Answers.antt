use Rattle.std.proofs.Common.{sym, subst}
use Rattle.oe_plan.specs.Plans.{PlanOf}
use Rattle.oe_plan.specs.Schedules.{IsSchedule}
use Rattle.oe_plan.proofs.ScheduleLemmas.{plan_schedule}
use Rattle.oe_plan.proofs.plan.Plan.schedule.Goals as goal

pub returns-clause-schedule : goal.returns-clause-schedule
returns-clause-schedule c =
    subst (λ (p : PlanOf). IsSchedule p.graph c.self.inside.schedule) c.self.view_is
    (subst (IsSchedule c.self.inside.checked) (sym c.self.invariant.schedule_is) (plan_schedule _ c.self.invariant.plan))
