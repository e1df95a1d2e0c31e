-- What holds of a plan's graph and schedule holds of what they are read as, and the other way round.
use Rattle.std.proofs.Common.{◌≡◌, sym, subst}
use Rattle.oe_plan.specs.Plans.{PlanOf, schedule_of}
use Rattle.oe_plan.specs.Schedules.{ScheduleOf}
use Rattle.oe_check.specs.Checked.{CheckedGraph}

module _ (P : CheckedGraph → ScheduleOf → Type 0) (p : PlanOf) (graph : CheckedGraph) (schedule : ScheduleOf) (same : graph ≡ p.graph)
    (is : schedule ≡ schedule_of p) where
  pub of_plan : P graph schedule → P p.graph (schedule_of p)
  of_plan h = subst (P p.graph) is (subst (λ g. P g schedule) same h)

  pub as_read : P p.graph (schedule_of p) → P graph schedule
  as_read h = subst (λ g. P g schedule) (sym same) (subst (P p.graph) (sym is) h)
