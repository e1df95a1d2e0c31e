use Rattle.std.proofs.Common.{sym, ap, ◌∙◌, subst}
use Rattle.oe_plan.specs.Figures.{shape_of_node}
use Rattle.oe_plan.specs.Schedules.{ScheduleOf}
use Rattle.oe_window.specs.Windows.{IsIn, whole_window}
use Rattle.oe_rows_graphs.proofs.windows.windows_for.Goals as goal

pub windows_of-requires-clause-within : goal.windows_of-requires-clause-within
windows_of-requires-clause-within g c p h =
    subst (λ n. IsIn (whole_window (shape_of_node c.args.checked.now n)) p)
    (sym (ap (λ (s : ScheduleOf). s.last) c.new-schedule.ensures ∙ c.result-2.ensures.value))
    (subst (λ w. IsIn w p)
    (c.whole.ensures.value ∙ ap whole_window (c.shape.ensures ∙ ap (shape_of_node c.args.checked.now) c.result.ensures.value))
    (c.holds.ensures.value.0 c.if-not-holds.false p h))
