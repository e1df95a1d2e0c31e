use Rattle.std.proofs.Common.{ℕ, sym, ap, subst, arith}
use Rattle.std.proofs.lemmas.Grind.{elements}
use Rattle.oe_window.specs.Chunks.{FitsSides, tiling_of}
use Rattle.oe_window.specs.Windows.{Holds, whole_window}
use Rattle.oe_plan.specs.Figures.{shape_of_node}
use Rattle.oe_plan.specs.Plans.{PlanOf}
use Rattle.oe_plan.specs.Schedules.{ScheduleOf}
use Rattle.oe_plan.specs.Windows.{AreWindows}
use Rattle.oe_plan.proofs.plan.Plan.windows_of.Goals as goal

pub windows_of-requires-clause-within : goal.windows_of-requires-clause-within
windows_of-requires-clause-within c =
    let last = ap (λ (s : ScheduleOf). s.last) c.self.invariant.schedule_is in
    subst (λ (n : ℕ). Holds (whole_window (shape_of_node c.self.inside.checked n)) c.args.chunk.now) (sym last)
    (subst (λ (p : PlanOf). Holds (whole_window (shape_of_node p.graph p.graph.result)) c.args.chunk.now) (sym c.self.view_is) c.requires.inside)

pub returns-clause-windows : goal.returns-clause-windows
returns-clause-windows c =
    let last = ap (λ (s : ScheduleOf). s.last) c.self.invariant.schedule_is in
    let graph = c.self.inside.checked in
    let size = c.self.inside.size in
    let chunk = c.args.chunk.now in
    let sides = subst (λ (p : PlanOf). FitsSides (tiling_of (shape_of_node p.graph p.graph.result) p.size) chunk) (sym c.self.view_is) c.requires.sides in
    let windows = c.windows_of.ensures size (subst (λ (n : ℕ). FitsSides (tiling_of (shape_of_node graph n) size) chunk) (sym last) sides) in
    subst (λ (p : PlanOf). AreWindows p.graph p.size chunk c.windows_of.new.windows) c.self.view_is
    (subst (λ (n : ℕ). AreWindows (record graph { result = n }) size chunk c.windows_of.new.windows) last windows)

pub windows_of-requires-clause-order : goal.windows_of-requires-clause-order
windows_of-requires-clause-order c = grind (arith, elements) steps 2000000
