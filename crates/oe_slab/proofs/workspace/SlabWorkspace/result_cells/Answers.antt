use Rattle.std.proofs.Common.{◌≡◌, ◌<◌, ◌∙◌, List, length, ap, subst, arith}
use Rattle.std.proofs.lemmas.Grind.{common_steps, moves}
use borrow.Author.Differences.{ints}
use Rattle.oe_plan.specs.Schedules.{ScheduleOf, node_at}
use Rattle.oe_steps.specs.Buffers.{lists_of}
use Rattle.oe_steps.specs.Steps.{buffer_cells_at}
use Rattle.oe_window.specs.declared.window.Window.{Window}
use Rattle.oe_slab.specs.Workspaces.{SlabWorkspaceOf}
use Rattle.oe_slab.proofs.ResultLemmas.{as_many}
use Rattle.oe_slab.proofs.workspace.SlabWorkspace.result_cells.Goals as goal

pub returns-clause-counted : goal.returns-clause-counted
returns-clause-counted c = λ chunk on.
    let p = c.args.plan.now in
    let i = c.self.inside in
    let at = c.step_of_last.result in
    let within : at < length p.behind.order.steps =
    subst (λ (s : ScheduleOf). at < length s.order.steps) c.behind-2.ensures.value c.step_of_last.ensures.within in
    let at_is : node_at p.behind at ≡ p.behind.last =
    subst (λ (s : ScheduleOf). node_at s at ≡ s.last) c.behind-2.ensures.value c.step_of_last.ensures.is in
    let front : c.front.result.now ≡ buffer_cells_at p.behind i.windows_behind.items (lists_of i.behind.items) at =
    c.front.ensures
    ∙ ap (λ (s : ScheduleOf). buffer_cells_at s c.deref.result.now (lists_of c.deref-2.result.now) at) c.behind.ensures.value
    ∙ ap (λ (w : List Window). buffer_cells_at p.behind w (lists_of c.deref-2.result.now) at) c.deref.ensures.value
    ∙ ap (λ bs. buffer_cells_at p.behind i.windows_behind.items (lists_of bs) at) c.deref-2.ensures.value in
    as_many p c.behind.ensures.valid c.args.self.now c.front.result.now at within at_is
    (subst (λ (w : SlabWorkspaceOf). c.front.result.now ≡ buffer_cells_at p.behind w.windows_behind w.behind at) c.self.view_is front)
    chunk c.requires.room on

pub returns-clause-are : goal.returns-clause-are
returns-clause-are c = grind (ints, arith, moves) steps 2000000

pub returns-clause-only : goal.returns-clause-only
returns-clause-only c = grind (arith, common_steps) steps 2000000
