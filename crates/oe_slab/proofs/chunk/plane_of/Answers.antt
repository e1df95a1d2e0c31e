use Rattle.std.proofs.Common.{◌≡◌, ◌<◌, ℕ, List, length, refl, sym, ap, ◌∙◌, subst}
use Rattle.std.specs.Prelude.{Contains, slice_index}
use Rattle.oe_plan.specs.Figures.{shape_of_node, steps_of}
use Rattle.oe_plan.specs.Schedules.{ScheduleOf, part_of}
use Rattle.oe_plan.specs.Windows.{AreWindows}
use Rattle.oe_check.specs.Checked.{CheckedGraph}
use Rattle.oe_window.specs.Chunks.{FitsSides, tiling_of}
use Rattle.oe_window.specs.Windows.{Holds, whole_window}
use Rattle.oe_slab.proofs.BehindLemmas.{cut_few, fold_in_whole, whole_windows}
use Rattle.oe_slab.proofs.chunk.plane_of.Goals as goal

pub windows_of-requires-clause-within : goal.windows_of-requires-clause-within
windows_of-requires-clause-within c =
    let p = c.args.plan.now in
    let chunk = c.args.chunk.now in
    subst (λ (g : CheckedGraph). Holds (whole_window (shape_of_node g c.whole.result.now.last)) chunk) (sym c.checked.ensures.value)
    (subst (λ (s : ScheduleOf). Holds (whole_window (shape_of_node p.graph s.last)) chunk) (sym c.whole.ensures.value)
    (subst (λ (n : ℕ). Holds (whole_window (shape_of_node p.graph n)) chunk) (sym c.whole.ensures.valid.schedules.whole_last)
    c.requires.chunk.inside))

pub step_in-requires : goal.step_in-requires
step_in-requires c =
    let p = c.args.plan.now in
    subst (λ (s : ScheduleOf). Contains s.order.steps c.fold.result) (sym c.whole-2.ensures.value)
    (subst (λ (n : ℕ). Contains p.whole.order.steps n) (sym c.fold.ensures) (fold_in_whole p c.whole.ensures.valid))

pub returns-clause-plane : goal.returns-clause-plane
returns-clause-plane c =
    let p = c.args.plan.now in
    let chunk = c.args.chunk.now in
    let is = c.whole.ensures.valid in
    let w = c.windows_of.new.windows in
    let step = c.step_in.result in
    let sides = subst (λ (g : CheckedGraph). FitsSides (tiling_of (shape_of_node g c.whole.result.now.last) p.size) chunk) (sym c.checked.ensures.value)
    (subst (λ (s : ScheduleOf). FitsSides (tiling_of (shape_of_node p.graph s.last) p.size) chunk) (sym c.whole.ensures.value)
    (subst (λ (n : ℕ). FitsSides (tiling_of (shape_of_node p.graph n) p.size) chunk) (sym is.schedules.whole_last)
    c.requires.chunk.sides)) in
    let steps_are : c.whole-2.result.now.order.steps ≡ steps_of p.graph =
    ap (λ (s : ScheduleOf). s.order.steps) c.whole-2.ensures.value ∙ is.schedules.whole_steps in
    record {
      windows_are = whole_windows p is chunk w
          (subst (λ (s : ScheduleOf). AreWindows (part_of p.graph s) p.size chunk w) c.whole.ensures.value
          (subst (λ (g : CheckedGraph). AreWindows (part_of g c.whole.result.now) p.size chunk w) c.checked.ensures.value
          (c.windows_of.ensures p.size sides)));
      plane_is = (
        step,
        subst (λ (xs : List ℕ). step < length xs) steps_are c.step_in.ensures.within,
        subst (λ (xs : List ℕ). slice_index xs step ≡ p.fold) steps_are (c.step_in.ensures.is ∙ c.fold.ensures),
        refl,
      );
    }

pub returns-clause-few : goal.returns-clause-few
returns-clause-few c =
    let plane = returns-clause-plane c in
    cut_few c.args.plan.now c.whole.ensures.valid c.args.chunk.now _ c.windows_of.new.windows plane.windows_are plane.plane_is
