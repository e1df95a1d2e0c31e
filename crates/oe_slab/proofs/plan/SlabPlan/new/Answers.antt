use Rattle.std.proofs.Common.{◌≡◌, ◌≤◌, ◌∙◌, ℕ, ap, subst, arith}
use Rattle.oe_dims.specs.Dimensions.{Dimensions}
use Rattle.oe_plan.specs.Figures.{most_held_cells, shape_of_node}
use Rattle.oe_window.specs.Chunks.{tiling_of}
use Rattle.std.specs.Prelude.{IfSome, Option}
use Rattle.oe_slab.specs.Cuts.{IsTimeCut}
use Rattle.oe_slab.specs.Figures.{width_before, width_behind}
use Rattle.oe_slab.specs.declared.cut.TimeCut.{TimeCut}
use Rattle.oe_slab.specs.Plans.{IsSlabPlan}
use Rattle.oe_slab.proofs.plan.SlabPlan.new.Goals as goal

pub schedules_of-requires-clause-along : goal.schedules_of-requires-clause-along
schedules_of-requires-clause-along c = record {
  listing = c.in_ok-order.ensures.listing;
  evaluation = c.in_ok-order.ensures.evaluation;
  slotted = c.in_ok-order.ensures.slots;
}

pub invariant_of-result : goal.invariant_of-result
invariant_of-result c =
    let graph = c.args.checked in
    let size = c.args.size in
    let sizes = c.sizes_of-sizes.result in
    let cut = c.in-Some.cut in
    let schedules = c.in_ok-schedules.schedules in
    let plan : IsSlabPlan (record { graph = graph; size = size; fold = cut.fold; whole = schedules.whole; before = schedules.before; behind = schedules.behind }) = record {
      faultless = c.nodes-count.ensures.faultless;
      sides = c.requires;
      cut = subst (λ (o : Option TimeCut). IfSome o (λ cut. IsTimeCut graph cut.fold)) c.in-Some.is c.in_ok-cut.ensures.some;
      schedules = c.in_ok-schedules.ensures size c.sizes_of-sizes.ensures.slab c.sizes_of-sizes.ensures.plane;
      bounded = subst (λ (n : ℕ). n ≤ most_held_cells) c.bound_at-bound.ensures c.if-bound-gt67108864.false;
    } in
    record {
      plan = plan;
      before_is = subst (λ (o : Option TimeCut). IfSome o (λ cut. cut.width_before ≡ width_before graph cut.fold)) c.in-Some.is c.in_ok-cut.ensures.before;
      behind_is = subst (λ (o : Option TimeCut). IfSome o (λ cut. cut.width_behind ≡ width_behind graph cut.fold)) c.in-Some.is c.in_ok-cut.ensures.behind;
      plane_is = c.sizes_of-sizes.ensures.plane;
      slab_is = c.sizes_of-sizes.ensures.slab;
      scratch_is = c.sizes_of-sizes.ensures.scratch;
      plane_most = omega (arith, c.sizes_of-sizes.ensures.plane_most);
      slab_most = omega (arith, c.sizes_of-sizes.ensures.slab_most);
      bound_is = c.bound_at-bound.ensures;
      grid_is = c.new-grid.ensures.value
          ∙ ap (λ (d : Dimensions). tiling_of d size) (c.shape.ensures ∙ ap (shape_of_node graph) c.result.ensures.value);
    }

pub returns-clause-valid : goal.returns-clause-valid
returns-clause-valid c = record {
  faultless = c.nodes-count.ensures.faultless;
  sides = c.requires;
  cut = subst (λ (o : Option TimeCut). IfSome o (λ cut. IsTimeCut c.args.checked cut.fold)) c.in-Some.is c.in_ok-cut.ensures.some;
  schedules = c.in_ok-schedules.ensures c.args.size c.sizes_of-sizes.ensures.slab c.sizes_of-sizes.ensures.plane;
  bounded = subst (λ (n : ℕ). n ≤ most_held_cells) c.bound_at-bound.ensures c.if-bound-gt67108864.false;
}
