use Rattle.std.proofs.Common.{ℕ, ◌≤◌, ap, ◌∙◌, subst, arith}
use Rattle.oe_dims.specs.Dimensions.{Dimensions}
use Rattle.oe_order.specs.Live.{Steps}
use Rattle.oe_window.specs.Chunks.{tiling_of}
use Rattle.oe_plan.specs.Figures.{shape_of_node}
use Rattle.oe_plan.specs.Plans.{IsPlan}
use Rattle.oe_plan.proofs.ScheduleLemmas.{is_bounded, kept_plan, still_plan}
use Rattle.oe_check.specs.Links.{links_of}
use Rattle.oe_plan.proofs.FitLemmas.{parts_fit}
use Rattle.oe_plan.proofs.RunLemmas.{some_width}
use Rattle.oe_plan.proofs.WidthLemmas.{wider, width_small}
use Rattle.oe_plan.proofs.plan.Plan.new.Goals as goal

pub overflow_cast-sizes : goal.overflow_cast-sizes
overflow_cast-sizes c =
    let order = c.in_ok-order.order in
    let some : 1 ≤ order.width = some_width (links_of c.args.checked.nodes) c.args.checked.result order c.in_ok-order.ensures.listing c.in_ok-order.ensures.slots in
    let is = c.width.ensures in
    let least = c.width_of-width.ensures.least in
    let wide : 1 ≤ c.width_of-width.result = omega arith in
    let small = c.if-bound-gt67108864.false in
    let whole = subst (λ (n : ℕ). n ≤ 67108864) c.bound_of-bound.ensures small in
    let parts = parts_fit c.args.workers c.width_of-width.result c.sizes_of-sizes.result.largest c.sizes_of-sizes.result.scratch 67108864 c.requires.least wide whole in
    let most = parts.2 in
    omega arith

pub overflow_cast-width : goal.overflow_cast-width
overflow_cast-width c =
    let small = c.if-bound-gt67108864.false in
    let whole = subst (λ (n : ℕ). n ≤ 67108864) c.bound_of-bound.ensures small in
    let most = width_small c.args.checked c.args.size c.args.workers c.width_of-width.result c.sizes_of-sizes.result.largest c.sizes_of-sizes.result.scratch 67108864
    c.requires c.sizes_of-sizes.ensures.largest whole in
    omega arith

pub invariant_of-result : goal.invariant_of-result
invariant_of-result c =
    let graph = c.args.checked in
    let sizes = c.sizes_of-sizes.result in
    let order : Steps = record c.in_ok-order.order { width = c.width_of-width.result } in
    let least : c.in_ok-order.order.width ≤ c.width_of-width.result = omega (arith, c.width.ensures, c.width_of-width.ensures.least) in
    let plan : IsPlan (record { graph = graph; size = c.args.size; workers = c.args.workers; order = order }) = record {
      faultless = c.result.ensures.faultless;
      ranges = c.requires;
      steps_are = c.in_ok-order.ensures.steps;
      within = c.in_ok-order.ensures.within.within;
      listing = c.in_ok-order.ensures.listing;
      evaluation = c.in_ok-order.ensures.evaluation;
      slotted = wider (links_of graph.nodes) graph.result c.width_of-width.result c.in_ok-order.order least c.in_ok-order.ensures.slots;
      width_is = c.width_of-width.ensures.value;
      bounded = is_bounded graph c.args.size c.args.workers c.width_of-width.result sizes.largest sizes.scratch c.bound_of-bound.result
          c.width_of-width.ensures.value c.sizes_of-sizes.ensures.largest c.sizes_of-sizes.ensures.scratch
          c.bound_of-bound.ensures c.if-bound-gt67108864.false;
    } in
    kept_plan graph c.args.size c.args.workers c.result-last.result sizes.largest order c.with_width-schedule.result c.with_width-schedule.ensures
    c.new-grid.result sizes.scratch c.result-last.ensures.value c.sizes_of-sizes.ensures.largest
    (c.new-grid.ensures.value ∙ ap (λ (d : Dimensions). tiling_of d c.args.size) (c.shape.ensures ∙ ap (shape_of_node graph) c.result.ensures.value))
    c.sizes_of-sizes.ensures.scratch plan

pub returns-clause-valid : goal.returns-clause-valid
returns-clause-valid c =
    let graph = c.args.checked in
    let sizes = c.sizes_of-sizes.result in
    let order : Steps = record c.in_ok-order.order { width = c.width_of-width.result } in
    let least : c.in_ok-order.order.width ≤ c.width_of-width.result = omega (arith, c.width.ensures, c.width_of-width.ensures.least) in
    still_plan graph c.args.size c.args.workers c.result-last.result sizes.largest order c.with_width-schedule.result c.with_width-schedule.ensures
    (record {
      faultless = c.result.ensures.faultless;
      ranges = c.requires;
      steps_are = c.in_ok-order.ensures.steps;
      within = c.in_ok-order.ensures.within.within;
      listing = c.in_ok-order.ensures.listing;
      evaluation = c.in_ok-order.ensures.evaluation;
      slotted = wider (links_of graph.nodes) graph.result c.width_of-width.result c.in_ok-order.order least c.in_ok-order.ensures.slots;
      width_is = c.width_of-width.ensures.value;
      bounded = is_bounded graph c.args.size c.args.workers c.width_of-width.result sizes.largest sizes.scratch c.bound_of-bound.result
          c.width_of-width.ensures.value c.sizes_of-sizes.ensures.largest c.sizes_of-sizes.ensures.scratch
          c.bound_of-bound.ensures c.if-bound-gt67108864.false;
    })
