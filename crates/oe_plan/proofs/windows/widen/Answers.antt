use Rattle.std.proofs.Common.{◌≡◌, ℕ, ◌<◌, Some, sym, ap, ◌∙◌, subst, arith}
use Rattle.std.specs.List.{slice_get, slice_index}
use Rattle.oe_graph.specs.Printed.{node_count}
use Rattle.oe_ops.specs.Needs.{IsNeed}
use Rattle.oe_plan.specs.Schedules.{part_of, steps_to_last}
use Rattle.oe_plan.specs.Steps.{NeedsOfNode, arguments_of_node}
use Rattle.oe_plan.specs.Windows.{window_at}
use Rattle.oe_plan.proofs.SideLemmas.{step_below}
use Rattle.oe_plan.proofs.WidenLemmas.{contains_of, faultless_part, listing_of, need_in_part, node_read, widened_by}
use Rattle.oe_plan.proofs.windows.widen.Goals as goal

pub argument_of-argument-requires-clause-node : goal.argument_of-argument-requires-clause-node
argument_of-argument-requires-clause-node c =
    let same = node_read (part_of c.args.checked.now c.args.schedule.now) c.args.schedule.now.order c.steps.result.now c.args.step c.requires.order c.steps.ensures in
    subst (λ (n : ℕ). n < node_count c.args.checked.now.nodes) (sym same)
    (step_below (part_of c.args.checked.now c.args.schedule.now) (faultless_part c.args.checked.now c.args.schedule.now.last c.requires.last c.requires.faultless) (listing_of (part_of c.args.checked.now c.args.schedule.now) c.args.schedule.now.order c.requires.order) c.args.step c.requires.step)

pub step_of_argument-earlier-requires-clause-has : goal.step_of_argument-earlier-requires-clause-has
step_of_argument-earlier-requires-clause-has c =
    let same = node_read (part_of c.args.checked.now c.args.schedule.now) c.args.schedule.now.order c.steps.result.now c.args.step c.requires.order c.steps.ensures in
    contains_of (arguments_of_node c.args.checked.now (slice_index (steps_to_last c.args.checked.now c.args.schedule.now) c.args.step)) c.args.number c.argument_of-argument.result
    (subst (λ (n : ℕ). slice_get (arguments_of_node c.args.checked.now n) c.args.number ≡ Some c.argument_of-argument.result) same c.argument_of-argument.ensures.value)

pub need_of_argument-needed-requires-clause-node : goal.need_of_argument-needed-requires-clause-node
need_of_argument-needed-requires-clause-node c =
    let same = node_read (part_of c.args.checked.now c.args.schedule.now) c.args.schedule.now.order c.steps.result.now c.args.step c.requires.order c.steps.ensures in
    subst (λ (n : ℕ). n < node_count c.args.checked.now.nodes) (sym same)
    (step_below (part_of c.args.checked.now c.args.schedule.now) (faultless_part c.args.checked.now c.args.schedule.now.last c.requires.last c.requires.faultless) (listing_of (part_of c.args.checked.now c.args.schedule.now) c.args.schedule.now.order c.requires.order) c.args.step c.requires.step)

pub returns : goal.returns
returns c =
    let same = node_read (part_of c.args.checked.now c.args.schedule.now) c.args.schedule.now.order c.steps.result.now c.args.step c.requires.order c.steps.ensures in
    let before = c.step_of_argument-earlier.ensures.earlier in
    let inside = c.requires.step in
    let each = c.requires.each in
    widened_by (part_of c.args.checked.now c.args.schedule.now) c.args.step c.args.number c.step_of_argument-earlier.result c.args.windows.now c.need_of_argument-needed.result c.hull.result
    (record {
      within = c.requires.step;
      earlier = before;
      works = c.requires.works;
      taken =
          subst (λ (n : ℕ). slice_get (arguments_of_node c.args.checked.now n) c.args.number ≡ Some c.argument_of-argument.result) same c.argument_of-argument.ensures.value
          ∙ ap Some (sym c.step_of_argument-earlier.ensures.value);
    })
    (omega arith)
    (need_in_part c.args.checked.now c.args.schedule.now.last _ c.args.number _ c.need_of_argument-needed.result
    (subst (λ (n : ℕ). IsNeed (NeedsOfNode c.args.checked.now n c.args.number) (window_at c.args.windows.now c.args.step) c.need_of_argument-needed.result) same c.need_of_argument-needed.ensures))
    (record {
      first_empty = c.hull.ensures.first_empty;
      holds_first = c.hull.ensures.holds_first;
      holds_second = c.hull.ensures.holds_second;
      least = c.hull.ensures.least;
    })
