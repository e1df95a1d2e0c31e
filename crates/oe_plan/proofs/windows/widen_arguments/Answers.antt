use Rattle.std.proofs.Common.{◌≡◌, ℕ, ◌<◌, false, length, sym, subst, arith}
use Rattle.oe_graph.specs.Printed.{node_count}
use Rattle.oe_order.specs.Graph.{is_load}
use Rattle.oe_check.specs.Links.{links_of}
use Rattle.oe_plan.specs.Schedules.{part_of}
use Rattle.oe_plan.specs.Steps.{arguments_of_node}
use Rattle.oe_plan.proofs.SideLemmas.{step_below}
use Rattle.oe_plan.proofs.WidenLemmas.{faultless_part, listing_of, node_read, on_step_ends, on_step_more}
use Rattle.oe_plan.proofs.windows.widen_arguments.Goals as goal

pub shape_of-shape-requires : goal.shape_of-shape-requires
shape_of-shape-requires c =
    let same = node_read (part_of c.args.checked.now c.args.schedule.now) c.args.schedule.now.order c.steps.result.now c.args.step c.requires.order c.steps.ensures in
    subst (λ (n : ℕ). n < node_count c.args.checked.now.nodes) (sym same)
    (step_below (part_of c.args.checked.now c.args.schedule.now) (faultless_part c.args.checked.now c.args.schedule.now.last c.requires.last c.requires.faultless) (listing_of (part_of c.args.checked.now c.args.schedule.now) c.args.schedule.now.order c.requires.order) c.args.step c.requires.step)

pub argument_count-number-end-requires : goal.argument_count-number-end-requires
argument_count-number-end-requires c =
    let same = node_read (part_of c.args.checked.now c.args.schedule.now) c.args.schedule.now.order c.steps.result.now c.args.step c.requires.order c.steps.ensures in
    subst (λ (n : ℕ). n < node_count c.args.checked.now.nodes) (sym same)
    (step_below (part_of c.args.checked.now c.args.schedule.now) (faultless_part c.args.checked.now c.args.schedule.now.last c.requires.last c.requires.faultless) (listing_of (part_of c.args.checked.now c.args.schedule.now) c.args.schedule.now.order c.requires.order) c.args.step c.requires.step)

pub loop-number-preserved : goal.loop-number-preserved
loop-number-preserved c =
    on_step_more (part_of c.args.checked.now c.args.schedule.now) c.args.step c.loop-number.number c.args.windows.now c.loop-number.windows c.widen.new.windows
    (listing_of (part_of c.args.checked.now c.args.schedule.now) c.args.schedule.now.order c.requires.order) c.argument_count-number-end.ensures.acyclic c.loop-number.invariant c.widen.ensures

pub returns-clause-widened : goal.returns-clause-widened
returns-clause-widened c =
    let same = node_read (part_of c.args.checked.now c.args.schedule.now) c.args.schedule.now.order c.steps.result.now c.args.step c.requires.order c.steps.ensures in
    let low = c.loop-number-test.false in
    let high = c.loop-number.auto.number-end in
    on_step_ends (part_of c.args.checked.now c.args.schedule.now) c.args.step c.loop-number.number c.args.windows.now c.loop-number.windows
    (λ works.
    let count = subst (λ (n : ℕ). is_load (links_of c.args.checked.now.nodes) n ≡ false → c.argument_count-number-end.result ≡ length (arguments_of_node c.args.checked.now n)) same c.argument_count-number-end.ensures.all works in
    omega arith)
    c.loop-number.invariant
