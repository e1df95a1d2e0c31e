use Rattle.std.proofs.Common.{◌≡◌, ◌<◌, ◌↔◌, ◌∙◌, ℕ, length, Contains, sym, ap, subst, arith}
use Rattle.oe_plan.specs.Figures.{steps_of}
use Rattle.oe_plan.specs.Schedules.{ScheduleOf}
use Rattle.oe_plan.specs.Windows.{window_at}
use Rattle.oe_window.specs.Windows.{IsIn}
use Rattle.oe_slab.proofs.MetLemmas.{none_met, one_met, read_node}
use Rattle.oe_slab.proofs.evaluate.meet_whole.Goals as goal

pub loop-step-init : goal.loop-step-init
loop-step-init c = none_met c.args.plan.now.graph c.args.plan.now.before c.args.all.now c.args.windows.now

pub step_in_whole-requires : goal.step_in_whole-requires
step_in_whole-requires c =
    let p = c.args.plan.now in
    let k = c.loop-step.step in
    let below : k < length c.steps-nodes.result.now = c.loop-step-test.true in
    let nodes = c.steps-nodes.ensures ∙ ap (λ (s : ScheduleOf). s.order.steps) c.before-2.ensures.value in
    subst (λ n. Contains (steps_of p.graph) n)
    (sym (read_node p.before c.steps-nodes.result.now k 0 nodes below))
    (c.before-2.ensures.valid.schedules.before.of_run k (omega (arith, below, ap length nodes)))

pub loop-step-preserved : goal.loop-step-preserved
loop-step-preserved c =
    let p = c.args.plan.now in
    let k = c.loop-step.step in
    let all = c.args.all.now in
    let windows = c.loop-step.windows in
    let found = c.step_in_whole.result in
    let below : k < length c.steps-nodes.result.now = c.loop-step-test.true in
    let nodes = c.steps-nodes.ensures ∙ ap (λ (s : ScheduleOf). s.order.steps) c.before-2.ensures.value in
    let node = read_node p.before c.steps-nodes.result.now k 0 nodes below in
    let within : k < length windows = omega (arith, below, ap length nodes, c.loop-step.invariant.long, c.requires.each) in
    one_met p.graph p.before all c.args.windows.now windows k c.meet.result within c.loop-step.invariant
    (λ r r_below is q.
    let same : r ≡ found = c.step_in_whole.ensures.only r r_below (is ∙ sym node) in
    subst (λ (i : ℕ). IsIn c.meet.result q ↔ (IsIn (window_at windows k) q × IsIn (window_at all i) q)) (sym same) (c.meet.ensures q))

pub returns : goal.returns
returns c = λ s r below r_below is q.
    let nodes = c.steps-nodes.ensures ∙ ap (λ (s : ScheduleOf). s.order.steps) c.before-2.ensures.value in
    c.loop-step.invariant.met s r (omega (arith, below, ap length nodes, c.loop-step-test.false, c.loop-step.auto.step-end)) r_below is q
