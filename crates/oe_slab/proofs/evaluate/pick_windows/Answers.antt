use Rattle.std.proofs.Common.{◌≡◌, ◌<◌, ◌∙◌, ℕ, length, Contains, refl, sym, ap, subst, arith}
use Rattle.oe_plan.specs.Figures.{steps_of}
use Rattle.oe_plan.specs.Schedules.{ScheduleOf, node_at}
use Rattle.std.specs.Prelude.{slice_index}
use Rattle.oe_plan.specs.Windows.{window_at}
use Rattle.oe_plan.proofs.ScheduleLemmas.{schedules_serve}
use Rattle.oe_slab.proofs.MetLemmas.{none_picked, one_picked, read_node, read_window}
use Rattle.oe_slab.proofs.ScheduleLemmas.{ordered_by}
use Rattle.oe_slab.proofs.SlabWindowLemmas.{planes_fit}
use Rattle.oe_slab.proofs.evaluate.pick_windows.Goals as goal

pub loop-step-init : goal.loop-step-init
loop-step-init c = none_picked c.args.plan.now.graph c.args.plan.now.behind c.args.all.now c.args.picked.now (length c.args.picked.now) refl

pub step_in_whole-requires : goal.step_in_whole-requires
step_in_whole-requires c =
    let p = c.args.plan.now in
    let k = c.loop-step.step in
    let below : k < length c.steps-nodes.result.now = c.loop-step-test.true in
    let nodes = c.steps-nodes.ensures ∙ ap (λ (s : ScheduleOf). s.order.steps) c.behind.ensures.value in
    subst (λ n. Contains (steps_of p.graph) n)
    (sym (read_node p.behind c.steps-nodes.result.now k 0 nodes below))
    (c.behind.ensures.valid.schedules.behind.of_run k (omega (arith, below, ap length nodes)))

pub loop-step-preserved : goal.loop-step-preserved
loop-step-preserved c =
    let p = c.args.plan.now in
    let k = c.loop-step.step in
    let all = c.args.all.now in
    let found = c.step_in_whole.result in
    let below : k < length c.steps-nodes.result.now = c.loop-step-test.true in
    let nodes = c.steps-nodes.ensures ∙ ap (λ (s : ScheduleOf). s.order.steps) c.behind.ensures.value in
    let node = read_node p.behind c.steps-nodes.result.now k 0 nodes below in
    let each = c.requires.windows.1.each in
    one_picked p.graph p.behind all c.loop-step.picked k (length c.args.picked.now) _
    (omega (arith, below, ap length nodes, c.loop-step.invariant.long_is, c.requires.picked)) c.loop-step.invariant
    (λ r r_below is.
    let same : r ≡ found = c.step_in_whole.ensures.only r r_below (is ∙ sym node) in
    read_window all found _ (omega (arith, c.step_in_whole.ensures.within, each)) ∙ ap (window_at all) (sym same))

pub returns-clause-picked : goal.returns-clause-picked
returns-clause-picked c = λ s r below r_below is.
    let nodes = c.steps-nodes.ensures ∙ ap (λ (s : ScheduleOf). s.order.steps) c.behind.ensures.value in
    c.loop-step.invariant.same s r (omega (arith, below, c.loop-step.invariant.long_is, c.requires.picked, ap length nodes, c.loop-step-test.false, c.loop-step.auto.step-end)) r_below is

pub returns-clause-serve : goal.returns-clause-serve
returns-clause-serve c =
    let p = c.args.plan.now in
    let valid = c.behind.ensures.valid in
    let s = valid.schedules in
    let ordered = ordered_by p.graph p.size p.fold p.whole p.before p.behind s in
    let nodes = c.steps-nodes.ensures ∙ ap (λ (s : ScheduleOf). s.order.steps) c.behind.ensures.value in
    let picked = c.loop-step.picked in
    let long : length picked ≡ length p.behind.order.steps = c.loop-step.invariant.long_is ∙ c.requires.picked in
    let all_picked = λ (k r : ℕ) (below : k < length picked) (r_below : r < length (steps_of p.graph)) (is : slice_index (steps_of p.graph) r ≡ node_at p.behind k).
    c.loop-step.invariant.same k r (omega (arith, below, long, ap length nodes, c.loop-step-test.false, c.loop-step.auto.step-end)) r_below is in
    schedules_serve.picked p.graph p.behind s.behind ordered p.size c.requires.windows.0 c.args.all.now picked c.requires.windows.1 long all_picked
    (planes_fit p.graph valid.faultless p.size p.fold valid.cut p.whole p.before p.behind s c.requires.windows.0 c.args.all.now c.requires.windows.1 picked long all_picked)
