use Rattle.std.proofs.Common.{◌≡◌, ◌<◌, ◌∙◌, ap, length, arith, subst, ℕ}
use Rattle.oe_steps.proofs.ScheduleLemmas.{few_steps}
use Rattle.oe_steps.proofs.RunLemmas.{cells_after, kinds_after, live_first, live_last, live_taken}
use Rattle.oe_steps.specs.Buffers.{lists_of}
use Rattle.oe_steps.specs.Steps.{AreCells, AreOfKind, EachLive}
use Rattle.oe_steps.proofs.run.evaluate_steps.Goals as goal

pub overflow_cast-count : goal.overflow_cast-count
overflow_cast-count c = omega (arith, few_steps c.args.checked.now c.args.schedule.now c.requires.schedule, ap length c.steps.ensures)

pub loop-step-init : goal.loop-step-init
loop-step-init c = record {
  room = c.requires.room;
  scratch = c.requires.scratch;
  kinds = live_first c.args.checked.now c.args.schedule.now c.requires.schedule (AreOfKind c.args.checked.now c.args.schedule.now c.args.windows.now (lists_of c.args.buffers.now))
      c.loads-step.result c.loads-step.ensures.most c.loads-step.ensures.load c.requires.kinds;
  value = λ collections has loaded.
      live_first c.args.checked.now c.args.schedule.now c.requires.schedule (AreCells collections c.args.checked.now c.args.schedule.now c.args.windows.now (lists_of c.args.buffers.now))
      c.loads-step.result c.loads-step.ensures.most c.loads-step.ensures.load loaded;
}

pub evaluate_step-requires-clause-ready : goal.evaluate_step-requires-clause-ready
evaluate_step-requires-clause-ready c =
    record { scheduled = c.requires.schedule; windows_fit = c.requires.windows; room = c.loop-step.invariant.room }

pub evaluate_step-requires-clause-kinds : goal.evaluate_step-requires-clause-kinds
evaluate_step-requires-clause-kinds c = λ number r takes.
    let long = ap length c.steps.ensures in
    let within : c.loop-step.step < length c.args.schedule.now.order.steps = omega arith in
    live_taken c.args.checked.now c.args.schedule.now c.requires.schedule
    (AreOfKind c.args.checked.now c.args.schedule.now c.args.windows.now (lists_of c.loop-step.buffers)) c.loop-step.step within
    (c.loads-step.ensures.work c.loop-step.step (omega arith) within) c.loop-step.invariant.kinds number r takes

pub loop-step-preserved : goal.loop-step-preserved
loop-step-preserved c =
    let long = ap length c.steps.ensures in
    let within : c.loop-step.step < length c.args.schedule.now.order.steps = omega arith in
    let works = c.loads-step.ensures.work c.loop-step.step (omega arith) within in
    let graph = c.args.checked.now in
    let schedule = c.args.schedule.now in
    let is = c.requires.schedule in
    let old = lists_of c.loop-step.buffers in
    let new = lists_of c.evaluate_step.new.buffers in
    record {
      room = c.evaluate_step.ensures.room;
      scratch = c.evaluate_step.ensures.scratch ∙ c.loop-step.invariant.scratch;
      kinds = kinds_after graph schedule is c.args.windows.now old new c.loop-step.step within c.evaluate_step.ensures.others
          c.loop-step.invariant.kinds c.evaluate_step.ensures.kinds;
      value = λ collections has loaded.
          let before = c.loop-step.invariant.value collections has loaded in
          cells_after graph schedule is c.args.windows.now old new c.loop-step.step within c.evaluate_step.ensures.others collections before
          (c.evaluate_step.ensures.value collections has
          (live_taken graph schedule is (AreCells collections graph schedule c.args.windows.now old) c.loop-step.step within works before));
    }

pub returns-clause-value : goal.returns-clause-value
returns-clause-value c = λ collections has loaded.
    let graph = c.args.checked.now in
    let schedule = c.args.schedule.now in
    let long = ap length c.steps.ensures in
    let all : c.loop-step.step ≡ length schedule.order.steps =
    omega (arith, long, c.loop-step.auto.step-end, c.loop-step-test.false, c.loads-step.ensures.most) in
    live_last graph schedule c.requires.schedule (AreCells collections graph schedule c.args.windows.now (lists_of c.loop-step.buffers))
    (subst (λ (s : ℕ). EachLive graph schedule s (AreCells collections graph schedule c.args.windows.now (lists_of c.loop-step.buffers))) all
    (c.loop-step.invariant.value collections has loaded))
