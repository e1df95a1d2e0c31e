use Rattle.oe_plan.specs.Schedules.{part_of}
use Rattle.oe_plan.proofs.WidenLemmas.{AreOnStep}
use Rattle.oe_plan.proofs.windows.widen_arguments.Given as goal

abbrev pub invariant-loop-number : goal.invariant-loop-number
invariant-loop-number l = AreOnStep (part_of l.checked l.schedule) l.step l.number l.fn.windows l.windows
