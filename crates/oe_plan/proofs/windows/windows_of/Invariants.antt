use Rattle.oe_plan.specs.Schedules.{part_of}
use Rattle.oe_plan.proofs.WidenLemmas.{AreWorkedOff}
use Rattle.oe_plan.proofs.windows.windows_of.Given as goal

abbrev pub invariant-loop-left : goal.invariant-loop-left
invariant-loop-left l = AreWorkedOff (part_of l.checked l.schedule) l.chunk l.windows l.left

abbrev pub decreases-loop-left : goal.decreases-loop-left
decreases-loop-left l = l.left
