use Rattle.std.proofs.Common.{length}
use Rattle.oe_slab.proofs.MetLemmas.{ArePickedTo}
use Rattle.oe_slab.proofs.evaluate.pick_windows.Given as goal

-- the windows so far are taken
abbrev pub invariant-loop-step : goal.invariant-loop-step
invariant-loop-step l = ArePickedTo l.plan.graph l.plan.behind l.all l.picked l.step (length l.initial.picked)
