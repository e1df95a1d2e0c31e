use Rattle.oe_slab.proofs.MetLemmas.{AreMetTo}
use Rattle.oe_slab.proofs.evaluate.meet_whole.Given as goal

-- the windows so far are met
abbrev pub invariant-loop-step : goal.invariant-loop-step
invariant-loop-step l = AreMetTo l.plan.graph l.plan.before l.all l.initial.windows l.windows l.step
