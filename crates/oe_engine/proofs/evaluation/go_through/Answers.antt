use Rattle.std.proofs.Common.{arith}
use Rattle.std.proofs.lemmas.Grind.{elements}
use Rattle.oe_engine.proofs.RunRounds.{last_one, more_is_left, one_more, refused, still_mounted}
use Rattle.oe_engine.proofs.evaluation.go_through.Goals as goal

pub round-requires-clause-mounted : goal.round-requires-clause-mounted
round-requires-clause-mounted g c κs within = still_mounted c.loop.invariant c.requires.mounted

pub returns-in-Ok-Complete-clause-through : goal.returns-in-Ok-Complete-clause-through
returns-in-Ok-Complete-clause-through g c =
    last_one _ _ _ _ _ _ _ _ _ _ _ _ _ c.requires.planned c.loop.invariant
    c.in-Ok-Complete.field-0 c.in-Ok-Complete.ensures.advances c.in-Ok-Complete.ensures.writes c.in-Ok-Complete.ensures.reads
    c.in-Ok-Complete.ensures.causes.spool_cause.count c.in-Ok-Complete.field-0-is

pub returns-in-Err-clause-through : goal.returns-in-Err-clause-through
returns-in-Err-clause-through g c =
    refused _ _ _ _ _ _ _ _ _ _ _ _ _ c.requires.planned c.loop.invariant
    c.in-Err.fail c.in-Err.ensures.advances c.in-Err.ensures.writes c.in-Err.ensures.reads c.in-Err.ensures.causes

pub loop-preserved : goal.loop-preserved
loop-preserved g c =
    one_more _ _ _ _ _ _ _ _ _ _ _ _ _ c.requires.planned c.loop.invariant
    c.in-Ok-More.field-0 c.in-Ok-More.ensures.advances c.in-Ok-More.ensures.writes c.in-Ok-More.ensures.reads
    c.in-Ok-More.ensures.causes.spool_cause.count (more_is_left c.in-Ok-More.field-0 c.in-Ok-More.field-0-is)

pub returns-clause-through : goal.returns-clause-through
returns-clause-through g c = grind (arith, elements) steps 2000000
