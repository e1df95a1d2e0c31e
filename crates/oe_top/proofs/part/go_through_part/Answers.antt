use Rattle.std.proofs.Common.{arith}
use Rattle.std.proofs.lemmas.Grind.{common_steps, elements}
use Rattle.oe_top.proofs.PartRounds.{last_of_part, mounted_in_part, one_more_of_part, part_refused}
use Rattle.oe_engine.proofs.RunRounds.{more_is_left}
use Rattle.oe_top.proofs.part.go_through_part.Goals as goal

pub round-requires-clause-mounted : goal.round-requires-clause-mounted
round-requires-clause-mounted g c κs within =
    mounted_in_part c.reads_change_nothing.ensures c.loop.invariant c.requires.mounted

pub returns-in-Ok-Complete-clause-through : goal.returns-in-Ok-Complete-clause-through
returns-in-Ok-Complete-clause-through g c =
    last_of_part _ _ _ _ _ _ _ _ _ _ _ _ _ c.requires.begun.planned c.reads_change_nothing.ensures c.loop.invariant
    c.in-Ok-Complete.field-0 c.in-Ok-Complete.ensures.advances c.in-Ok-Complete.ensures.writes c.in-Ok-Complete.ensures.reads
    c.in-Ok-Complete.ensures.causes.spool_cause.count c.in-Ok-Complete.field-0-is

pub returns-in-Err-clause-through : goal.returns-in-Err-clause-through
returns-in-Err-clause-through g c =
    part_refused _ _ _ _ _ _ _ _ _ _ _ _ _ c.requires.begun.planned c.reads_change_nothing.ensures c.loop.invariant
    c.in-Err.fail c.in-Err.ensures.advances c.in-Err.ensures.writes c.in-Err.ensures.reads c.in-Err.ensures.causes

pub loop-preserved : goal.loop-preserved
loop-preserved g c =
    one_more_of_part _ _ _ _ _ _ _ _ _ _ _ _ _ c.requires.begun.planned c.reads_change_nothing.ensures c.loop.invariant
    c.in-Ok-More.field-0 c.in-Ok-More.ensures.advances c.in-Ok-More.ensures.writes c.in-Ok-More.ensures.reads
    c.in-Ok-More.ensures.causes.spool_cause.count (more_is_left c.in-Ok-More.field-0 c.in-Ok-More.field-0-is)

pub returns-clause-no_overflow : goal.returns-clause-no_overflow
returns-clause-no_overflow g c = grind (arith, common_steps) steps 2000000

pub returns-clause-through : goal.returns-clause-through
returns-clause-through g c = grind (arith, elements) steps 2000000

pub returns-in-Err-clause-no_overflow : goal.returns-in-Err-clause-no_overflow
returns-in-Err-clause-no_overflow g c = grind (arith, common_steps) steps 2000000

pub returns-in-Ok-Complete-clause-no_overflow : goal.returns-in-Ok-Complete-clause-no_overflow
returns-in-Ok-Complete-clause-no_overflow g c = grind (arith, common_steps) steps 2000000
