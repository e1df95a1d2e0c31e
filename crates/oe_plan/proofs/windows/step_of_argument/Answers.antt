use Rattle.std.proofs.Common.{refl}
use Rattle.oe_plan.specs.Schedules.{part_of}
use Rattle.oe_plan.proofs.WidenLemmas.{argument_earlier, argument_stands}
use Rattle.oe_plan.proofs.windows.step_of_argument.Goals as goal

pub unreachable-requires : goal.unreachable-requires
unreachable-requires c =
    c.in-None.ensures.none.0 refl
    (argument_stands (part_of c.args.checked.now c.args.schedule.now) c.args.schedule.now.order c.requires.order c.args.step c.args.argument c.requires.step c.requires.has)

pub returns-clause-earlier : goal.returns-clause-earlier
returns-clause-earlier c =
    argument_earlier (part_of c.args.checked.now c.args.schedule.now) c.args.schedule.now.order c.requires.order c.args.step c.args.argument c.requires.step c.requires.has
    c.in-Some.found c.requires.works c.in-Some.ensures.within c.in-Some.ensures.found
