use Rattle.std.proofs.Common.{arith}
use Rattle.std.proofs.lemmas.Grind.{common_steps}
use Rattle.oe_plan.proofs.plan.Plan.argument.Goals as goal

pub returns-clause-exact : goal.returns-clause-exact
returns-clause-exact c = λ r. rw (← c.self.view_is) (c.argument_of.ensures r)

pub argument_of-requires-clause-steps : goal.argument_of-requires-clause-steps
argument_of-requires-clause-steps c = grind (arith, common_steps) steps 2000000
