use Rattle.std.proofs.Common.{arith}
use Rattle.std.proofs.lemmas.Grind.{common_steps}
use Rattle.oe_resolve.proofs.faults_of_names.+sees.Goals as goal

pub sees_args-loop-item-preserved : goal.sees_args-loop-item-preserved
sees_args-loop-item-preserved t c = grind (arith, common_steps) steps 2000000

pub sees_args-returns : goal.sees_args-returns
sees_args-returns t c = grind (arith, common_steps) steps 2000000

pub sees_args-returns-then-not-sees_arg : goal.sees_args-returns-then-not-sees_arg
sees_args-returns-then-not-sees_arg t c = grind (arith, common_steps) steps 2000000

pub sees_named-loop-member-preserved : goal.sees_named-loop-member-preserved
sees_named-loop-member-preserved t c = grind (arith, common_steps) steps 2000000

pub sees_named-returns : goal.sees_named-returns
sees_named-returns t c = grind (arith, common_steps) steps 2000000

pub sees_named-returns-then-not-sees_arg : goal.sees_named-returns-then-not-sees_arg
sees_named-returns-then-not-sees_arg t c = grind (arith, common_steps) steps 2000000
