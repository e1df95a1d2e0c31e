use Rattle.std.proofs.Common.{arith}
use Rattle.std.proofs.lemmas.Grind.{common_steps}
use Rattle.oe_translate.proofs.rewrite.put_translated.Goals as goal

pub returns-in_err-copy_node : goal.returns-in_err-copy_node
returns-in_err-copy_node c = grind (arith, common_steps) steps 2000000

pub returns-in_err-periods_node : goal.returns-in_err-periods_node
returns-in_err-periods_node c = grind (arith, common_steps) steps 2000000

pub returns-in_ok-copy_node : goal.returns-in_ok-copy_node
returns-in_ok-copy_node c = grind (arith, common_steps) steps 2000000

pub returns-in_ok-periods_node : goal.returns-in_ok-periods_node
returns-in_ok-periods_node c = grind (arith, common_steps) steps 2000000

pub returns-then-is_of_sums : goal.returns-then-is_of_sums
returns-then-is_of_sums c = grind (arith, common_steps) steps 2000000
