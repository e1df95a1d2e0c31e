use Rattle.std.proofs.Common.{arith}
use Rattle.std.proofs.lemmas.Grind.{common_steps}
use Rattle.oe_ops.proofs.source.index_in.Goals as goal

pub returns-in-Bands-clause-valid : goal.returns-in-Bands-clause-valid
returns-in-Bands-clause-valid c = grind (arith, common_steps) steps 2000000

pub returns-in-Bands-clause-value : goal.returns-in-Bands-clause-value
returns-in-Bands-clause-value c = grind (arith, common_steps) steps 2000000

pub returns-in_default : goal.returns-in_default
returns-in_default c = grind (arith, common_steps) steps 2000000

pub returns-then-is_none-2-clause-valid : goal.returns-then-is_none-2-clause-valid
returns-then-is_none-2-clause-valid c = grind (arith, common_steps) steps 2000000

pub returns-then-is_none-2-clause-value : goal.returns-then-is_none-2-clause-value
returns-then-is_none-2-clause-value c = grind (arith, common_steps) steps 2000000

pub returns-then-is_none-clause-valid : goal.returns-then-is_none-clause-valid
returns-then-is_none-clause-valid c = grind (arith, common_steps) steps 2000000

pub returns-then-is_none-clause-value : goal.returns-then-is_none-clause-value
returns-then-is_none-clause-value c = grind (arith, common_steps) steps 2000000
