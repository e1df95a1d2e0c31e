use Rattle.std.proofs.Common.{arith}
use Rattle.std.proofs.lemmas.Grind.{common_steps}
use Rattle.oe_top.proofs.say.write_detail.Goals as goal

pub returns-in-ChunkMissing : goal.returns-in-ChunkMissing
returns-in-ChunkMissing c = grind (arith, common_steps) steps 2000000

pub returns-in-Damaged : goal.returns-in-Damaged
returns-in-Damaged c = grind (arith, common_steps) steps 2000000

pub returns-in-Graph : goal.returns-in-Graph
returns-in-Graph c = grind (arith, common_steps) steps 2000000

pub returns-in-Overflow : goal.returns-in-Overflow
returns-in-Overflow c = grind (arith, common_steps) steps 2000000

pub returns-in-PartDamaged : goal.returns-in-PartDamaged
returns-in-PartDamaged c = grind (arith, common_steps) steps 2000000

pub returns-in-PartGraph : goal.returns-in-PartGraph
returns-in-PartGraph c = grind (arith, common_steps) steps 2000000

pub returns-in-SpoolDamaged : goal.returns-in-SpoolDamaged
returns-in-SpoolDamaged c = grind (arith, common_steps) steps 2000000

pub returns-in-TooLarge : goal.returns-in-TooLarge
returns-in-TooLarge c = grind (arith, common_steps) steps 2000000

pub returns-in-Usage : goal.returns-in-Usage
returns-in-Usage c = grind (arith, common_steps) steps 2000000

pub returns-in-Usage-2 : goal.returns-in-Usage-2
returns-in-Usage-2 c = grind (arith, common_steps) steps 2000000

pub returns-in-Usage-3 : goal.returns-in-Usage-3
returns-in-Usage-3 c = grind (arith, common_steps) steps 2000000

pub returns-in-Usage-4 : goal.returns-in-Usage-4
returns-in-Usage-4 c = grind (arith, common_steps) steps 2000000

pub returns-in-Usage-5 : goal.returns-in-Usage-5
returns-in-Usage-5 c = grind (arith, common_steps) steps 2000000

pub returns-in-Usage-6 : goal.returns-in-Usage-6
returns-in-Usage-6 c = grind (arith, common_steps) steps 2000000

pub returns-in-Usage-7 : goal.returns-in-Usage-7
returns-in-Usage-7 c = grind (arith, common_steps) steps 2000000

pub returns-in-Usage-8 : goal.returns-in-Usage-8
returns-in-Usage-8 c = grind (arith, common_steps) steps 2000000

pub returns-in-Usage-9 : goal.returns-in-Usage-9
returns-in-Usage-9 c = grind (arith, common_steps) steps 2000000
