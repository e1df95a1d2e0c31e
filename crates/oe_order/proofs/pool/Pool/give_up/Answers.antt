use borrow.Author.Differences.{ints}
use Rattle.std.proofs.Common.{arith}
use Rattle.std.proofs.lemmas.Grind.{common_steps}
use Rattle.oe_order.proofs.pool.Pool.give_up.Goals as goal

pub index-requires : goal.index-requires
index-requires c = grind (arith, common_steps) steps 2000000

pub index_mut-requires : goal.index_mut-requires
index_mut-requires c = grind (arith, common_steps) steps 2000000

pub returns-clause-pool : goal.returns-clause-pool
returns-clause-pool c = grind (ints, arith, common_steps) steps 4000000
