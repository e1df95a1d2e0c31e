use Rattle.std.proofs.Common.{arith}
use Rattle.std.proofs.lemmas.Grind.{common_steps}
use Rattle.oe_graph.proofs.copy.+copies.Goals as goal

pub copy_args-loop-item-preserved : goal.copy_args-loop-item-preserved
copy_args-loop-item-preserved t c = grind (arith, common_steps) steps 2000000

pub copy_args-returns : goal.copy_args-returns
copy_args-returns t c = grind (arith, common_steps) steps 2000000

pub copy_named-loop-member-preserved : goal.copy_named-loop-member-preserved
copy_named-loop-member-preserved t c = grind (arith, common_steps) steps 2000000

pub copy_named-returns : goal.copy_named-returns
copy_named-returns t c = grind (arith, common_steps) steps 2000000

pub copy_nodes-loop-node-preserved : goal.copy_nodes-loop-node-preserved
copy_nodes-loop-node-preserved t c = grind (arith, common_steps) steps 2000000

pub copy_nodes-returns : goal.copy_nodes-returns
copy_nodes-returns t c = grind (arith, common_steps) steps 2000000
