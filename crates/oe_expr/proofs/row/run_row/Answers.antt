use Rattle.std.proofs.Common.{arith}
use Rattle.std.proofs.lemmas.Grind.{common_steps, elements}
use Rattle.oe_expr.proofs.row.run_row.Goals as goal

pub eval_strip-requires-clause-room : goal.eval_strip-requires-clause-room
eval_strip-requires-clause-room c = grind (arith, common_steps) steps 2000000

pub loop-from-preserved : goal.loop-from-preserved
loop-from-preserved c = grind (arith, elements) steps 2000000
