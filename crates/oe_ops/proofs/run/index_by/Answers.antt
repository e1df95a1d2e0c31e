use Rattle.std.proofs.Common.{sym, arith}
use Rattle.oe_ops.proofs.IndexLemmas.{found_below}
use Rattle.oe_ops.proofs.RunLemmas.{run_at}
use Rattle.oe_ops.proofs.run.index_by.Goals as goal

pub overflow_sub-result : goal.overflow_sub-result
overflow_sub-result c =
    let here = run_at c.args.along c.args.shape.now c.args.argument.now c.args.run c.args.index c.in-Some.first c.in-Some.is c.requires.on_run in
    omega (arith, here.0)

pub overflow_add-result : goal.overflow_add-result
overflow_add-result c =
    let here = run_at c.args.along c.args.shape.now c.args.argument.now c.args.run c.args.index c.in-Some.first c.in-Some.is c.requires.on_run in
    let below = found_below c.args.along c.args.shape.now c.args.argument.now c.args.index _ c.requires.valid here.1 in
    omega (arith, below)

pub returns-in-Some : goal.returns-in-Some
returns-in-Some c =
    let here = run_at c.args.along c.args.shape.now c.args.argument.now c.args.run c.args.index c.in-Some.first c.in-Some.is c.requires.on_run in
    sym here.1
