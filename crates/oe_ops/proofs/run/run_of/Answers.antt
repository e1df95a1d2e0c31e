use Rattle.std.proofs.Common.{arith}
use Rattle.oe_ops.proofs.RunLemmas.{on_run}
use Rattle.oe_ops.proofs.run.run_of.Goals as goal

pub returns : goal.returns
returns c = λ index h.
    on_run c.args.along c.args.shape.now c.args.argument.now c.args.span.from c.indices.result c.first_from.result index h.begun (let before = h.before in omega (arith, c.indices.ensures)) c.first_from.ensures
