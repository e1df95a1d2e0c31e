use Rattle.oe_render.proofs.Sending.{stored_nothing}
use Rattle.oe_render.proofs.rendering.send_batch.Goals as goal

pub returns-in_err-read_batch-clause-sent : goal.returns-in_err-read_batch-clause-sent
returns-in_err-read_batch-clause-sent g c =
    stored_nothing c.args.out.now c.args.pending.now c.args.pending.now c.from_residual.result c.requires.stored c.from_residual.ensures.1 c.in_err-read_batch.ensures.only
