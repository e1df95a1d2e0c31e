use Rattle.std.proofs.Common.{refl}
use Rattle.oe_serve.specs.Results.{result_head}
use Rattle.oe_serve.proofs.Texts.{behind_head, failed_at_head}
use Rattle.oe_serve.proofs.results.send.Goals as goal

pub returns-in-Ok-clause-sends : goal.returns-in-Ok-clause-sends
returns-in-Ok-clause-sends g c =
    behind_head c.args.run.now _ _ _ (result_head c.args.count) _ _ _ c.in-Ok.ensures.appended c.in-Ok.ensures.cause.count
    c.send_text.result c.send_text.ensures.sends

pub returns-in-Err-clause-sends : goal.returns-in-Err-clause-sends
returns-in-Err-clause-sends g c =
    failed_at_head c.args.run.now _ _ _ (result_head c.args.count) _ _ (c.in-Err.ensures.cause.failed refl)
    c.in-Err.ensures.cause.count c.in-Err.ensures.prefix
