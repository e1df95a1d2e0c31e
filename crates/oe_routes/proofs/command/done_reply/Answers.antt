use Rattle.std.proofs.Common.{sym, ◌∙◌}
use Rattle.oe_routes.proofs.CommandLemmas.{done_empty}
use Rattle.oe_routes.proofs.command.done_reply.Goals as goal

pub returns-in_default : goal.returns-in_default
returns-in_default c = c.empty_reply.ensures ∙ sym (done_empty c.args.command.now c.in_default.not-Store)
