use Rattle.std.proofs.Common.{false}
use Rattle.oe_routes.proofs.command.delete_action.Goals as goal

pub returns-clause-valid : goal.returns-clause-valid
returns-clause-valid c = c.command_action.ensures.valid false
