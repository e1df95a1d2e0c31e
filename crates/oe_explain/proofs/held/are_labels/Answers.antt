use Rattle.std.proofs.Common.{◌∙◌}
use Rattle.oe_requests.specs.Parameters.{instant_in}
use Rattle.oe_explain.proofs.Tests.{each_some}
use Rattle.oe_explain.proofs.held.are_labels.Goals as goal

pub returns : goal.returns
returns c = c.are_all_instants.ensures ∙ each_some instant_in c.args.args.now
