use Rattle.std.proofs.Common.{◌∙◌}
use Rattle.oe_requests.specs.Parameters.{extent_in}
use Rattle.oe_explain.proofs.Tests.{each_some}
use Rattle.oe_explain.proofs.held.are_pairs.Goals as goal

pub returns : goal.returns
returns c = c.are_all_pairs.ensures ∙ each_some extent_in c.args.args.now
