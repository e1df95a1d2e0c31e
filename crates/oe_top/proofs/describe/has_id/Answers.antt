use Rattle.std.proofs.Common.{◌∙◌}
use Rattle.oe_dims.proofs.OrderLemmas.{same_name-bytes_eq}
use Rattle.oe_top.proofs.describe.has_id.Goals as goal

pub returns : goal.returns
returns c = rw c.as_str.ensures at c.eq.ensures ∙ same_name-bytes_eq c.args.row.now.id c.args.id.now
