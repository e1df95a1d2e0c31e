use Rattle.std.proofs.Common.{◌∙◌}
use Rattle.oe_dims.proofs.OrderLemmas.{same_name-bytes_eq}
use Rattle.oe_dims.proofs.order.same_text.Goals as goal

pub returns : goal.returns
returns c = c.eq.ensures ∙ same_name-bytes_eq c.args.a.now c.args.b.now
