use Rattle.oe_top.proofs.Joins.{named_at}
use Rattle.oe_top.proofs.join.name_of.Goals as goal

pub returns : goal.returns
returns g c = named_at c.args.parts.now c.args.index c.requires c.name.result.now c.name.ensures.value c.of.result c.of.ensures
