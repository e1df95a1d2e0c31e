use Rattle.std.proofs.Common.{arith}
use Rattle.std.proofs.lemmas.Grind.{common_steps}
use Rattle.oe_parts.proofs.head.read_value.Goals as goal

pub returns-in_default-read_range : goal.returns-in_default-read_range
returns-in_default-read_range c h valid says = c.in_default-read_range.ensures h.first h.end says.range

pub returns-in_default-2 : goal.returns-in_default-2
returns-in_default-2 c = grind (arith, common_steps) steps 2000000

pub returns-in_default-read_kind : goal.returns-in_default-read_kind
returns-in_default-read_kind c = grind (arith, common_steps) steps 2000000

pub returns-in_default-read_sides : goal.returns-in_default-read_sides
returns-in_default-read_sides c = grind (arith, common_steps) steps 2000000
