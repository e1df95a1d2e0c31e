use Rattle.std.proofs.Common.{w64}
use Rattle.std.proofs.lemmas.Int.{to_z-of_z}
use Rattle.oe_cell.proofs.OppositeLemmas.{IsNumber-whole}
use Rattle.oe_cell.proofs.frac.Frac.whole.Goals as goal

pub invariant_of-result : goal.invariant_of-result
invariant_of-result c = rw (to_z-of_z w64 c.args.num c.ranges.num) (IsNumber-whole c.args.num c.requires)
