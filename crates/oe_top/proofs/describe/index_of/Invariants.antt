use Rattle.std.proofs.Common.{◌≡◌, drop}
use Rattle.oe_top.specs.DescribeAnswer.{row_named}
use Rattle.oe_top.proofs.describe.index_of.Given as goal

-- no row before has the id
abbrev pub invariant-loop-index : goal.invariant-loop-index
invariant-loop-index l = row_named l.rows l.id ≡ row_named (drop l.index l.rows) l.id
