use Rattle.std.proofs.Common.{◌*◌, None, take}
use Rattle.oe_parts.specs.Rows.{AreRecords}
use Rattle.oe_parts.proofs.read.judge.Given as goal

abbrev pub invariant-loop-index : goal.invariant-loop-index
invariant-loop-index l = AreRecords l.index (take (17 * l.index) l.bytes) None
