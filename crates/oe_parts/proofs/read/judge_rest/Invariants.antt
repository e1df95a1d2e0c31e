use Rattle.std.proofs.Common.{◌*◌, Some, take}
use Rattle.oe_parts.specs.Rows.{AreRecords}
use Rattle.oe_parts.proofs.read.judge_rest.Given as goal

abbrev pub invariant-loop-index : goal.invariant-loop-index
invariant-loop-index l = AreRecords l.index (take (17 * l.index) l.bytes) (Some l.over)
