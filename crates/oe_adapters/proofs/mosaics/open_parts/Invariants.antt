use Rattle.std.proofs.Common.{◌≡◌, length}
use Rattle.oe_adapters.proofs.mosaics.open_parts.Given as goal

abbrev pub invariant-loop-index : goal.invariant-loop-index
invariant-loop-index g l = length l.parts ≡ l.index
