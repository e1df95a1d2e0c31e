use Rattle.std.proofs.Common.{◌≤◌, length}
use Rattle.oe_adapters.proofs.collections.names_ending.Given as goal

abbrev pub invariant-loop-end : goal.invariant-loop-end
invariant-loop-end l = l.start ≤ l.end
