use Rattle.std.proofs.Common.{◌≡◌, ◌≤◌, ◌+◌, length}
use Rattle.oe_dims.specs.Lists.{lines_of}
use Rattle.oe_routes.specs.Tokens.{entries_from, entries_in}
use Rattle.oe_routes.proofs.tokens.read_entries.Given as goal

abbrev pub invariant-loop-rest : goal.invariant-loop-rest
invariant-loop-rest l = record {
  left : entries_in l.bytes ≡ entries_from l.entries.items (lines_of l.rest);
  counted : l.number ≡ length l.entries.items + 1;
  few : length l.entries.items ≤ 8;
}

abbrev pub decreases-loop-rest : goal.decreases-loop-rest
decreases-loop-rest l = length l.rest
