use Rattle.std.proofs.Common.{◌≡◌, ◌-◌, ◌≤◌}
use Rattle.oe_parts.proofs.CellLemmas.{cells_until}
use Rattle.oe_parts.proofs.part.ends_at.Given as goal

abbrev pub invariant-loop-chunk : goal.invariant-loop-chunk
invariant-loop-chunk l = record {
  sum : l.cells ≡ cells_until l.head (l.chunk - l.head.first);
  few : l.cells ≤ l.most;
  room : l.base ≤ l.total;
}
