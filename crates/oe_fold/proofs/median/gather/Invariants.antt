use Rattle.std.proofs.Common.{◌≡◌, ◌≤◌, length, take}
use Rattle.oe_fold.specs.Counted.{counted_cells}
use Rattle.oe_fold.proofs.median.gather.Given as goal

abbrev pub invariant-loop-cell : goal.invariant-loop-cell
invariant-loop-cell l = record {
  within : l.n ≤ l.cell-index;
  room : length l.cells ≤ length l.scratch;
  front : take l.n l.scratch ≡ counted_cells l.ignore (take l.cell-index l.cells);
}
