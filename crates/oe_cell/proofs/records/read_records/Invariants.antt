use Rattle.std.proofs.Common.{◌≡◌, ◌*◌, take, drop}
use Rattle.std.specs.List.{All}
use Rattle.oe_cell.specs.Cells.{IsCell}
use Rattle.oe_cell.specs.Record.{records_of}
use Rattle.oe_cell.proofs.records.read_records.Given as goal

abbrev pub invariant-loop-k : goal.invariant-loop-k
invariant-loop-k l = record {
  read : records_of (take l.k l.into) ≡ take (17 * l.k) l.fn.bytes;
  cells : All IsCell (take l.k l.into);
  others : drop l.k l.into ≡ drop l.k l.fn.into;
}
