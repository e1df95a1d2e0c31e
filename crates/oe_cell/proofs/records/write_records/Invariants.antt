use Rattle.std.proofs.Common.{◌≡◌, ◌*◌, take}
use Rattle.oe_cell.specs.Record.{records_of}
use Rattle.oe_cell.proofs.records.write_records.Given as goal

abbrev pub invariant-loop-k : goal.invariant-loop-k
invariant-loop-k l = take (17 * l.k) l.into ≡ records_of (take l.k l.fn.cells)
