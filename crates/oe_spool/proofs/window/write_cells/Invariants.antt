use Rattle.std.proofs.Common.{◌≡◌, ◌-◌, ◌*◌, ◌≤◌, length, take}
use Rattle.oe_cell.specs.Record.{records_of}
use Rattle.oe_outside.specs.Faults.{NeverFalls}
use Rattle.oe_outside.specs.Stored.{StaysOutside, StoreHolds}
use Rattle.oe_spool.proofs.window.write_cells.Given as goal

abbrev pub invariant-loop-done : goal.invariant-loop-done
invariant-loop-done g l = record {
  within : l.done ≤ length l.cells;
  room : length l.bytes ≡ 69632;
  written : StoreHolds (g.P.Store.bytes l.spool) l.at (records_of (take l.done l.cells));
  outside : StaysOutside (g.P.Store.bytes l.initial.spool) l.at (17 * length l.cells) (g.P.Store.bytes l.spool);
  count : NeverFalls (g.P.Store.faults l.initial.spool) (g.P.Store.faults l.spool);
}

abbrev pub decreases-loop-done : goal.decreases-loop-done
decreases-loop-done g l = length l.cells - l.done
