use Rattle.std.proofs.Common.{◌≡◌, ◌*◌}
use Rattle.std.specs.List.{All}
use Rattle.oe_cell.specs.Cells.{IsCell}
use Rattle.oe_cell.specs.declared.cell.Cell.{Cell}
use Rattle.oe_cell.specs.declared.cell.Cell.TheVariants.{Empty}
use Rattle.oe_dims.specs.Cube.{Cube}
use Rattle.oe_outside.specs.Faults.{NeverFalls}
use Rattle.oe_spool.specs.Spooled.{ChangesOnly}
use Rattle.oe_window.specs.Cells.{cells_on}
use Rattle.oe_window.specs.Windows.{IsIn, span_length}
use Rattle.oe_parts.specs.Laid.{AreLaid, HaveRecords, IsInFirst}
use Rattle.oe_parts.specs.Rows.{HaveRecordsAt, Shows}
use Rattle.oe_parts.proofs.RowLaidLemmas.{rows_of}
use Rattle.oe_parts.proofs.laying.lay_chunk.Given as goal

abbrev pub invariant-loop-number : goal.invariant-loop-number
invariant-loop-number g l = record {
  cube : (cube : Cube Cell) → cube.shape ≡ l.shape → All IsCell (cells_on Empty cube l.window) → Shows (g.S.Store.bytes l.fn.store) l.at (cells_on Empty cube l.window)
      → AreLaid (g.P.Store.bytes l.spool) l.base cube (IsInFirst (rows_of l.window) l.number) l.least;
  some : HaveRecords (g.P.Store.bytes l.spool) l.base l.shape (IsInFirst (rows_of l.window) l.number) l.least;
  sound : HaveRecordsAt (g.S.Store.bytes l.fn.store) l.at (l.number * span_length l.window.x);
  changes : ChangesOnly l.base l.shape (IsIn l.window) (g.P.Store.bytes l.fn.spool) (g.P.Store.bytes l.spool);
  same : g.S.Store.bytes l.store ≡ g.S.Store.bytes l.fn.store;
  part_falls : NeverFalls (g.S.Store.faults l.fn.store) (g.S.Store.faults l.store);
  spool_falls : NeverFalls (g.P.Store.faults l.fn.spool) (g.P.Store.faults l.spool);
}
