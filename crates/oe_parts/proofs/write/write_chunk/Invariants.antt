use Rattle.std.proofs.Common.{◌≡◌, ◌*◌, Ok, take}
use Rattle.oe_cell.specs.Record.{records_of}
use Rattle.oe_cell.specs.declared.cell.Cell.{Cell}
use Rattle.oe_cell.specs.declared.cell.Cell.TheVariants.{Empty}
use Rattle.oe_dims.specs.Cube.{Cube}
use Rattle.oe_outside.specs.Faults.{NeverFalls}
use Rattle.oe_render.specs.Rendered.{HasRendered}
use Rattle.oe_window.specs.Cells.{cells_on}
use Rattle.oe_window.specs.Windows.{IsIn, span_length}
use Rattle.oe_parts.specs.Sent.{SendsRecords}
use Rattle.oe_parts.specs.Spooled.{ShowsRecords}
use Rattle.oe_parts.proofs.write.write_chunk.Given as goal

abbrev pub invariant-loop-number : goal.invariant-loop-number
invariant-loop-number g l = record {
  sent : (cube : Cube Cell) → cube.shape ≡ l.shape → ShowsRecords (g.P.Store.bytes l.fn.spool) l.base cube (IsIn l.window)
      → HasRendered g.O.Sink.written g.O.Sink.size g.O.Sink.faults l.fn.out l.fn.pending (records_of (take (l.number * span_length l.window.x) (cells_on Empty cube l.window))) l.out l.pending (Ok (tt {0}));
  records : SendsRecords (g.O.Sink.written l.fn.out) (g.O.Sink.size l.fn.out) l.fn.pending (l.number * span_length l.window.x) (g.O.Sink.written l.out) (g.O.Sink.size l.out) l.pending;
  same : g.P.Store.bytes l.spool ≡ g.P.Store.bytes l.fn.spool;
  spool_falls : NeverFalls (g.P.Store.faults l.fn.spool) (g.P.Store.faults l.spool);
  sink_falls : NeverFalls (g.O.Sink.faults l.fn.out) (g.O.Sink.faults l.out);
}
