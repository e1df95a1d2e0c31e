use Rattle.std.proofs.Common.{◌≡◌, ◌-◌, Ok, length, map}
use Rattle.std.specs.List.{range_with_len}
use Rattle.oe_cell.specs.Record.{records_of}
use Rattle.oe_cell.specs.declared.cell.Cell.{Cell}
use Rattle.oe_dims.specs.Cube.{Cube}
use Rattle.oe_outside.specs.Faults.{NeverFalls}
use Rattle.oe_render.specs.Rendered.{HasRendered}
use Rattle.oe_window.specs.Chunks.{chunk_window}
use Rattle.oe_parts.specs.Head.{grid_of}
use Rattle.oe_parts.specs.PartFile.{cells_on_all}
use Rattle.oe_parts.specs.Sent.{SendsRecords}
use Rattle.oe_parts.specs.Spooled.{ShowsPart}
use Rattle.oe_parts.proofs.CellLemmas.{cells_until}
use Rattle.oe_parts.proofs.write.write_chunks.Given as goal

abbrev pub invariant-loop-chunk : goal.invariant-loop-chunk
invariant-loop-chunk g l = record {
  sent : (cube : Cube Cell) → ShowsPart (g.P.Store.bytes l.fn.spool) l.base l.head cube
      → HasRendered g.O.Sink.written g.O.Sink.size g.O.Sink.faults l.fn.out l.fn.pending (records_of (cells_on_all cube (map (chunk_window (grid_of l.head)) (range_with_len l.head.first (l.chunk - l.head.first))))) l.out l.pending (Ok (tt {0}));
  records : SendsRecords (g.O.Sink.written l.fn.out) (g.O.Sink.size l.fn.out) l.fn.pending (cells_until l.head (l.chunk - l.head.first)) (g.O.Sink.written l.out) (g.O.Sink.size l.out) l.pending;
  same : g.P.Store.bytes l.spool ≡ g.P.Store.bytes l.fn.spool;
  spool_falls : NeverFalls (g.P.Store.faults l.fn.spool) (g.P.Store.faults l.spool);
  sink_falls : NeverFalls (g.O.Sink.faults l.fn.out) (g.O.Sink.faults l.out);
  bytes : length l.bytes ≡ 69632;
}
