use Rattle.std.proofs.Common.{◌≡◌, ◌-◌, ◌≤◌, ◌^◌}
use Rattle.std.specs.List.{All}
use Rattle.oe_cell.specs.Cells.{IsCell}
use Rattle.oe_cell.specs.declared.cell.Cell.{Cell}
use Rattle.oe_dims.specs.Cube.{Cube}
use Rattle.oe_outside.specs.Faults.{NeverFalls}
use Rattle.oe_spool.specs.Spooled.{ChangesOnly}
use Rattle.oe_parts.specs.Laid.{AreLaid, HaveRecords, IsInFirst, IsInPart}
use Rattle.oe_parts.specs.PartFile.{cells_on_all, chunks_of}
use Rattle.oe_parts.specs.Rows.{HaveRecordsAt, Shows}
use Rattle.oe_parts.proofs.CellLemmas.{cells_until}
use Rattle.oe_parts.proofs.LayLemmas.{chunk_sets}
use Rattle.oe_parts.proofs.laying.lay_part.Given as goal

abbrev pub invariant-loop-chunk : goal.invariant-loop-chunk
invariant-loop-chunk g l = record {
  done : l.done ≡ cells_until l.head (l.chunk - l.head.first);
  few : l.done ≤ 2 ^ 43;
  cube : (cube : Cube Cell) → cube.shape ≡ l.head.shape → All IsCell (cells_on_all cube (chunks_of l.head)) → Shows (g.S.Store.bytes l.fn.store) l.at (cells_on_all cube (chunks_of l.head))
      → AreLaid (g.P.Store.bytes l.spool) l.base cube (IsInFirst (chunk_sets l.head) (l.chunk - l.head.first)) l.least;
  some : HaveRecords (g.P.Store.bytes l.spool) l.base l.head.shape (IsInFirst (chunk_sets l.head) (l.chunk - l.head.first)) l.least;
  sound : HaveRecordsAt (g.S.Store.bytes l.fn.store) l.at l.done;
  changes : ChangesOnly l.base l.head.shape (IsInPart l.head) (g.P.Store.bytes l.fn.spool) (g.P.Store.bytes l.spool);
  same : g.S.Store.bytes l.store ≡ g.S.Store.bytes l.fn.store;
  part_falls : NeverFalls (g.S.Store.faults l.fn.store) (g.S.Store.faults l.store);
  spool_falls : NeverFalls (g.P.Store.faults l.fn.spool) (g.P.Store.faults l.spool);
}
