use Rattle.std.proofs.Common.{◌≡◌, None}
use Rattle.oe_cell.specs.declared.cell.Cell.{Cell}
use Rattle.oe_dims.specs.Cube.{Cube}
use Rattle.oe_spool.specs.Least.{IsLeastOver}
use Rattle.oe_spool.specs.Spooled.{IsInSome}
use Rattle.oe_engine.specs.Chunks.{EachBench, HasNoOver, HasOnChunk}
use Rattle.oe_engine.specs.Runs.{chunks_from}
use Rattle.oe_engine.proofs.ChunkLemmas.{EachBefore}
use Rattle.oe_engine.proofs.chunks.least_of_chunks.Given as goal

abbrev pub invariant-loop-index : goal.invariant-loop-index
invariant-loop-index l = record {
  of_cubes : (cube : Cube Cell) → EachBench l.first (HasOnChunk l.plan cube) l.benches
      → IsLeastOver cube (IsInSome (chunks_from l.plan l.first l.index)) l.least;
  none : l.least ≡ None → EachBefore l.first l.index (HasNoOver l.plan) l.benches;
}
