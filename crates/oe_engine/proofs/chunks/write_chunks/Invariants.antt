use Rattle.oe_outside.specs.Faults.{NeverFalls}
use Rattle.oe_plan.specs.Figures.{shape_of_node}
use Rattle.oe_spool.specs.Spooled.{ChangesOnly, IsInSome}
use Rattle.oe_engine.specs.Chunks.{HasRecordsOf, HasValidCells}
use Rattle.oe_engine.specs.Runs.{chunks_from}
use Rattle.oe_engine.proofs.ChunkLemmas.{EachBefore}
use Rattle.oe_engine.proofs.chunks.write_chunks.Given as goal

abbrev pub invariant-loop-index : goal.invariant-loop-index
invariant-loop-index g l = record {
  written : EachBefore l.first l.index (HasRecordsOf l.plan (g.P.Store.bytes l.spool) l.base) l.benches;
  valid : EachBefore l.first l.index (HasValidCells l.plan) l.benches;
  changes : ChangesOnly l.base (shape_of_node l.plan.graph l.plan.graph.result) (IsInSome (chunks_from l.plan l.first l.index))
      (g.P.Store.bytes l.initial.spool) (g.P.Store.bytes l.spool);
  faults : NeverFalls (g.P.Store.faults l.initial.spool) (g.P.Store.faults l.spool);
}
