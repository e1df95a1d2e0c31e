use Rattle.std.proofs.Common.{◌≡◌, ◌+◌, ℕ, List, length}
use Rattle.std.specs.List.{All}
use Rattle.oe_sources.specs.Catalogue.{Row}
use Rattle.oe_window.specs.Parts.{row_of}
use Rattle.oe_engine.specs.Benches.{node_at}
use Rattle.oe_engine.specs.Chunks.{EachBench}
use Rattle.oe_engine.specs.Hulls.{HasLoadedRows, IsStripped}
use Rattle.oe_steps.specs.Loads.{AreLoaded}
use Rattle.oe_engine.proofs.ChunkLemmas.{EachBefore, EachFrom}
use Rattle.oe_engine.proofs.hulls.deal_row.Given as goal

abbrev pub invariant-loop-index : goal.invariant-loop-index
invariant-loop-index l = record {
  many : length l.benches ≡ length l.fn.benches;
  stripped : All (IsStripped l.plan l.hull l.step) l.benches;
  loaded : (rows : List Row) (first : ℕ) → AreLoaded l.plan.graph rows (node_at l.plan l.step) (row_of l.hull l.number) l.row
      → EachBench first (HasLoadedRows l.plan rows l.step l.number) l.fn.benches
      → EachBefore first l.index (HasLoadedRows l.plan rows l.step (l.number + 1)) l.benches
      × EachFrom first l.index (HasLoadedRows l.plan rows l.step l.number) l.benches;
}
