use Rattle.std.proofs.Common.{◌≡◌, ◌+◌, ◌*◌, ℕ, length}
use Rattle.std.specs.List.{All}
use Rattle.oe_plan.specs.Figures.{largest_window}
use Rattle.oe_sources.specs.CatalogueRows.{rows_of}
use Rattle.oe_sources.specs.Permits.{SpendsAtMost}
use Rattle.oe_engine.specs.Chunks.{EachBench}
use Rattle.oe_engine.specs.Hulls.{HasLoadedSteps, IsBegun}
use Rattle.oe_engine.proofs.ChunkLemmas.{EachBefore, EachFrom}
use Rattle.oe_engine.proofs.hulls.load_each.Given as goal

abbrev pub invariant-loop-index : goal.invariant-loop-index
invariant-loop-index g l =
    let rows = rows_of (λ z. (goal.SharedSource-dyn g z).CubeSource.seen z.1) l.catalogue in
    record {
      many : length l.benches ≡ length l.fn.benches;
      spent : SpendsAtMost (l.index * largest_window l.plan.graph l.plan.size) l.fn.looker l.looker;
      begun : All (IsBegun l.plan) l.benches;
      loaded : (first : ℕ) → EachBench first (HasLoadedSteps l.plan rows l.step) l.fn.benches
          → EachBefore first l.index (HasLoadedSteps l.plan rows (l.step + 1)) l.benches
          × EachFrom first l.index (HasLoadedSteps l.plan rows l.step) l.benches;
    }
