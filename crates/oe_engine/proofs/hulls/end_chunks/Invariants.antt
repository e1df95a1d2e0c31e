use Rattle.std.proofs.Common.{◌≡◌, ℕ, List, length}
use Rattle.std.specs.List.{All}
use Rattle.oe_plan.specs.Plans.{IsPlan, PlanOf}
use Rattle.oe_sources.specs.Catalogue.{Row}
use Rattle.oe_engine.specs.Chunks.{EachBench}
use Rattle.oe_engine.specs.Hulls.{HasLoadedSteps, IsBegun, LoadsFirst}
use Rattle.oe_engine.specs.Loads.{LoadsBench}
use Rattle.oe_engine.proofs.ChunkLemmas.{EachBefore, EachFrom}
use Rattle.oe_engine.proofs.hulls.end_chunks.Given as goal

abbrev pub invariant-loop-index : goal.invariant-loop-index
invariant-loop-index l = record {
  many : length l.benches ≡ length l.fn.benches;
  loaded : (p : PlanOf) (rows : List Row) (count : ℕ) → IsPlan p → LoadsFirst p count → All (IsBegun p) l.fn.benches
      → EachBench l.first (HasLoadedSteps p rows count) l.fn.benches
      → EachBefore l.first l.index (LoadsBench p rows) l.benches
      × (EachFrom 0 l.index (λ k b. IsBegun p b) l.benches × EachFrom l.first l.index (HasLoadedSteps p rows count) l.benches);
}
