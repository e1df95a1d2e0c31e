use Rattle.std.proofs.Common.{◌≡◌, ◌*◌, ℕ, length}
use Rattle.std.specs.List.{All}
use Rattle.oe_sources.specs.CatalogueRows.{rows_of}
use Rattle.oe_sources.specs.Permits.{SpendsAtMost}
use Rattle.oe_window.specs.Windows.{span_length}
use Rattle.oe_engine.specs.Chunks.{EachBench}
use Rattle.oe_engine.specs.Hulls.{HasLoadedRows, HasLoadedSteps, IsStripped}
use Rattle.oe_engine.proofs.hulls.load_rows.Given as goal

abbrev pub invariant-loop-number : goal.invariant-loop-number
invariant-loop-number g l =
    let rows = rows_of (λ z. (goal.SharedSource-dyn g z).CubeSource.seen z.1) l.catalogue in
    record {
      many : length l.benches ≡ length l.fn.benches;
      spent : SpendsAtMost (l.number * span_length l.hull.x) l.fn.looker l.looker;
      stripped : All (IsStripped l.plan l.hull l.step) l.benches;
      loaded : (first : ℕ) → EachBench first (HasLoadedSteps l.plan rows l.step) l.fn.benches
          → EachBench first (HasLoadedRows l.plan rows l.step l.number) l.benches;
    }
