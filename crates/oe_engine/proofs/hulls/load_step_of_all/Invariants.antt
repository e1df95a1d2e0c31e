use Rattle.std.proofs.Common.{◌-◌, ◌*◌, length}
use Rattle.oe_plan.specs.Figures.{largest_window}
use Rattle.oe_sources.specs.CatalogueRows.{rows_of}
use Rattle.oe_sources.specs.Permits.{SpendsAtMost}
use Rattle.oe_engine.proofs.PieceLemmas.{HasLoadedFirst}
use Rattle.oe_engine.proofs.hulls.load_step_of_all.Given as goal

abbrev pub invariant-loop-first : goal.invariant-loop-first
invariant-loop-first g l =
    let rows = rows_of (λ z. (goal.SharedSource-dyn g z).CubeSource.seen z.1) l.catalogue in
    record {
      spent : SpendsAtMost (l.first * largest_window l.plan.graph l.plan.size) l.fn.looker l.looker;
      first : HasLoadedFirst l.plan l.step l.first rows l.fn.benches l.benches;
    }

abbrev pub decreases-loop-first : goal.decreases-loop-first
decreases-loop-first g l = length l.benches - l.first
