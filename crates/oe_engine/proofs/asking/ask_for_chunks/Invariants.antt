use Rattle.std.proofs.Common.{◌≡◌, ◌*◌, Ok}
use Rattle.oe_sources.specs.CatalogueRows.{rows_of, seal_of}
use Rattle.oe_steps.specs.Loads.{HasRead}
use Rattle.oe_engine.proofs.asking.ask_for_chunks.Given as goal

abbrev pub invariant-loop-step : goal.invariant-loop-step
invariant-loop-step g l =
    let before = rows_of (λ z. (goal.SharedSource-dyn g z).CubeSource.seen z.1) l.fn.catalogue in
    let now = rows_of (λ z. (goal.SharedSource-dyn g z).CubeSource.seen z.1) l.catalogue in
    record {
      read : HasRead l.plan.graph (l.step * l.cells) before now (Ok tt);
      left : l.permit.left ≡ l.step * l.cells;
      own : l.permit.seal ≡ seal_of l.catalogue;
    }
