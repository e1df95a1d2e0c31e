use Rattle.std.proofs.Common.{◌≡◌, ◌*◌, ◌≤◌, length}
use Rattle.oe_plan.specs.Schedules.{node_at}
use Rattle.oe_sources.specs.CatalogueRows.{rows_of}
use Rattle.oe_sources.specs.Permits.{SpendsAtMost}
use Rattle.oe_window.specs.Parts.{plane_size}
use Rattle.oe_window.specs.Windows.{position_count}
use Rattle.oe_steps.specs.Loads.{HasLoadedTo}
use Rattle.oe_steps.proofs.loading.look_step.Given as goal

abbrev pub invariant-loop-number : goal.invariant-loop-number
invariant-loop-number g l =
    let rows = rows_of (λ z. (goal.SharedSource-dyn g z).CubeSource.seen z.1) l.catalogue in
    record {
      done_is : l.done ≡ l.number * plane_size l.window;
      within : l.done ≤ length l.buffer;
      room : position_count l.window ≤ length l.buffer;
      spent : SpendsAtMost l.done l.fn.looker l.looker;
      loaded : HasLoadedTo l.checked rows (node_at l.schedule l.step) l.window l.done l.buffer;
    }
