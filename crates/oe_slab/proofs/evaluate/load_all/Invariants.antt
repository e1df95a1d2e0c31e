use Rattle.std.proofs.Common.{◌*◌, Ok}
use Rattle.oe_sources.specs.CatalogueRows.{rows_of}
use Rattle.oe_steps.specs.Buffers.{lists_of}
use Rattle.oe_steps.specs.Loads.{HasRead, IsLoadedAt}
use Rattle.oe_steps.specs.Steps.{EachLive, HaveRoomFor}
use Rattle.oe_slab.proofs.evaluate.load_all.Given as goal

-- the steps so far are loaded
abbrev pub invariant-loop-step : goal.invariant-loop-step
invariant-loop-step g l =
    let before = rows_of (λ z. (goal.SharedSource-dyn g z).CubeSource.seen z.1) l.fn.catalogue in
    let now = rows_of (λ z. (goal.SharedSource-dyn g z).CubeSource.seen z.1) l.catalogue in
    record {
      room : HaveRoomFor l.schedule (lists_of l.buffers);
      read : HasRead l.checked (l.step * l.schedule.largest) before now (Ok tt);
      loaded : EachLive l.checked l.schedule l.step (IsLoadedAt l.checked l.schedule before l.windows (lists_of l.buffers));
    }
