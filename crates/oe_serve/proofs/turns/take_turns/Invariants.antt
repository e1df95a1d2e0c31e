use Rattle.std.proofs.Common.{◌≡◌}
use Rattle.oe_service.specs.Causes.{outside}
use Rattle.oe_service.specs.GoesOn.{GoesOn, HasSizesOf, IsService, state_of}
use Rattle.oe_service.specs.States.{setting_of}
use Rattle.oe_sources.specs.CatalogueDims.{dims_of}
use Rattle.oe_sources.specs.CatalogueRows.{rows_of}
use Rattle.oe_serve.specs.Links.{link_of}
use Rattle.oe_serve.specs.Serves.{server_of}
use Rattle.oe_serve.specs.Steps.{SoFar}
use Rattle.oe_serve.specs.Turns.{door_of, situation}
use Rattle.oe_serve.proofs.turns.take_turns.Given as goal

abbrev pub invariant-loop : goal.invariant-loop
invariant-loop g l =
    record {
      service : IsService l.service;
      sizes : HasSizesOf l.initial.service l.service;
      going : GoesOn l.service.run (rows_of (λ z. (goal.SharedSource-dyn g z).CubeSource.seen z.1) l.catalogue) (g.P.Store.bytes l.spool);
      clock : g.C.Clock.moment l.clock ≡ g.C.Clock.moment l.initial.clock;
      so_far : SoFar (link_of g.D.Conn.Link.left g.D.Conn.Link.written g.D.Conn.Link.faults)
          (server_of l.setup.site.now l.initial.service.size l.initial.service.workers)
          (setting_of (dims_of (rows_of (λ z. (goal.SharedSource-dyn g z).CubeSource.seen z.1) l.initial.catalogue)) l.initial.service.size
          l.initial.service.workers)
          (g.C.Clock.moment l.initial.clock)
          (situation (state_of l.initial.service)
          (outside (rows_of (λ z. (goal.SharedSource-dyn g z).CubeSource.seen z.1) l.initial.catalogue) (g.P.Store.bytes l.initial.spool)
          (g.P.Store.faults l.initial.spool) (g.K.Keeper.kept l.initial.keeper) (g.K.Keeper.faults l.initial.keeper))
          (g.K.Keeper.has_failed l.initial.keeper))
          (situation (state_of l.service)
          (outside (rows_of (λ z. (goal.SharedSource-dyn g z).CubeSource.seen z.1) l.catalogue) (g.P.Store.bytes l.spool)
          (g.P.Store.faults l.spool) (g.K.Keeper.kept l.keeper) (g.K.Keeper.faults l.keeper))
          (g.K.Keeper.has_failed l.keeper))
          (door_of g.D.Door.visible g.D.Door.faults g.D.Door.dial_faults l.initial.door)
          (door_of g.D.Door.visible g.D.Door.faults g.D.Door.dial_faults l.door)
          l.counter;
    }
