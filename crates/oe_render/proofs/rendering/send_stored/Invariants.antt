use Rattle.std.proofs.Common.{◌≡◌, ◌≤◌, ◌-◌, Ok}
use Rattle.oe_outside.specs.Faults.{NeverFalls}
use Rattle.oe_render.specs.Rendered.{HasSentStored}
use Rattle.oe_render.proofs.rendering.send_stored.Given as goal

abbrev pub invariant-loop-index : goal.invariant-loop-index
invariant-loop-index g l = record {
  sent : HasSentStored (g.P.Store.bytes l.fn.spool) l.fn.base l.index 0 g.O.Sink.written g.O.Sink.size g.O.Sink.faults l.fn.out l.fn.pending l.out l.pending (Ok (tt {0}));
  same : g.P.Store.bytes l.spool ≡ g.P.Store.bytes l.fn.spool;
  falls : NeverFalls (g.P.Store.faults l.fn.spool) (g.P.Store.faults l.spool);
  within : l.index ≤ l.count;
}

abbrev pub decreases-loop-index : goal.decreases-loop-index
decreases-loop-index g l = l.count - l.index
