use Rattle.std.proofs.Common.{[], refl, ◌≡◌, ◌+◌, ◌*◌, ◌≤◌, length, take, sym, ◌∙◌, subst, arith}
use Rattle.std.proofs.lemmas.List.{length-take}
use Rattle.oe_outside.proofs.Causes.{NeverFalls-refl, NeverFalls-trans}
use Rattle.oe_render.specs.Stored.{HasCells}
use Rattle.oe_render.proofs.Records.{AreStored-none, HasCells-part}
use Rattle.oe_render.proofs.Sending.{rendered_none, stored_next, stored_stops}
use Rattle.oe_render.proofs.rendering.send_stored.Goals as goal

pub loop-index-init : goal.loop-index-init
loop-index-init g c = record {
  sent = ([], AreStored-none (g.P.Store.bytes c.args.spool.now) c.args.base, rendered_none c.args.out.now c.args.pending.now (tt {0}));
  same = refl;
  falls = NeverFalls-refl (g.P.Store.faults c.args.spool.now);
  within = omega arith;
}

pub send_batch-requires-clause-stored : goal.send_batch-requires-clause-stored
send_batch-requires-clause-stored g c =
    let size : length (take c.min-size.result c.loop-index.buffer) ≡ c.min-size.result = omega (arith, length-take c.min-size.result c.loop-index.buffer, c.min-size.ensures, c.min-most.ensures, c.loop-index.auto.buffer) in
    let within : c.loop-index.index + c.min-size.result ≤ c.args.count = omega (arith, c.loop-index.invariant.within, c.min-size.ensures) in
    subst (λ n. HasCells (g.P.Store.bytes c.loop-index.spool) (c.args.base + 17 * c.loop-index.index) n) (sym size)
    (subst (λ store. HasCells store (c.args.base + 17 * c.loop-index.index) c.min-size.result) (sym c.loop-index.invariant.same)
    (HasCells-part (g.P.Store.bytes c.args.spool.now) c.args.base c.args.count c.loop-index.index c.min-size.result within c.requires.stored))

pub returns-in_err-send_batch-clause-sent : goal.returns-in_err-send_batch-clause-sent
returns-in_err-send_batch-clause-sent g c =
    let size : length (take c.min-size.result c.loop-index.buffer) ≡ c.min-size.result = omega (arith, length-take c.min-size.result c.loop-index.buffer, c.min-size.ensures, c.min-most.ensures, c.loop-index.auto.buffer) in
    let within : c.loop-index.index + c.min-size.result ≤ c.args.count = omega (arith, c.loop-index.invariant.within, c.min-size.ensures) in
    stored_stops c.args.count c.from_residual.result c.loop-index.invariant.same size within c.requires.stored c.loop-index.invariant.sent c.in_err-send_batch.ensures.sent c.from_residual.ensures.1

pub loop-index-preserved : goal.loop-index-preserved
loop-index-preserved g c =
    let size : length (take c.min-size.result c.loop-index.buffer) ≡ c.min-size.result = omega (arith, length-take c.min-size.result c.loop-index.buffer, c.min-size.ensures, c.min-most.ensures, c.loop-index.auto.buffer) in
    record {
      sent = stored_next c.loop-index.invariant.same size c.loop-index.invariant.sent c.in_ok-send_batch.ensures.sent;
      same = c.in_ok-send_batch.ensures.same ∙ c.loop-index.invariant.same;
      falls = NeverFalls-trans c.loop-index.invariant.falls c.in_ok-send_batch.ensures.cause.count;
      within = omega (arith, c.loop-index.invariant.within, c.min-size.ensures);
    }
