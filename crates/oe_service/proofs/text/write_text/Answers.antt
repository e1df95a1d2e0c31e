use Rattle.std.proofs.Common.{◌≡◌, ℕ, List, Err, refl, sym, ap, subst}
use Rattle.oe_dims.specs.Dimensions.{cell_count}
use Rattle.oe_engine.specs.Runs.{result_shape}
use Rattle.oe_outside.specs.Faults.{Rose}
use Rattle.oe_outside.specs.Memory.{BoundedState}
use Rattle.oe_sources.specs.Catalogue.{Row}
use Rattle.oe_engine.specs.Going.{IsGoing}
use Rattle.oe_service.specs.Causes.{TextRefused}
use Rattle.oe_service.specs.declared.refusal.RunRefusal.{RunRefusal}
use Rattle.oe_service.specs.declared.refusal.RunRefusal.TheVariants.{OutOfMemory}
use Rattle.oe_service.proofs.AssetTextLemmas.{no_room, not_written, rose_above, text_made, text_not_made}
use Rattle.oe_service.proofs.RefusalLemmas.{handed_on}
use Rattle.oe_service.proofs.text.write_text.Goals as goal

pub returns-in_err-sink-clause-refused : goal.returns-in_err-sink-clause-refused
returns-in_err-sink-clause-refused g c =
    let r = c.args.run.now in
    let store = g.P.Store.bytes c.args.spool.now in
    let faults = g.P.Store.faults c.args.spool.now in
    handed_on (λ (reason : RunRefusal). (rows : List Row) → IsGoing r rows store
    → TextRefused r.plan.graph rows store faults faults reason) OutOfMemory c.from_residual.result c.from_residual.ensures.1
    (no_room r store c.requires.complete c.requires.numbers faults faults)

pub returns-in_err-pending-clause-refused : goal.returns-in_err-pending-clause-refused
returns-in_err-pending-clause-refused g c =
    let r = c.args.run.now in
    let store = g.P.Store.bytes c.args.spool.now in
    let faults = g.P.Store.faults c.args.spool.now in
    handed_on (λ (reason : RunRefusal). (rows : List Row) → IsGoing r rows store
    → TextRefused r.plan.graph rows store faults faults reason) OutOfMemory c.from_residual-in_err-pending.result
    c.from_residual-in_err-pending.ensures.1 (no_room r store c.requires.complete c.requires.numbers faults faults)

pub returns-in-Ok-clause-text : goal.returns-in-Ok-clause-text
returns-in-Ok-clause-text g c =
    text_made c.args.run.now (g.P.Store.bytes c.args.spool.now) c.requires.complete c.requires.numbers
    c.in_ok-sink.sink.written c.render.new.out.written (ap (λ (s : BoundedState). s.written) c.in_ok-sink.ensures)
    c.text_in_sink.result c.in-Ok.ensures.text c.text_in_sink.ensures.text c.text_in_sink.ensures.short

pub returns-in-Ok-clause-refused : goal.returns-in-Ok-clause-refused
returns-in-Ok-clause-refused g c =
    text_not_made c.args.run.now (g.P.Store.bytes c.args.spool.now) c.requires.complete c.requires.numbers
    c.in_ok-sink.sink.written c.render.new.out.written (ap (λ (s : BoundedState). s.written) c.in_ok-sink.ensures)
    c.text_in_sink.result (g.P.Store.faults c.args.spool.now) (g.P.Store.faults c.render.new.spool) c.in-Ok.ensures.text
    c.in-Ok.ensures.cells c.text_in_sink.ensures.refused

pub returns-in-Err-clause-refused : goal.returns-in-Err-clause-refused
returns-in-Err-clause-refused g c = λ rows going.
    let r = c.args.run.now in
    let store = g.P.Store.bytes c.args.spool.now in
    let faults = g.P.Store.faults c.args.spool.now in
    let after = g.P.Store.faults c.render.new.spool in
    let none : c.in_ok-sink.sink.faults ≡ 0 = ap (λ (s : BoundedState). s.faults) c.in_ok-sink.ensures in
    subst (λ (reason : RunRefusal). TextRefused r.plan.graph rows store faults after reason) (sym c.of_text.ensures)
    (not_written r store c.requires.complete c.requires.numbers c.in_ok-sink.sink.written c.render.new.out.written
    (ap (λ (s : BoundedState). s.written) c.in_ok-sink.ensures) faults after (cell_count (result_shape r.plan))
    (Err c.in-Err.fail) c.in-Err.fail refl c.in-Err.ensures.prefix c.in-Err.ensures.spool_cause c.in-Err.ensures.damage
    (λ is. c.is_full-full.ensures.full.0 (c.is_full-full.ensures.failed (rose_above c.render.new.out.faults
    (subst (λ (n : ℕ). Rose n c.render.new.out.faults) none (c.in-Err.ensures.sink_cause.failed (ap Err is))))))
    rows going)
