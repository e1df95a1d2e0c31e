use Rattle.std.proofs.Common.{◌≡◌, Err, ap, refl}
use Rattle.oe_sources.specs.CatalogueRows.{rows_of}
use Rattle.oe_top.proofs.Repackings.{damaged, if_visible, no_memory, repacked, unread, unwritten}
use Rattle.oe_top.specs.Objects.{objects}
use Rattle.oe_top.proofs.repack.write_anew.Goals as goal

pub returns-in-Ok : goal.returns-in-Ok
returns-in-Ok g c = λ input input_faults spool spool_faults.
    let rows = rows_of (λ z. (goal.SharedSource-dyn g z).CubeSource.seen z.1) c.args.catalogue.now in
    let before = objects input input_faults (g.O.Sink.written c.args.out.now) (g.O.Sink.faults c.args.out.now) spool spool_faults rows in
    let after = objects input input_faults (g.O.Sink.written c.repack.new.out) (g.O.Sink.faults c.repack.new.out) spool spool_faults (rows_of (λ z. (goal.SharedSource-dyn g z).CubeSource.seen z.1) c.repack.new.catalogue) in
    repacked c.args.id.now c.args.id.now before after c.args.place refl c.requires.index c.requires.within c.requires.found
    c.repack.ensures.only (refl, refl) (refl, refl) c.repack.ensures.sink.count
    c.in-Ok.ensures.undamaged c.in-Ok.ensures.written

pub returns-in-Err-SourceFailed : goal.returns-in-Err-SourceFailed
returns-in-Err-SourceFailed g c = λ input input_faults spool spool_faults.
    let rows = rows_of (λ z. (goal.SharedSource-dyn g z).CubeSource.seen z.1) c.args.catalogue.now in
    let before = objects input input_faults (g.O.Sink.written c.args.out.now) (g.O.Sink.faults c.args.out.now) spool spool_faults rows in
    let after = objects input input_faults (g.O.Sink.written c.repack.new.out) (g.O.Sink.faults c.repack.new.out) spool spool_faults (rows_of (λ z. (goal.SharedSource-dyn g z).CubeSource.seen z.1) c.repack.new.catalogue) in
    unread c.args.id.now c.args.id.now before after c.args.place refl c.requires.index c.requires.within c.requires.found
    c.repack.ensures.only (refl, refl) (refl, refl) c.repack.ensures.sink.count
    (c.in-Err-SourceFailed.ensures.source.failed (ap Err c.in-Err-SourceFailed.field-0-is))
    (rw c.in-Err-SourceFailed.field-0-is at c.in-Err-SourceFailed.ensures.left)

pub returns-in-Err-SourceDamaged : goal.returns-in-Err-SourceDamaged
returns-in-Err-SourceDamaged g c = λ input input_faults spool spool_faults.
    let rows = rows_of (λ z. (goal.SharedSource-dyn g z).CubeSource.seen z.1) c.args.catalogue.now in
    let before = objects input input_faults (g.O.Sink.written c.args.out.now) (g.O.Sink.faults c.args.out.now) spool spool_faults rows in
    let after = objects input input_faults (g.O.Sink.written c.repack.new.out) (g.O.Sink.faults c.repack.new.out) spool spool_faults (rows_of (λ z. (goal.SharedSource-dyn g z).CubeSource.seen z.1) c.repack.new.catalogue) in
    damaged c.args.id.now c.args.id.now before after c.args.place refl c.requires.index c.requires.within c.requires.found
    c.repack.ensures.only (refl, refl) (refl, refl) c.repack.ensures.sink.count
    c.in-Err-SourceDamaged.number c.of.result c.of.ensures
    (rw c.in-Err-SourceDamaged.field-0-is at c.in-Err-SourceDamaged.ensures.damage)
    (if_visible (λ (is : c.repack.new.out ≡ c.args.out.now). record { out = ap g.O.Sink.written is; faults = ap g.O.Sink.faults is }) _
    (rw c.in-Err-SourceDamaged.field-0-is at c.in-Err-SourceDamaged.ensures.left))

pub returns-in-Err-SinkFailed : goal.returns-in-Err-SinkFailed
returns-in-Err-SinkFailed g c = λ input input_faults spool spool_faults.
    let rows = rows_of (λ z. (goal.SharedSource-dyn g z).CubeSource.seen z.1) c.args.catalogue.now in
    let before = objects input input_faults (g.O.Sink.written c.args.out.now) (g.O.Sink.faults c.args.out.now) spool spool_faults rows in
    let after = objects input input_faults (g.O.Sink.written c.repack.new.out) (g.O.Sink.faults c.repack.new.out) spool spool_faults (rows_of (λ z. (goal.SharedSource-dyn g z).CubeSource.seen z.1) c.repack.new.catalogue) in
    unwritten c.args.id.now c.args.id.now before after c.args.place refl c.requires.index c.requires.within c.requires.found
    c.repack.ensures.only (refl, refl) (refl, refl) c.repack.ensures.sink.count
    (c.in-Err-SinkFailed.ensures.sink.failed (ap Err c.in-Err-SinkFailed.field-0-is))
    (rw c.in-Err-SinkFailed.field-0-is at c.in-Err-SinkFailed.ensures.left)

pub returns-in-Err-OutOfMemory : goal.returns-in-Err-OutOfMemory
returns-in-Err-OutOfMemory g c = λ input input_faults spool spool_faults.
    let rows = rows_of (λ z. (goal.SharedSource-dyn g z).CubeSource.seen z.1) c.args.catalogue.now in
    let before = objects input input_faults (g.O.Sink.written c.args.out.now) (g.O.Sink.faults c.args.out.now) spool spool_faults rows in
    let after = objects input input_faults (g.O.Sink.written c.repack.new.out) (g.O.Sink.faults c.repack.new.out) spool spool_faults (rows_of (λ z. (goal.SharedSource-dyn g z).CubeSource.seen z.1) c.repack.new.catalogue) in
    no_memory c.args.id.now c.args.id.now before after c.args.place refl c.requires.index c.requires.within c.requires.found
    c.repack.ensures.only (refl, refl) (refl, refl) c.repack.ensures.sink.count
    (let is = rw c.in-Err-OutOfMemory.field-0-is at c.in-Err-OutOfMemory.ensures.left in record { out = ap g.O.Sink.written is; faults = ap g.O.Sink.faults is })
