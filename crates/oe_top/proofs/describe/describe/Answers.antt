use Rattle.std.proofs.Common.{refl, rules, subst, ◌∙◌, arith}
use Rattle.std.proofs.lemmas.Grind.{elements}
use Rattle.oe_outside.specs.Visible.{AppendsPrefix}
use Rattle.oe_sources.specs.CatalogueRows.{rows_of}
use Rattle.oe_top.specs.Objects.{objects}
use Rattle.oe_top.specs.declared.describe.UnwrittenCause.TheVariants.{WriteFault, OutOfMemory}
use Rattle.oe_top.proofs.Descriptions.{has_place, text_at, undescribed}
use Rattle.oe_top.proofs.describe.describe.Goals as goal

pub returns-in-Ok : goal.returns-in-Ok
returns-in-Ok g c = λ input input_faults spool spool_faults.
    let rows = rows_of (λ z. (goal.SharedSource-dyn g z).CubeSource.seen z.1) c.args.catalogue.now in
    let before = objects input input_faults (g.O.Sink.written c.args.out.now) (g.O.Sink.faults c.args.out.now) spool spool_faults rows in
    let after = objects input input_faults (g.O.Sink.written c.write.new.self) (g.O.Sink.faults c.write.new.self) spool spool_faults rows in
    undescribed c.args.id.now before after WriteFault
    (has_place rows c.args.id.now c.place.result (rw c.as_str.ensures at c.place.ensures.none) (rw c.as_str.ensures at c.place.ensures.found) c.place.ensures.within c.if-is_none.ensures)
    (λ row is. record {
      rose = c.in-Err-write.ensures.cause.failed refl;
      prefix =
          subst (λ text. AppendsPrefix before.out text after.out)
          (c.deref.ensures.value ∙ text_at rows c.args.id.now c.in-Ok.text.items c.in-Ok.ensures row is)
          c.in-Err-write.ensures.prefix;
    })
    (record { input = (refl, refl); spool = (refl, refl); collections = refl }) c.in-Err-write.ensures.cause.count

pub returns : goal.returns
returns g c = λ input input_faults spool spool_faults.
    let rows = rows_of (λ z. (goal.SharedSource-dyn g z).CubeSource.seen z.1) c.args.catalogue.now in
    let here = objects input input_faults (g.O.Sink.written c.args.out.now) (g.O.Sink.faults c.args.out.now) spool spool_faults rows in
    undescribed c.args.id.now here here OutOfMemory
    (has_place rows c.args.id.now c.place.result (rw c.as_str.ensures at c.place.ensures.none) (rw c.as_str.ensures at c.place.ensures.found) c.place.ensures.within c.if-is_none.ensures)
    (λ row is. record { out = refl; faults = refl })
    (record { input = (refl, refl); spool = (refl, refl); collections = refl }) (search rules)

pub returns-in-Ok-write : goal.returns-in-Ok-write
returns-in-Ok-write g c = grind (arith, elements) steps 2000000

pub text_of_mounted-requires : goal.text_of_mounted-requires
text_of_mounted-requires g c = grind (arith, elements) steps 2000000
