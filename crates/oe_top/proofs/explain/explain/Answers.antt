use Rattle.std.proofs.Common.{refl, arith}
use Rattle.std.proofs.lemmas.Grind.{common_steps}
use Rattle.oe_sources.specs.CatalogueRows.{rows_of}
use Rattle.oe_top.proofs.Explanations.{fault_stopped}
use Rattle.oe_top.specs.Objects.{objects}
use Rattle.oe_top.proofs.explain.explain.Goals as goal

pub returns-in-Err-write : goal.returns-in-Err-write
returns-in-Err-write g c = λ spool spool_faults.
    let rows = rows_of (λ z. (goal.SharedSource-dyn g z).CubeSource.seen z.1) c.args.catalogue.now in
    let before = objects (g.I.Source.left c.args.input.now) (g.I.Source.faults c.args.input.now) (g.O.Sink.written c.args.out.now) (g.O.Sink.faults c.args.out.now) spool spool_faults rows in
    let after = objects (g.I.Source.left c.find_fault.new.input) (g.I.Source.faults c.find_fault.new.input) (g.O.Sink.written c.write.new.self) (g.O.Sink.faults c.write.new.self) spool spool_faults rows in
    record {
      ends =
          fault_stopped before after c.in-Ok-Some.fault c.in-Ok-Some.text.items c.deref.result.now
          (rw c.in-Ok-Some.field-0-is at c.in-Ok-Some.ensures.found) c.deref.ensures.value (c.in-Err-write.ensures.cause.failed refl)
          c.in-Err-write.ensures.prefix;
      others_kept = record { spool = refl; spool_faults = refl; collections = refl };
      input_taken = c.in-Ok-Some.ensures.taken;
      input_count = c.in-Ok-Some.ensures.count;
      out_count = c.in-Err-write.ensures.cause.count;
    }

pub returns-in-Err : goal.returns-in-Err
returns-in-Err g c = grind (arith, common_steps) steps 2000000

pub returns-in-Err-write-2 : goal.returns-in-Err-write-2
returns-in-Err-write-2 g c = grind (arith, common_steps) steps 2000000

pub returns-in-Ok : goal.returns-in-Ok
returns-in-Ok g c = grind (arith, common_steps) steps 2000000

pub returns-in-Ok-write : goal.returns-in-Ok-write
returns-in-Ok-write g c = grind (arith, common_steps) steps 2000000
