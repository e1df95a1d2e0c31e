use Rattle.std.proofs.Common.{◌∙◌, refl, arith}
use Rattle.std.proofs.lemmas.Grind.{common_steps}
use Rattle.oe_sources.specs.CatalogueRows.{rows_of}
use Rattle.oe_top.proofs.Plans.{plan_stopped, plan_written}
use Rattle.oe_top.specs.Objects.{objects}
use Rattle.oe_top.proofs.plan.plan.Goals as goal

pub returns-in-Ok-write : goal.returns-in-Ok-write
returns-in-Ok-write g c = λ spool spool_faults.
    let rows = rows_of (λ z. (goal.SharedSource-dyn g z).CubeSource.seen z.1) c.args.catalogue.now in
    let before = objects (g.I.Source.left c.args.input.now) (g.I.Source.faults c.args.input.now) (g.O.Sink.written c.args.out.now) (g.O.Sink.faults c.args.out.now) spool spool_faults rows in
    let after = objects (g.I.Source.left c.judge_input.new.input) (g.I.Source.faults c.judge_input.new.input) (g.O.Sink.written c.write.new.self) (g.O.Sink.faults c.write.new.self) spool spool_faults rows in
    record {
      ends =
          plan_written c.args.size c.args.workers before after c.in-Ok.checked c.deref.result.now c.in-Ok.ensures.judged.ends
          (c.deref.ensures.value ∙ c.in-Ok-line_of.ensures) c.in-Ok-write.ensures.appended;
      others_kept = record { spool = refl; spool_faults = refl; collections = refl };
      input_taken = c.in-Ok.ensures.judged.taken;
      input_count = c.in-Ok.ensures.judged.count;
      out_count = c.in-Ok-write.ensures.cause.count;
    }

pub returns-in-Ok-line_of : goal.returns-in-Ok-line_of
returns-in-Ok-line_of g c = λ spool spool_faults.
    let rows = rows_of (λ z. (goal.SharedSource-dyn g z).CubeSource.seen z.1) c.args.catalogue.now in
    let before = objects (g.I.Source.left c.args.input.now) (g.I.Source.faults c.args.input.now) (g.O.Sink.written c.args.out.now) (g.O.Sink.faults c.args.out.now) spool spool_faults rows in
    let after = objects (g.I.Source.left c.judge_input.new.input) (g.I.Source.faults c.judge_input.new.input) (g.O.Sink.written c.write.new.self) (g.O.Sink.faults c.write.new.self) spool spool_faults rows in
    record {
      ends =
          plan_stopped c.args.size c.args.workers before after c.in-Ok.checked c.deref.result.now c.in-Ok.ensures.judged.ends
          (c.deref.ensures.value ∙ c.in-Ok-line_of.ensures) (c.in-Err-write.ensures.cause.failed refl) c.in-Err-write.ensures.prefix;
      others_kept = record { spool = refl; spool_faults = refl; collections = refl };
      input_taken = c.in-Ok.ensures.judged.taken;
      input_count = c.in-Ok.ensures.judged.count;
      out_count = c.in-Err-write.ensures.cause.count;
    }

pub returns : goal.returns
returns g c = grind (arith, common_steps) steps 2000000

pub returns-in-Err : goal.returns-in-Err
returns-in-Err g c = grind (arith, common_steps) steps 2000000
