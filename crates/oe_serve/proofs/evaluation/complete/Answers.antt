use Rattle.std.proofs.Common.{Err, ◌∙◌, sym, ap, subst}
use Rattle.oe_engine.specs.Runs.{chunk_total}
use Rattle.oe_plan.specs.Plans.{IsPlan}
use Rattle.oe_sources.specs.CatalogueRows.{rows_of}
use Rattle.oe_serve.specs.Evaluations.{Completes}
use Rattle.oe_serve.specs.declared.refusal.ResultRefusal.{ResultRefusal}
use Rattle.oe_serve.proofs.Endings.{ends_in_text, not_completed}
use Rattle.oe_serve.proofs.evaluation.complete.Goals as goal

pub count_text-requires-clause-planned : goal.count_text-requires-clause-planned
count_text-requires-clause-planned g c = subst IsPlan (sym c.in-Ok.ensures.through.goes.plan) c.requires.going.planned

pub count_text-requires-clause-complete : goal.count_text-requires-clause-complete
count_text-requires-clause-complete g c =
    c.in-Ok.ensures.through.done ∙ ap chunk_total (sym c.in-Ok.ensures.through.goes.plan)

pub returns-in-Ok : goal.returns-in-Ok
returns-in-Ok g c =
    ends_in_text c.args.run.now c.evaluate.new.run _ _ _ _ _ _ c.requires.going c.in-Ok.ensures _ c.count_text.ensures.count
    c.count_text.new.run c.count_text.ensures.run _ c.count_text.ensures.same c.count_text.result c.count_text.ensures.counted
    c.count_text.ensures.refused

pub returns-in-Err : goal.returns-in-Err
returns-in-Err g c =
    subst (λ (refusal : ResultRefusal). Completes c.args.run.now c.evaluate.new.run
    (rows_of (λ z. (goal.SharedSource-dyn g z).CubeSource.seen z.1) c.args.catalogue.now)
    (rows_of (λ z. (goal.SharedSource-dyn g z).CubeSource.seen z.1) c.evaluate.new.catalogue)
    (g.P.Store.bytes c.args.spool.now) (g.P.Store.bytes c.evaluate.new.spool) (g.P.Store.faults c.args.spool.now)
    (g.P.Store.faults c.evaluate.new.spool) (Err refusal)) (sym c.of_run.ensures)
    (not_completed c.args.run.now c.evaluate.new.run _ _ _ _ _ _ c.requires.going c.in-Err.fail c.in-Err.ensures)
