use Rattle.std.proofs.Common.{Result, Err, sym, ap, subst}
use Rattle.oe_steps.specs.declared.fail.RunFail.{RunFail}
use Rattle.oe_sources.specs.CatalogueRows.{rows_of}
use Rattle.oe_engine.specs.Evaluations.{Evaluates}
use Rattle.oe_engine.proofs.RunRounds.{finished, stopped}
use Rattle.oe_engine.proofs.evaluation.evaluate.Goals as goal

pub returns-in-Ok : goal.returns-in-Ok
returns-in-Ok g c =
    subst (λ (result : Result (Unit {0}) RunFail). Evaluates c.args.run.now c.go_through.new.run
    (rows_of (λ z. (goal.SharedSource-dyn g z).CubeSource.seen z.1) c.args.catalogue.now)
    (rows_of (λ z. (goal.SharedSource-dyn g z).CubeSource.seen z.1) c.go_through.new.catalogue)
    (g.P.Store.bytes c.args.spool.now) (g.P.Store.bytes c.go_through.new.spool) (g.P.Store.faults c.args.spool.now)
    (g.P.Store.faults c.go_through.new.spool) result) (sym c.finish.ensures)
    (finished c.args.run.now c.go_through.new.run _ _ _ _ _ _ c.in-Ok.ensures.through)

pub returns-in-Err : goal.returns-in-Err
returns-in-Err g c =
    let err : RunFail → Result (Unit {0}) RunFail = λ f. Err f in
    stopped c.args.run.now c.go_through.new.run _ _ _ _ _ _ c.in-Err.fail
    (λ over. c.in-Err.ensures.no_overflow over.0 (ap err over.1)) c.in-Err.ensures.through
