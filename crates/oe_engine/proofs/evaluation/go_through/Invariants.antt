use Rattle.oe_sources.specs.CatalogueRows.{rows_of}
use Rattle.oe_engine.proofs.RunRounds.{Stands}
use Rattle.oe_engine.proofs.evaluation.go_through.Given as goal

abbrev pub invariant-loop : goal.invariant-loop
invariant-loop g l =
    Stands l.initial.run l.run (rows_of (λ z. (goal.SharedSource-dyn g z).CubeSource.seen z.1) l.initial.catalogue)
    (rows_of (λ z. (goal.SharedSource-dyn g z).CubeSource.seen z.1) l.catalogue)
    (g.P.Store.bytes l.initial.spool) (g.P.Store.bytes l.spool) (g.P.Store.faults l.initial.spool) (g.P.Store.faults l.spool) l.counter
