use Rattle.std.proofs.Common.{Some}
use Rattle.oe_sources.specs.CatalogueRows.{rows_of}
use Rattle.oe_rows_graphs.proofs.Rounds.{IsBetweenRounds}
use Rattle.oe_rows_graphs.proofs.attempt.complete.Given as goal

abbrev pub invariant-loop : goal.invariant-loop
invariant-loop g l =
    IsBetweenRounds l.run (rows_of (λ z. (goal.SharedSource-dyn g z).CubeSource.seen z.1) l.catalogue) (Some l.spool.bytes)
