-- A run between two rounds, refused or not.
use Rattle.std.proofs.Common.{◌≡◌, ℕ, List, Option, sym, subst}
use Rattle.oe_plan.specs.Plans.{PlanOf}
use Rattle.oe_sources.specs.Catalogue.{Row}
use Rattle.oe_steps.specs.Collections.{AreRead, HasCollections}
use Rattle.oe_engine.specs.Laws.{StayAfterReads}
use Rattle.oe_engine.specs.Runs.{HasRunRecords, RunOf}

-- its collections are mounted, and the records of what is done stand in the spool
pub record IsBetweenRounds (r : RunOf) (rows : List Row) (store : Option (List ℕ)) : Type 0 where
  pub mounted : HasCollections r.plan.graph rows
  pub records : HasRunRecords r store

-- a round leaves the collections mounted, whatever it answers
pub still_mounted : {before after : PlanOf} {rows rows_after : List Row}
    → StayAfterReads → after ≡ before → AreRead rows rows_after
    → HasCollections before.graph rows → HasCollections after.graph rows_after
still_mounted {before} {after} {rows} {rows_after} reads same read mounted =
    subst (λ (p : PlanOf). HasCollections p.graph rows_after) (sym same)
    (reads.mounted before.graph rows rows_after read mounted)
