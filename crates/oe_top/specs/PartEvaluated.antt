-- What the rounds of a part of a run leave.
use Rattle.std.specs.Prelude.{◌≡◌, ◌≤◌, ℕ, ◌+◌, ◌*◌, List, Option, None, Result, IsErrOf, OnOk}
use Rattle.oe_outside.specs.Faults.{HasCauseOf}
use Rattle.oe_plan.specs.Plans.{IsPlan}
use Rattle.oe_meanings.specs.Graphs.{Collections}
use Rattle.oe_check.specs.Laws.{AreCollectionsOf}
use Rattle.oe_sources.specs.Catalogue.{Row, cells_asked}
use Rattle.oe_steps.specs.Collections.{AreRead, LoadRose, Shows}
use Rattle.oe_steps.specs.Refusals.{KeepsDamage}
use Rattle.oe_steps.specs.declared.fail.RunFail.{RunFail}
use Rattle.oe_steps.specs.declared.fail.RunFail.TheVariants as run
use Rattle.oe_engine.specs.Parts.{HasPartDone, HasPartRecords}
use Rattle.oe_engine.specs.Runs.{PartRunOf, result_cube}
use Rattle.oe_engine.specs.Results.{IsVisible}
use Rattle.oe_engine.specs.Evaluations.{most_asked}

-- a part of a run that stands before its first round
pub record IsPartBegun (r : PartRunOf) : Type 0 where
  pub planned : IsPlan r.plan
  pub none_done : r.done ≡ 0
  pub none_over : r.over ≡ None

-- Reading changed nothing of the collections but their counters, and for each chunk of the part it asked for one
-- largest window at most for each node that loads a collection.
pub record ReadsForPart (r : PartRunOf) (before after : List Row) : Type 0 where
  pub read : AreRead before after
  pub asked : cells_asked after ≤ cells_asked before + r.count * most_asked r.plan

-- what rounds leave of a part, whatever the last of them answered
pub record GoesInPart (before after : PartRunOf) (rows rows_after : List Row) (store store_after : Option (List ℕ)) : Type 0 where
  pub plan : after.plan ≡ before.plan
  pub base : after.base ≡ before.base
  pub first : after.first ≡ before.first
  pub count : after.count ≡ before.count
  pub within : after.done ≤ before.count
  pub records : HasPartRecords after store_after
  pub values : (collections : Collections) → AreCollectionsOf before.plan.graph collections
      → Shows before.plan.graph rows collections → HasPartDone after store_after (result_cube collections before.plan)
  pub read : AreRead rows rows_after
  pub visible : IsVisible store → IsVisible store_after

-- all rounds of a part: all its chunks are done, or the cause why not
pub record GoesThroughPart (before after : PartRunOf) (rows rows_after : List Row) (store store_after : Option (List ℕ))
    (faults faults_after : ℕ) (result : Result (Unit {0}) RunFail) : Type 0 where
  pub goes : GoesInPart before after rows rows_after store store_after
  pub reads : ReadsForPart before rows rows_after
  pub done : OnOk result (after.done ≡ before.count)
  pub read_cause : IsErrOf result run.SourceFailed → LoadRose before.plan.graph rows rows_after
  pub says : (load number : ℕ) → IsErrOf result (run.SourceDamaged load number)
      → KeepsDamage before.plan.graph rows load number
  pub spool_cause : HasCauseOf run.SpoolFailed faults faults_after result
