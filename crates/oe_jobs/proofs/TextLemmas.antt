-- A text that is none of the words is no status and no level.
use Rattle.std.proofs.Common.{◌≡◌, ◌≢◌, ℕ, List, codes}
use Rattle.oe_jobs.specs.Texts.{level_text, status_text}
use Rattle.oe_jobs.specs.declared.level.Level.{Level}
use Rattle.oe_jobs.specs.declared.level.Level.TheVariants as levels
use Rattle.oe_jobs.specs.declared.status.Status.{Status}
use Rattle.oe_jobs.specs.declared.status.Status.TheVariants.{Created, Queued, Running, Canceled, Finished, Error}

pub no_status : (text : List ℕ) (status : Status) → text ≢ codes "created" → text ≢ codes "queued" → text ≢ codes "running"
    → text ≢ codes "canceled" → text ≢ codes "finished" → text ≢ codes "error" → text ≡ status_text status → ⊥
no_status text Created created queued running canceled finished error is = created is
no_status text Queued created queued running canceled finished error is = queued is
no_status text Running created queued running canceled finished error is = running is
no_status text Canceled created queued running canceled finished error is = canceled is
no_status text Finished created queued running canceled finished error is = finished is
no_status text Error created queued running canceled finished error is = error is

pub no_level : (text : List ℕ) (level : Level) → text ≢ codes "error" → text ≢ codes "warning" → text ≢ codes "info"
    → text ≢ codes "debug" → text ≡ level_text level → ⊥
no_level text levels.Error error warning info debug is = error is
no_level text levels.Warning error warning info debug is = warning is
no_level text levels.Info error warning info debug is = info is
no_level text levels.Debug error warning info debug is = debug is
