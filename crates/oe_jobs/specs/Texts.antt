-- How statuses, levels and numbers are spelled, and what reading them finds.
use Rattle.std.specs.Prelude.{◌≡◌, ℕ, ◌<◌, ◌^◌, List, Option, Some, None, codes, decimal}
use Rattle.oe_jobs.specs.Verdicts.{job_id}
use Rattle.oe_jobs.specs.declared.level.Level.{Level}
use Rattle.oe_jobs.specs.declared.level.Level.TheVariants as levels
use Rattle.oe_jobs.specs.declared.status.Status.{Status}
use Rattle.oe_jobs.specs.declared.status.Status.TheVariants.{Created, Queued, Running, Canceled, Finished, Error}

-- a status and a level, as the openEO API spells them
abbrev pub status_text : Status → List ℕ
status_text Created = codes "created"
status_text Queued = codes "queued"
status_text Running = codes "running"
status_text Canceled = codes "canceled"
status_text Finished = codes "finished"
status_text Error = codes "error"

abbrev pub level_text : Level → List ℕ
level_text levels.Error = codes "error"
level_text levels.Warning = codes "warning"
level_text levels.Info = codes "info"
level_text levels.Debug = codes "debug"

-- what a search finds: a thing that is so, and none only where there is none
abbrev pub Finds : {A : Type 0} → (A → Type 0) → Option A → Type 0
Finds {A} Is None = (a : A) → ¬ Is a
Finds Is (Some a) = Is a

-- a text spells a number of 64 bits in decimal, without leading zeros
pub record SpellsNumber (text : List ℕ) (number : ℕ) : Type 0 where
  pub spelled : text ≡ decimal number
  pub in_range : number < 2 ^ 64

-- an id is that of the job of a number of 64 bits
pub record NamesNumber (id : List ℕ) (number : ℕ) : Type 0 where
  pub named : id ≡ job_id number
  pub in_range : number < 2 ^ 64
