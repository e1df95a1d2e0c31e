-- The rules of a job of a valid book, in parts.
use Rattle.std.specs.Prelude.{◌≡◌, ℕ, ◌<◌, true, is_some, IfSome}
use Rattle.std.specs.List.{AllByRecursion}
use Rattle.oe_dims.specs.Instant.{IsInstant}
use Rattle.oe_jobs.specs.Machine.{is_busy}
use Rattle.oe_jobs.specs.Plain.{PlainJob}
use Rattle.oe_jobs.specs.Valid.{AreWords, IsAsset, IsProcessText, IsRan, LogsFit}

-- title and description are not too long, and the moments are instants
abbrev pub HasTexts : PlainJob → Type 0
HasTexts job = AreWords job.title × AreWords job.description × IsInstant job.created × IsInstant job.updated

-- one that is queued or running has what it runs, and a turn that was drawn
abbrev pub HasTurn : ℕ → PlainJob → Type 0
HasTurn next job = is_busy job.status ≡ true → (is_some job.ran ≡ true) × (job.turn < next)

-- no asset is too long, and the logs are such as the status asks for
abbrev pub HasFitting : PlainJob → Type 0
HasFitting job = AllByRecursion IsAsset job.assets × LogsFit job.status job.logs

-- what is told of the job without reading its processes
abbrev pub HasState : ℕ → PlainJob → Type 0
HasState next job = HasTexts job × HasTurn next job × HasFitting job

-- what is told by reading them
abbrev pub HasProcesses : PlainJob → Type 0
HasProcesses job = IsProcessText job.process × IfSome job.ran IsRan
