-- The lines of the status machine, as the code goes through them.
use Rattle.std.proofs.Common.{◌≡◌, ℕ, ℤ, Bool, true, false, not, if◌then◌else◌, List, refl}
use Rattle.oe_jobs.specs.Machine as machine
use Rattle.oe_jobs.specs.Machine.{step_of, has_effect, may_come, after, with_status, is_busy, is_running, has_assets, draws, at, stops, begins, gains, ends, breaks, drops_assets}
use Rattle.oe_jobs.specs.Plain.{PlainJob, PlainRan}
use Rattle.oe_jobs.specs.declared.job.Asset.{Asset}
use Rattle.oe_jobs.specs.declared.status.Status.{Status}
use Rattle.oe_jobs.specs.declared.status.Status.TheVariants.{Created, Queued, Running, Canceled, Finished, Error}

-- queueing changes exactly the jobs that are neither queued nor running
pub queue_effect : (now : ℤ) (turn : ℕ) (ran : PlainRan) (s : Status) (some : Bool)
    → has_effect (step_of s (machine.queue now turn ran) some) ≡ not (is_busy s)
queue_effect now turn ran Created some = refl
queue_effect now turn ran Queued some = refl
queue_effect now turn ran Running some = refl
queue_effect now turn ran Canceled some = refl
queue_effect now turn ran Finished some = refl
queue_effect now turn ran Error some = refl

pub queue_after : (now : ℤ) (turn : ℕ) (ran : PlainRan) (s : Status) (some : Bool) (job : PlainJob) → is_busy s ≡ false
    → after (step_of s (machine.queue now turn ran) some) job ≡ with_status Queued (draws now turn ran job)
queue_after now turn ran Created some job idle = refl
queue_after now turn ran Queued some job idle = cc
queue_after now turn ran Running some job idle = cc
queue_after now turn ran Canceled some job idle = refl
queue_after now turn ran Finished some job idle = refl
queue_after now turn ran Error some job idle = refl

-- canceling a running job
pub cancel_running : (now : ℤ) (some : Bool) (job : PlainJob)
    → after (step_of Running (machine.cancel now) some) job ≡ with_status (if some then Canceled else Created) (stops now job)
cancel_running now true job = refl
cancel_running now false job = refl

-- an event of a run comes in one status alone
pub start_after : (now : ℤ) (s : Status) (some : Bool) (job : PlainJob) → may_come (step_of s (machine.start now) some) ≡ true
    → after (step_of s (machine.start now) some) job ≡ with_status Running (begins now job)
start_after now Created some job comes = cc
start_after now Queued some job comes = refl
start_after now Running some job comes = cc
start_after now Canceled some job comes = cc
start_after now Finished some job comes = cc
start_after now Error some job comes = cc

pub finish_after : (now : ℤ) (s : Status) (some : Bool) (job : PlainJob) → may_come (step_of s (machine.finish now) some) ≡ true
    → after (step_of s (machine.finish now) some) job ≡ with_status Finished (ends now job)
finish_after now Created some job comes = cc
finish_after now Queued some job comes = cc
finish_after now Running some job comes = refl
finish_after now Canceled some job comes = cc
finish_after now Finished some job comes = cc
finish_after now Error some job comes = cc

pub fail_after : (now : ℤ) (code : List ℕ) (s : Status) (some : Bool) (job : PlainJob)
    → may_come (step_of s (machine.fail now code) some) ≡ true
    → after (step_of s (machine.fail now code) some) job ≡ with_status Error (breaks now code job)
fail_after now code Created some job comes = cc
fail_after now code Queued some job comes = cc
fail_after now code Running some job comes = refl
fail_after now code Canceled some job comes = cc
fail_after now code Finished some job comes = cc
fail_after now code Error some job comes = cc

pub asset_after : (now : ℤ) (new : Asset) (s : Status) (some : Bool) (job : PlainJob)
    → may_come (step_of s (machine.asset now new) some) ≡ true
    → after (step_of s (machine.asset now new) some) job ≡ with_status Running (gains now new job)
asset_after now new Created some job comes = cc
asset_after now new Queued some job comes = cc
asset_after now new Running some job comes = refl
asset_after now new Canceled some job comes = cc
asset_after now new Finished some job comes = cc
asset_after now new Error some job comes = cc

pub asset_runs : (now : ℤ) (new : Asset) (s : Status) (some : Bool) → may_come (step_of s (machine.asset now new) some) ≡ true
    → s ≡ Running
asset_runs now new Created some comes = cc
asset_runs now new Queued some comes = cc
asset_runs now new Running some comes = refl
asset_runs now new Canceled some comes = cc
asset_runs now new Finished some comes = cc
asset_runs now new Error some comes = cc

pub start_waits : (now : ℤ) (s : Status) (some : Bool) → may_come (step_of s (machine.start now) some) ≡ true → s ≡ Queued
start_waits now Created some comes = cc
start_waits now Queued some comes = refl
start_waits now Running some comes = cc
start_waits now Canceled some comes = cc
start_waits now Finished some comes = cc
start_waits now Error some comes = cc

pub reopen_after : (s : Status) (some : Bool) (job : PlainJob) → is_running s ≡ true
    → after (step_of s machine.reopen some) job ≡ with_status Queued (drops_assets job)
reopen_after Created some job runs = cc
reopen_after Queued some job runs = cc
reopen_after Running some job runs = refl
reopen_after Canceled some job runs = cc
reopen_after Finished some job runs = cc
reopen_after Error some job runs = cc

pub runs_is : (s : Status) → is_running s ≡ true → s ≡ Running
runs_is Created runs = cc
runs_is Queued runs = cc
runs_is Running runs = refl
runs_is Canceled runs = cc
runs_is Finished runs = cc
runs_is Error runs = cc
