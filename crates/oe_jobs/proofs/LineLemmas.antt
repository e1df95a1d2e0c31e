-- The changed book of an event is the book in which the job has taken its line of the table.
use Rattle.std.proofs.Common.{◌≡◌, ℕ, ℤ, Bool, true, List, [], ◌∷◌, Some, refl, ap, sym, ◌∙◌, inl, inr}
use Rattle.std.specs.Prelude.{find}
use Rattle.std.specs.Option.{option_map}
use Rattle.std.proofs.lemmas.Bool.{cases_Bool}
use Rattle.std.proofs.lemmas.Option.{same_Some}
use Rattle.oe_dims.proofs.OrderLemmas.{same_name_is}
use Rattle.oe_jobs.specs.Changes.{at_first, changed, is_job, put_first, with_asset}
use Rattle.oe_jobs.specs.Events.{MayCome, event_of, job_named, job_step, moved_book, step}
use Rattle.oe_jobs.specs.Machine as machine
use Rattle.oe_jobs.specs.Machine.{asset_message, course, gains, has_assets, kept, may_come, moved, step_at, with_status}
use Rattle.oe_jobs.specs.Plain.{PlainBook, PlainChange, PlainJob}
use Rattle.oe_jobs.specs.declared.event.JobEvent.{JobEvent}
use Rattle.oe_jobs.specs.declared.event.JobEvent.TheVariants.{Start, Asset, Finish, Fail}
use Rattle.oe_jobs.specs.declared.status.Status.TheVariants.{Running}
use Rattle.oe_jobs.proofs.MachineLemmas.{asset_after, asset_runs, start_after, finish_after, fail_after}

-- what was found passes
pub found_passes : {X : Type 0} (test : X → Bool) (xs : List X) (x : X) → find test xs ≡ Some x → test x ≡ true
found_passes test [] x e = cc
found_passes test (a ∷ xs) x e =
    elim (cases_Bool (test a)) [
      | inl t ↦ let same : a ≡ x = same_Some _ _ (rw t at e) in ap test (sym same) ∙ t
      | inr f ↦ found_passes test xs x (rw f at e)
    ]

-- putting a changed job is changing it where it stands
pub put_is_change : (id : List ℕ) (change : PlainJob → PlainJob) (jobs : List PlainJob) (job : PlainJob)
    → find (is_job id) jobs ≡ Some job → put_first (is_job id) (change job) jobs ≡ at_first (is_job id) change jobs
put_is_change id change [] job e = cc
put_is_change id change (a ∷ jobs) job e =
    elim (cases_Bool (is_job id a)) [
      | inl t ↦ let same : a ≡ job = same_Some _ _ (rw t at e) in rw t (ap (λ j. change j ∷ jobs) (sym same))
      | inr f ↦ rw f (ap (λ js. a ∷ js) (put_is_change id change jobs job (rw f at e)))
    ]

-- two changes that agree on the job
pub changes_agree : (id : List ℕ) (change other : PlainJob → PlainJob) (jobs : List PlainJob) (job : PlainJob)
    → find (is_job id) jobs ≡ Some job → change job ≡ other job
    → at_first (is_job id) change jobs ≡ at_first (is_job id) other jobs
changes_agree id change other [] job e agree = refl
changes_agree id change other (a ∷ jobs) job e agree =
    elim (cases_Bool (is_job id a)) [
      | inl t ↦
          let same : a ≡ job = same_Some _ _ (rw t at e) in
          rw t (ap (λ j. j ∷ jobs) (ap change same ∙ (agree ∙ ap other (sym same))))
      | inr f ↦ rw f (ap (λ js. a ∷ js) (changes_agree id change other jobs job (rw f at e) agree))
    ]

-- a job that was found has the id
pub found_id : (id : List ℕ) (book : PlainBook) (job : PlainJob) → job_named id book ≡ Some job → id ≡ job.id
found_id id book job e = same_name_is job.id id (found_passes (is_job id) book.jobs job e)

put_moves : (book : PlainBook) (id : List ℕ) (job : PlainJob) (event : machine.Event) → job_named id book ≡ Some job
    → (moved event job).id ≡ job.id
    → put_first (is_job (moved event job).id) (moved event job) book.jobs ≡ at_first (is_job id) (moved event) book.jobs
put_moves book id job event e same =
    let ids : (moved event job).id ≡ id = same ∙ sym (found_id id book job e) in
    ap (λ i. put_first (is_job i) (moved event job) book.jobs) ids ∙ put_is_change id (moved event) book.jobs job e

step_line : (book : PlainBook) (id : List ℕ) (event : JobEvent) (now : ℤ) (job : PlainJob) → job_named id book ≡ Some job
    → may_come (step_at job (event_of event now)) ≡ true
    → changed book (job_step book job event now) ≡ moved_book book id (event_of event now)
step_line book id Start now job e comes =
    let id_stays : (moved (machine.start now) job).id ≡ job.id =
    ap (λ j. j.id) (start_after now job.status (has_assets job) job comes) in
    ap (λ js. record book { jobs = js }) (put_moves book id job (machine.start now) e id_stays)
step_line book id (Asset new) now job e comes =
    let message : List ℕ = asset_message new in
    let add : PlainJob → PlainJob = with_asset new (kept job.level (course message)) now in
    let runs : job.status ≡ Running = asset_runs now new job.status (has_assets job) comes in
    let agree : add job ≡ moved (machine.asset now new) job =
    ap (λ s. with_status s (gains now new job)) runs ∙ sym (asset_after now new job.status (has_assets job) job comes) in
    let ids : id ≡ job.id = found_id id book job e in
    ap (λ i. record book { jobs = at_first (is_job i) add book.jobs }) (sym ids)
    ∙ ap (λ js. record book { jobs = js }) (changes_agree id add (moved (machine.asset now new)) book.jobs job e agree)
step_line book id Finish now job e comes =
    let id_stays : (moved (machine.finish now) job).id ≡ job.id =
    ap (λ j. j.id) (finish_after now job.status (has_assets job) job comes) in
    ap (λ js. record book { jobs = js }) (put_moves book id job (machine.finish now) e id_stays)
step_line book id (Fail code) now job e comes =
    let id_stays : (moved (machine.fail now code) job).id ≡ job.id =
    ap (λ j. j.id) (fail_after now code job.status (has_assets job) job comes) in
    ap (λ js. record book { jobs = js }) (put_moves book id job (machine.fail now code) e id_stays)

pub change_is_line : (book : PlainBook) (id : List ℕ) (event : JobEvent) (now : ℤ) (change : PlainChange)
    → MayCome book id event now → Some change ≡ step book id event now
    → changed book change ≡ moved_book book id (event_of event now)
change_is_line book id event now change may is_step =
    let here : change ≡ job_step book may.job event now =
    same_Some _ _ (is_step ∙ ap (option_map (λ job. job_step book job event now)) may.found) in
    ap (changed book) here ∙ step_line book id event now may.job may.found may.allowed
