-- The jobs that a tick finds, and the job that runs after its step.
use Rattle.std.proofs.Common.{◌≡◌, ℕ, ℤ, ◌+◌, ◌≤◌, Bool, true, false, List, [], ◌∷◌, Option, Some, None, refl, ap, sym, ◌∙◌, subst, inl, inr, arith}
use Rattle.std.specs.Prelude.{find, IfSome, is_some, if◌then◌else◌, ◌&&◌}
use Rattle.std.specs.List.{AllByRecursion}
use Rattle.std.proofs.lemmas.Bool.{and_parts, cases_Bool}
use Rattle.std.proofs.lemmas.Option.{same_Some}
use Rattle.oe_dims.specs.Names.{same_name}
use Rattle.oe_dims.proofs.OrderLemmas.{same_name_is, same_name_refl}
use Rattle.std.specs.Option.{option_map, option_map_or}
use Rattle.oe_book.proofs.RunningLemmas.{none_beside, runs_in}
use Rattle.oe_jobs.specs.Changes.{at_first, changed, is_job, put_first}
use Rattle.oe_jobs.specs.Events.{is_first, next_queued, running_job}
use Rattle.oe_jobs.specs.Machine as machine
use Rattle.oe_jobs.specs.Machine.{after, is_busy, is_queued, is_running, moved, step_of, with_status}
use Rattle.oe_jobs.specs.Plain.{PlainBook, PlainJob, PlainRan, put_job}
use Rattle.oe_jobs.specs.Valid.{AllApart, AreNumbered, IsBook, IsJob, IsRan}
use Rattle.oe_jobs.specs.Verdicts.{job_id, last_next}
use Rattle.oe_jobs.specs.declared.job.Asset as assets
use Rattle.oe_jobs.specs.declared.status.Status.{Status}
use Rattle.oe_jobs.specs.declared.status.Status.TheVariants.{Created, Queued, Running, Canceled, Finished, Error}
use Rattle.oe_jobs.proofs.PutLemmas.{found_number, ids_differ}
use Rattle.oe_jobs.proofs.LineLemmas.{found_passes}
use Rattle.oe_service.specs.GoesOn.{HasRan}
use Rattle.oe_service.specs.States.{reopened}

-- ---- what is found

pub found_one : {X : Type 0} (P : X → Type 0) (test : X → Bool) (xs : List X) (x : X) → AllByRecursion P xs
    → find test xs ≡ Some x → P x
found_one P test [] x all e = absurd cc
found_one P test (y ∷ xs) x all e =
    elim (cases_Bool (test y)) [
      | inl t ↦ subst P (same_Some _ _ (rw t at e)) all.0
      | inr f ↦ found_one P test xs x all.1 (rw f at e)
    ]

-- one that is found has another id than one that stands before it
pub id_differs : (test : PlainJob → Bool) (low next : ℕ) (a : PlainJob) (jobs : List PlainJob) (job : PlainJob) → next ≤ last_next
    → AreNumbered low (a ∷ jobs) next → find test jobs ≡ Some job → is_job job.id a ≡ false
id_differs test low next a jobs job small numbered e =
    elim (cases_Bool (is_job job.id a)) [
      | inl t ↦
          let n = found_number test (numbered.0 + 1) next jobs job numbered.4 e in
          let ids : job_id n.0 ≡ job_id numbered.0 = sym n.1 ∙ (same_name_is a.id job.id t ∙ numbered.1) in
          let equal = ids_differ n.0 numbered.0 (omega (arith, n.3)) (omega (arith, numbered.3)) ids in
          absurd (omega (arith, equal, n.2))
      | inr f ↦ f
    ]

-- ---- the job that runs after a step

-- the one that runs has changed: it runs still, or none does
abbrev still : PlainJob → Option PlainJob
still job = if is_running job.status then Some job else None

still_some : (job : PlainJob) → is_running job.status ≡ true → Some job ≡ still job
still_some job runs = rw runs refl

still_none : (job : PlainJob) → is_running job.status ≡ false → None ≡ still job
still_none job stands = rw stands refl

changed_runs : (change : PlainJob → PlainJob) (low next : ℕ) (jobs : List PlainJob) (job : PlainJob) → next ≤ last_next
    → AreNumbered low jobs next → AllApart jobs → runs_in jobs ≡ Some job
    → runs_in (at_first (is_job job.id) change jobs) ≡ still (change job)
changed_runs change low next [] job small numbered apart e = absurd cc
changed_runs change low next (a ∷ jobs) job small numbered apart e =
    elim (cases_Bool (is_running a.status)) [
      | inl runs ↦
          let same : a ≡ job = same_Some _ _ (rw runs at e) in
          let stands : is_job job.id a ≡ true = ap (λ j. same_name a.id j.id) (sym same) ∙ same_name_refl a.id in
          rw stands (
          elim (cases_Bool (is_running (change a).status)) [
            | inl t ↦ rw t (still_some (change a) t ∙ ap (λ j. still (change j)) same)
            | inr f ↦ rw f (none_beside a jobs runs apart.0 ∙ still_none (change a) f ∙ ap (λ j. still (change j)) same)
          ])
      | inr stands ↦
          let rest : runs_in jobs ≡ Some job = rw stands at e in
          rw (id_differs (λ (j : PlainJob). is_running j.status) low next a jobs job small numbered rest, stands)
          (changed_runs change (numbered.0 + 1) next jobs job small numbered.4 apart.1 rest)
    ]

-- one that was found is changed and runs now, where none ran
starts_runs : (test : PlainJob → Bool) (change : PlainJob → PlainJob) (low next : ℕ) (jobs : List PlainJob) (job : PlainJob)
    → next ≤ last_next → AreNumbered low jobs next → runs_in jobs ≡ None → find test jobs ≡ Some job
    → is_running (change job).status ≡ true → runs_in (at_first (is_job job.id) change jobs) ≡ Some (change job)
starts_runs test change low next [] job small numbered none e runs = absurd cc
starts_runs test change low next (a ∷ jobs) job small numbered none e runs =
    elim (cases_Bool (is_running a.status)) [
      | inl t ↦ let some : Some a ≡ None = rw t at none in absurd cc
      | inr stands ↦
          elim (cases_Bool (test a)) [
            | inl t ↦
                let same : a ≡ job = same_Some _ _ (rw t at e) in
                let named : is_job job.id a ≡ true = ap (λ j. same_name a.id j.id) (sym same) ∙ same_name_refl a.id in
                let now : is_running (change a).status ≡ true = ap (λ j. is_running (change j).status) same ∙ runs in
                rw (named, now) (ap (λ j. Some (change j)) same)
            | inr f ↦
                let rest : find test jobs ≡ Some job = rw f at e in
                rw (id_differs test low next a jobs job small numbered rest, stands)
                (starts_runs test change (numbered.0 + 1) next jobs job small numbered.4 (rw stands at none) rest runs)
          ]
    ]

-- ---- over a book

queued_is : (s : Status) → is_queued s ≡ true → s ≡ Queued
queued_is Created e = absurd cc
queued_is Queued e = refl
queued_is Running e = absurd cc
queued_is Canceled e = absurd cc
queued_is Finished e = absurd cc
queued_is Error e = absurd cc

running_is : (s : Status) → is_running s ≡ true → s ≡ Running
running_is Created e = absurd cc
running_is Queued e = absurd cc
running_is Running e = refl
running_is Canceled e = absurd cc
running_is Finished e = absurd cc
running_is Error e = absurd cc

abbrev pub first_queued : PlainBook → PlainJob → Bool
first_queued book job = is_queued job.status && is_first book job

pub queued_found : (book : PlainBook) (job : PlainJob) → next_queued book ≡ Some job → job.status ≡ Queued
queued_found book job e =
    queued_is job.status (and_parts (is_queued job.status) (is_first book job) (found_passes (first_queued book) book.jobs job e)).0

pub running_found : (book : PlainBook) (job : PlainJob) → running_job book ≡ Some job → job.status ≡ Running
running_found book job e = running_is job.status (found_passes (λ (j : PlainJob). is_running j.status) book.jobs job e)

-- it has what it runs
has_ran_of : (ran : Option PlainRan) → is_some ran ≡ true → IfSome ran IsRan → (r : PlainRan) × (ran ≡ Some r) × IsRan r
has_ran_of None some valid = absurd cc
has_ran_of (Some r) some valid = (r, refl, valid)

has_ran : (next : ℕ) (job : PlainJob) → IsJob next job → is_busy job.status ≡ true → HasRan job
has_ran next job valid busy =
    let r = has_ran_of job.ran (valid.runs busy) valid.ran in
    record { ran = r.0; ran_is = r.1; valid = r.2 }

pub queued_has_ran : (book : PlainBook) (job : PlainJob) → IsBook book → next_queued book ≡ Some job → HasRan job
queued_has_ran book job valid e =
    has_ran book.next job (found_one (IsJob book.next) (first_queued book) book.jobs job valid.jobs e)
    (ap is_busy (queued_found book job e))

pub running_has_ran : (book : PlainBook) (job : PlainJob) → IsBook book → running_job book ≡ Some job → HasRan job
running_has_ran book job valid e =
    has_ran book.next job (found_one (IsJob book.next) (λ (j : PlainJob). is_running j.status) book.jobs job valid.jobs e)
    (ap is_busy (running_found book job e))

-- a start
abbrev pub started : ℤ → PlainJob → PlainJob
started now job = with_status Running (machine.begins now job)

pub start_of : (s : Status) (some : Bool) (now : ℤ) (job : PlainJob) → s ≡ Queued
    → after (step_of s (machine.start now) some) job ≡ started now job
start_of Created some now job e = absurd cc
start_of Queued some now job e = refl
start_of Running some now job e = absurd cc
start_of Canceled some now job e = absurd cc
start_of Finished some now job e = absurd cc
start_of Error some now job e = absurd cc

pub start_runs : (book : PlainBook) (job : PlainJob) (now : ℤ) → IsBook book → running_job book ≡ None
    → next_queued book ≡ Some job
    → runs_in (at_first (is_job job.id) (moved (machine.start now)) book.jobs) ≡ Some (started now job)
start_runs book job now valid free e =
    let line = start_of job.status (machine.has_assets job) now job (queued_found book job e) in
    starts_runs (first_queued book) (moved (machine.start now)) 1 book.next book.jobs job valid.bounded valid.numbered free e
    (ap (λ (j : PlainJob). is_running j.status) line) ∙ ap Some line

-- an asset, the end and a failure
pub asset_of : (s : Status) (some : Bool) (now : ℤ) (new : assets.Asset) (job : PlainJob) → s ≡ Running
    → after (step_of s (machine.asset now new) some) job ≡ with_status Running (machine.gains now new job)
asset_of Created some now new job e = absurd cc
asset_of Queued some now new job e = absurd cc
asset_of Running some now new job e = refl
asset_of Canceled some now new job e = absurd cc
asset_of Finished some now new job e = absurd cc
asset_of Error some now new job e = absurd cc

pub finish_of : (s : Status) (some : Bool) (now : ℤ) (job : PlainJob) → s ≡ Running
    → after (step_of s (machine.finish now) some) job ≡ with_status Finished (machine.ends now job)
finish_of Created some now job e = absurd cc
finish_of Queued some now job e = absurd cc
finish_of Running some now job e = refl
finish_of Canceled some now job e = absurd cc
finish_of Finished some now job e = absurd cc
finish_of Error some now job e = absurd cc

pub fail_of : (s : Status) (some : Bool) (now : ℤ) (code : List ℕ) (job : PlainJob) → s ≡ Running
    → after (step_of s (machine.fail now code) some) job ≡ with_status Error (machine.breaks now code job)
fail_of Created some now code job e = absurd cc
fail_of Queued some now code job e = absurd cc
fail_of Running some now code job e = refl
fail_of Canceled some now code job e = absurd cc
fail_of Finished some now code job e = absurd cc
fail_of Error some now code job e = absurd cc

module _ (book : PlainBook) (job : PlainJob) (now : ℤ) (valid : IsBook book) (e : running_job book ≡ Some job) where
  pub step_runs : (change : PlainJob → PlainJob) → runs_in (at_first (is_job job.id) change book.jobs) ≡ still (change job)
  step_runs change = changed_runs change 1 book.next book.jobs job valid.bounded valid.numbered valid.apart e

  pub finish_ends : runs_in (at_first (is_job job.id) (moved (machine.finish now)) book.jobs) ≡ None
  finish_ends = step_runs (moved (machine.finish now))
      ∙ ap still (finish_of job.status (machine.has_assets job) now job (running_found book job e))

  pub fail_ends : (code : List ℕ) → runs_in (at_first (is_job job.id) (moved (machine.fail now code)) book.jobs) ≡ None
  fail_ends code = step_runs (moved (machine.fail now code))
      ∙ ap still (fail_of job.status (machine.has_assets job) now code job (running_found book job e))

  pub asset_stays : (new : assets.Asset)
      → runs_in (at_first (is_job job.id) (moved (machine.asset now new)) book.jobs) ≡ Some (with_status Running (machine.gains now new job))
  asset_stays new = step_runs (moved (machine.asset now new))
      ∙ ap still (asset_of job.status (machine.has_assets job) now new job (running_found book job e))

-- ---- an opening

put_runs : (new : PlainJob) (low next : ℕ) (jobs : List PlainJob) (job : PlainJob) → next ≤ last_next
    → AreNumbered low jobs next → AllApart jobs → runs_in jobs ≡ Some job → new.id ≡ job.id
    → runs_in (put_first (is_job new.id) new jobs) ≡ still new
put_runs new low next [] job small numbered apart e ids = absurd cc
put_runs new low next (a ∷ jobs) job small numbered apart e ids =
    elim (cases_Bool (is_running a.status)) [
      | inl runs ↦
          let same : a ≡ job = same_Some _ _ (rw runs at e) in
          let stands : is_job new.id a ≡ true =
          ap (same_name a.id) ids ∙ ap (λ (j : PlainJob). same_name a.id j.id) (sym same) ∙ same_name_refl a.id in
          rw stands (
          elim (cases_Bool (is_running new.status)) [
            | inl t ↦ rw t refl
            | inr f ↦ rw f (none_beside a jobs runs apart.0)
          ])
      | inr stands ↦
          let rest : runs_in jobs ≡ Some job = rw stands at e in
          let other : is_job new.id a ≡ false =
          ap (same_name a.id) ids ∙ id_differs (λ (j : PlainJob). is_running j.status) low next a jobs job small numbered rest in
          rw (other, stands) (put_runs new (numbered.0 + 1) next jobs job small numbered.4 apart.1 rest ids)
    ]

pub reopen_of : (s : Status) (some : Bool) (job : PlainJob) → s ≡ Running
    → after (step_of s machine.reopen some) job ≡ with_status Queued (machine.drops_assets job)
reopen_of Created some job e = absurd cc
reopen_of Queued some job e = absurd cc
reopen_of Running some job e = refl
reopen_of Canceled some job e = absurd cc
reopen_of Finished some job e = absurd cc
reopen_of Error some job e = absurd cc

abbrev reopened_by : PlainBook → Option PlainJob → PlainBook
reopened_by book o =
    option_map_or (changed book) (option_map (λ (job : PlainJob). put_job (moved machine.reopen job) book.next) o) book

free_by : (book : PlainBook) (o : Option PlainJob) → IsBook book → running_job book ≡ o
    → running_job (reopened_by book o) ≡ None
free_by book None valid e = e
free_by book (Some job) valid e =
    let line = reopen_of job.status (machine.has_assets job) job (running_found book job e) in
    put_runs (moved machine.reopen job) 1 book.next book.jobs job valid.bounded valid.numbered valid.apart e
    (ap (λ (j : PlainJob). j.id) line) ∙ ap still line

pub reopened_free : (book : PlainBook) → IsBook book → running_job (reopened book) ≡ None
reopened_free book valid = free_by book (running_job book) valid refl
