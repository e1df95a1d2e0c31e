-- What commands and a reopening change keeps a book valid.
use Rattle.std.proofs.Common.{◌≡◌, ℕ, ℤ, ◌+◌, ◌<◌, ◌≤◌, ◌==◌, ◌&&◌, Bool, true, false, not, if◌then◌else◌, List, Option, Some, None, is_some, IfSome, unwrap_or, refl, ap, sym, subst, ◌∙◌, arith}
use Rattle.std.specs.Prelude.{count_by, nat_le, ⊤}
use Rattle.std.specs.Option.{option_map, option_map_or}
use Rattle.std.proofs.lemmas.Bool.{leb-false}
use Rattle.std.proofs.lemmas.Bool.Decides.{nat_tests}
use Rattle.oe_dims.specs.Instant.{IsInstant}
use Rattle.oe_graph.specs.Catalogue.{process_named}
use Rattle.oe_graph.specs.Tree.{PlainStored}
use Rattle.oe_jobs.specs.Changes.{changed, is_job, put_first}
use Rattle.oe_jobs.specs.Events.{reopen, running_job}
use Rattle.oe_jobs.specs.Machine as machine
use Rattle.oe_jobs.specs.Machine.{after, at, draws, drops_assets, has_assets, has_effect, is_busy, is_running, moved, step_at, step_of, stops, with_status}
use Rattle.oe_jobs.specs.Plain.{PlainBook, PlainCommand, PlainJob, PlainVerdict, put_job, drop_job, put_process, drop_process, create, patch, delete, queue, cancel, store, forget}
use Rattle.oe_jobs.specs.Valid.{AreApart, AreWords, IsBook, IsCommand, IsJob, IsProcessText, IsStored}
use Rattle.oe_jobs.specs.Verdicts.{decide, cancel_verdict, created, done, has_no_number, has_process, is_full, is_job_of, is_process_of, job_of, last_next, most_jobs, most_processes, patch_verdict, patched, queue_verdict, refused, to_run}
use Rattle.oe_jobs.specs.declared.command.JobFault.TheVariants.{JobNotFound, JobLocked, JobLimit, ProcessLimit, PredefinedProcessExists}
use Rattle.oe_jobs.specs.declared.level.Level.{Level}
use Rattle.oe_jobs.specs.declared.status.Status.{Status}
use Rattle.oe_jobs.specs.declared.status.Status.TheVariants.{Created, Queued, Running, Canceled, Finished, Error}
use Rattle.oe_jobs.proofs.KeepLemmas.{all_anything, anything, reopened_job}
use Rattle.oe_jobs.proofs.LineLemmas.{found_passes}
use Rattle.oe_jobs.proofs.MachineLemmas.{cancel_running, queue_after, queue_effect, reopen_after, runs_is}
use Rattle.oe_jobs.proofs.PutLemmas.{book_more, created_keeps, dropped_keeps, put_replaces}
use Rattle.oe_jobs.proofs.RanLemmas.{runs_stored}
use Rattle.oe_jobs.proofs.StoredLemmas.{forgotten_keeps, put_keeps, replaced_keeps}
use Rattle.oe_jobs.proofs.ValidLemmas.{Replaces, book_replaced, old_of, stays_apart}

-- ---- a reopening

reopening_keeps : (book : PlainBook) (job : PlainJob) → running_job book ≡ Some job → IsBook book
    → IsBook (changed book (put_job (moved machine.reopen job) book.next))
reopening_keeps book job found valid =
    let runs : is_running job.status ≡ true = found_passes (λ (j : PlainJob). is_running j.status) book.jobs job found in
    let is : job.status ≡ Running = runs_is job.status runs in
    let new : PlainJob = with_status Queued (drops_assets job) in
    let moves : moved machine.reopen job ≡ new = reopen_after job.status (has_assets job) job runs in
    let R : Replaces job new book.jobs (put_first (is_job new.id) new book.jobs) =
    put_replaces (λ (j : PlainJob). is_running j.status) 1 book.next book.jobs job new valid.bounded valid.numbered found refl in
    let fresh = λ (x : PlainJob) (q : ⊤). stays_apart job new (λ (h : false ≡ true). runs) (λ (h : true ≡ true). ap is_busy is) refl x in
    let kept = book_replaced job new anything fresh book (put_first (is_job new.id) new book.jobs) R valid
    (all_anything book.jobs) (reopened_job book.next job is (old_of job new (IsJob book.next) R valid.jobs)) refl refl in
    subst (λ (j : PlainJob). IsBook (changed book (put_job j book.next))) (sym moves) kept

reopen_of : (book : PlainBook) (found : Option PlainJob) → running_job book ≡ found → IsBook book
    → IfSome (option_map (λ job. put_job (moved machine.reopen job) book.next) found) (λ change. IsBook (changed book change))
reopen_of book (Some job) e valid = reopening_keeps book job e valid
reopen_of book None e valid = tt

pub reopen_keeps : (book : PlainBook) → IsBook book → IfSome (reopen book) (λ change. IsBook (changed book change))
reopen_keeps book valid = reopen_of book (running_job book) refl valid

-- what holds of a change as it is seen
pub if_shown : {X Y : Type 0} (show : X → Y) (P : Y → Type 0) (o : Option X) → IfSome (option_map show o) P
    → IfSome o (λ x. P (show x))
if_shown show P (Some x) h = h
if_shown show P None h = h

-- ---- commands

abbrev Keeps : PlainBook → PlainVerdict → Type 0
Keeps book verdict = IfSome verdict.change (λ change. IsBook (changed book change))

keeps_if : (book : PlainBook) (b : Bool) (u v : PlainVerdict) → (b ≡ true → Keeps book u) → (b ≡ false → Keeps book v)
    → Keeps book (if b then u else v)
keeps_if book true u v f g = f refl
keeps_if book false u v f g = g refl

never : false ≡ true → ⊥
never e = cc

twice_not : (b : Bool) → not (not b) ≡ false → b ≡ false
twice_not true e = cc
twice_not false e = refl

numbers_left : (next : ℕ) → next ≤ last_next → (next == last_next) ≡ false → next < last_next
numbers_left next small e = grind (arith, nat_tests)

words_given : (given : Option (Option (List ℕ))) (old : Option (List ℕ)) → IfSome given AreWords → AreWords old
    → AreWords (unwrap_or given old)
words_given (Some words) old h k = h
words_given None old h k = k

text_given : (given : Option (List ℕ)) (old : List ℕ) → IfSome given IsProcessText → IsProcessText old
    → IsProcessText (unwrap_or given old)
text_given (Some text) old h k = h
text_given None old h k = k

-- a job of a user that was found, replaced by one with its id and its user
module _ (book : PlainBook) (user id : List ℕ) (job : PlainJob) (found : job_of user id book ≡ Some job) (valid : IsBook book) where
  puts : (new : PlainJob) → new.id ≡ job.id → Replaces job new book.jobs (put_first (is_job new.id) new book.jobs)
  puts new same =
      put_replaces (λ j. is_job id j && is_job_of user j) 1 book.next book.jobs job new valid.bounded valid.numbered found same

  valid_job : IsJob book.next job
  valid_job = old_of job job (IsJob book.next) (puts job refl) valid.jobs

  -- a job that is neither queued nor running afterwards
  idle_keeps : (new : PlainJob) → new.id ≡ job.id → new.user ≡ job.user → is_busy new.status ≡ false
      → is_running new.status ≡ false → IsJob book.next new → IsBook (changed book (put_job new book.next))
  idle_keeps new same_id same_user idle stopped valid_new =
      let fresh = λ (x : PlainJob) (q : ⊤) (h : AreApart x job). idle_apart x in
      book_replaced job new anything fresh book (put_first (is_job new.id) new book.jobs) (puts new same_id) valid
      (all_anything book.jobs) valid_new same_id same_user where
        idle_apart : (x : PlainJob) → AreApart x new
        idle_apart x = record {
          one_runs = λ runs. stopped;
          turns_differ = λ x_busy new_busy. absurd (never (sym idle ∙ new_busy));
        }

  patched_keeps : (title description : Option (Option (List ℕ))) (process : Option (List ℕ)) (level : Option Level) (now : ℤ)
      → IfSome title AreWords → IfSome description AreWords → IfSome process IsProcessText → IsInstant now
      → IsBook (changed book (put_job (patched title description process level now job) book.next))
  patched_keeps title description process level now t d p moment =
      let new : PlainJob = patched title description process level now job in
      let fresh = λ (x : PlainJob) (q : ⊤). stays_apart job new (λ (h : is_running job.status ≡ true). h) (λ (h : is_busy job.status ≡ true). h) refl x in
      book_replaced job new anything fresh book (put_first (is_job new.id) new book.jobs) (puts new refl) valid
      (all_anything book.jobs) (record {
        process = text_given process job.process p valid_job.process;
        title = words_given title job.title t valid_job.title;
        description = words_given description job.description d valid_job.description;
        created = valid_job.created;
        updated = moment;
        ran = valid_job.ran;
        assets = valid_job.assets;
        logs = valid_job.logs;
        runs = valid_job.runs;
        drew = valid_job.drew;
      }) refl refl

  queued_keeps : (now : ℤ) → IsInstant now → is_busy job.status ≡ false → book.next < last_next
      → IsBook (changed book (put_job (moved (machine.queue now book.next (to_run book job)) job) (book.next + 1)))
  queued_keeps now moment idle left =
      let new : PlainJob = with_status Queued (draws now book.next (to_run book job) job) in
      let grown : PlainBook = record book { next = book.next + 1 } in
      let moves : moved (machine.queue now book.next (to_run book job)) job ≡ new =
      queue_after now book.next (to_run book job) job.status (has_assets job) job idle in
      let kept : IsBook (record grown { jobs = put_first (is_job new.id) new book.jobs }) =
      book_replaced job new (IsJob book.next) (queued_apart new refl refl) grown (put_first (is_job new.id) new book.jobs) (puts new refl)
      (book_more book (book.next + 1) (omega arith) (omega arith) valid) valid.jobs (record {
        process = valid_job.process;
        title = valid_job.title;
        description = valid_job.description;
        created = valid_job.created;
        updated = moment;
        ran = runs_stored book job valid valid_job;
        assets = valid_job.assets;
        logs = tt;
        runs = λ busy. refl;
        drew = λ busy. omega arith;
      }) refl refl in
      subst (λ (j : PlainJob). IsBook (changed book (put_job j (book.next + 1)))) (sym moves) kept where
        queued_apart : (new : PlainJob) → is_running new.status ≡ false → new.turn ≡ book.next
            → (x : PlainJob) → IsJob book.next x → AreApart x job → AreApart x new
        queued_apart new stopped turn x valid_x h = record {
          one_runs = λ runs. stopped;
          turns_differ = λ x_busy new_busy same. let drew = valid_x.drew x_busy in absurd (omega (arith, same, turn));
        }

  withdrawn_job : (now : ℤ) → IsInstant now → IsJob book.next (with_status Created (at now job))
  withdrawn_job now moment = record {
    process = valid_job.process;
    title = valid_job.title;
    description = valid_job.description;
    created = valid_job.created;
    updated = moment;
    ran = valid_job.ran;
    assets = valid_job.assets;
    logs = tt;
    runs = λ busy. absurd (never busy);
    drew = λ busy. absurd (never busy);
  }

  stopped_job : (some : Bool) (now : ℤ) → IsInstant now
      → IsJob book.next (with_status (if some then Canceled else Created) (stops now job))
  stopped_job true now moment = record {
    process = valid_job.process;
    title = valid_job.title;
    description = valid_job.description;
    created = valid_job.created;
    updated = moment;
    ran = valid_job.ran;
    assets = valid_job.assets;
    logs = tt;
    runs = λ busy. absurd (never busy);
    drew = λ busy. absurd (never busy);
  }
  stopped_job false now moment = record {
    process = valid_job.process;
    title = valid_job.title;
    description = valid_job.description;
    created = valid_job.created;
    updated = moment;
    ran = valid_job.ran;
    assets = valid_job.assets;
    logs = tt;
    runs = λ busy. absurd (never busy);
    drew = λ busy. absurd (never busy);
  }

  stopped_keeps : (some : Bool) (now : ℤ) → IsInstant now
      → IsBook (changed book (put_job (with_status (if some then Canceled else Created) (stops now job)) book.next))
  stopped_keeps true now moment =
      idle_keeps (with_status Canceled (stops now job)) refl refl refl refl (stopped_job true now moment)
  stopped_keeps false now moment =
      idle_keeps (with_status Created (stops now job)) refl refl refl refl (stopped_job false now moment)

  canceled_keeps : (s : Status) → job.status ≡ s → (now : ℤ) → IsInstant now
      → has_effect (step_of s (machine.cancel now) (has_assets job)) ≡ true
      → IsBook (changed book (put_job (moved (machine.cancel now) job) book.next))
  canceled_keeps Created is now moment e = absurd (never e)
  canceled_keeps Queued is now moment e =
      let moves : moved (machine.cancel now) job ≡ with_status Created (at now job) =
      ap (λ s. after (step_of s (machine.cancel now) (has_assets job)) job) is in
      subst (λ (j : PlainJob). IsBook (changed book (put_job j book.next))) (sym moves)
      (idle_keeps (with_status Created (at now job)) refl refl refl refl (withdrawn_job now moment))
  canceled_keeps Running is now moment e =
      let moves : moved (machine.cancel now) job ≡ with_status (if has_assets job then Canceled else Created) (stops now job) =
      ap (λ s. after (step_of s (machine.cancel now) (has_assets job)) job) is ∙ cancel_running now (has_assets job) job in
      subst (λ (j : PlainJob). IsBook (changed book (put_job j book.next))) (sym moves) (stopped_keeps (has_assets job) now moment)
  canceled_keeps Canceled is now moment e = absurd (never e)
  canceled_keeps Finished is now moment e = absurd (never e)
  canceled_keeps Error is now moment e = absurd (never e)

-- the verdict on a job that was found, or none
of_found : (book : PlainBook) (user id : List ℕ) (verdict : PlainJob → PlainVerdict) (found : Option PlainJob)
    → job_of user id book ≡ found → ((job : PlainJob) → job_of user id book ≡ Some job → Keeps book (verdict job))
    → Keeps book (option_map_or verdict found (refused JobNotFound))
of_found book user id verdict (Some job) e f = f job e
of_found book user id verdict None e f = tt

created_valid : (book : PlainBook) (user : List ℕ) (title description : Option (List ℕ)) (process : List ℕ) (level : Level) (now : ℤ)
    → IsInstant now → AreWords title → AreWords description → IsProcessText process
    → IsJob (book.next + 1) (created book user title description process level now)
created_valid book user title description process level now moment t d p = record {
  process = p;
  title = t;
  description = d;
  created = moment;
  updated = moment;
  ran = tt;
  assets = tt;
  logs = tt;
  runs = λ busy. absurd (never busy);
  drew = λ busy. absurd (never busy);
}

stored_keeps : (book : PlainBook) (user : List ℕ) (process : PlainStored) (has : Bool) → has_process user process.id book ≡ has
    → IsStored process → IsBook book → (not has && nat_le most_processes (count_by (is_process_of user) book.processes)) ≡ false
    → IsBook (changed book (put_process (record { user = user; process = process })))
stored_keeps book user process true has stored valid room =
    rw has (replaced_keeps book (record { user = user; process = process }) stored valid)
stored_keeps book user process false has stored valid room =
    let few = leb-false most_processes (count_by (is_process_of user) book.processes) room in
    rw has (put_keeps book (record { user = user; process = process }) stored has few valid)

pub decide_keeps : (book : PlainBook) (user : List ℕ) (command : PlainCommand) (now : ℤ) → IsBook book → IsCommand command
    → IsInstant now → Keeps book (decide book user command now)
decide_keeps book user (create title description process level) now valid brings moment =
    let new : PlainJob = created book user title description process level now in
    keeps_if book (is_full book user) (refused JobLimit) _ (λ full. tt) (λ room.
    keeps_if book (has_no_number book) (refused JobLimit) _ (λ none. tt) (λ left.
    created_keeps book new valid (numbers_left book.next valid.bounded left) refl
    (created_valid book user title description process level now moment brings.0 brings.1 brings.2) refl refl
    (leb-false most_jobs (count_by (is_job_of user) book.jobs) room)))
decide_keeps book user (patch id title description process level) now valid brings moment =
    of_found book user id (λ job. patch_verdict book job (patched title description process level now job)) (job_of user id book) refl
    (λ job found. keeps_if book (is_busy job.status) (refused JobLocked) _ (λ busy. tt) (λ idle.
    patched_keeps book user id job found valid title description process level now brings.0 brings.1 brings.2 moment))
decide_keeps book user (delete id) now valid brings moment =
    of_found book user id (λ job. done (drop_job id)) (job_of user id book) refl (λ job found. dropped_keeps book id valid)
decide_keeps book user (queue id) now valid brings moment =
    of_found book user id (λ job. queue_verdict book job (machine.queue now book.next (to_run book job))) (job_of user id book) refl
    (λ job found. keeps_if book (not (has_effect (step_at job (machine.queue now book.next (to_run book job))))) _ _ (λ stays. tt) (λ moves.
    keeps_if book (has_no_number book) (refused JobLimit) _ (λ none. tt) (λ left.
    let effect = queue_effect now book.next (to_run book job) job.status (has_assets job) in
    queued_keeps book user id job found valid now moment (twice_not (is_busy job.status) (ap not (sym effect) ∙ moves))
    (numbers_left book.next valid.bounded left))))
decide_keeps book user (cancel id) now valid brings moment =
    of_found book user id (λ job. cancel_verdict book job (machine.cancel now)) (job_of user id book) refl
    (λ job found. keeps_if book (has_effect (step_at job (machine.cancel now))) _ _
    (λ moves. canceled_keeps book user id job found valid job.status refl now moment moves) (λ stays. tt))
decide_keeps book user (store process) now valid brings moment =
    keeps_if book (is_some (process_named process.id)) (refused PredefinedProcessExists) _ (λ taken. tt) (λ free.
    keeps_if book (not (has_process user process.id book) && nat_le most_processes (count_by (is_process_of user) book.processes))
    (refused ProcessLimit) _ (λ full. tt) (λ room. stored_keeps book user process (has_process user process.id book) refl brings valid room))
decide_keeps book user (forget id) now valid brings moment =
    keeps_if book (has_process user id book) (done (drop_process user id)) _ (λ has. forgotten_keeps book user id valid) (λ none. tt)
