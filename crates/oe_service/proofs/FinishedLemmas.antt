-- What finished jobs have.
use Rattle.std.proofs.Common.{◌≡◌, ◌⊎◌, ◌<◌, ◌≤◌, ℕ, ◌+◌, ℤ, Bool, true, false, List, [], ◌∷◌, ◌++◌, length, Option, Some, None, refl, ap, sym, ◌∙◌, subst, inl, inr, arith, length-append}
use Rattle.std.specs.Prelude.{⊤, find, is_some, nat_lt, if◌then◌else◌}
use Rattle.std.specs.List.{AllByRecursion}
use Rattle.std.specs.Option.{option_map_or}
use Rattle.std.proofs.lemmas.Bool.{cases_Bool}
use Rattle.std.proofs.lemmas.Option.{same_Some}
use Rattle.oe_book.specs.Laws.{KeepsRunning}
use Rattle.oe_jobs.specs.Changes.{is_job}
use Rattle.oe_jobs.specs.Events.{job_named, moved_book, next_queued, running_job}
use Rattle.oe_jobs.specs.Machine as machine
use Rattle.oe_jobs.specs.Machine.{after as after_step, has_assets, has_effect, moved, step_at, step_of, with_status}
use Rattle.oe_jobs.specs.Plain.{PlainBook, PlainCommand, PlainJob, PlainRan}
use Rattle.oe_jobs.specs.Valid.{IsBook}
use Rattle.oe_jobs.specs.Verdicts.{next as next_book}
use Rattle.oe_jobs.specs.declared.job.Asset as assets
use Rattle.oe_jobs.specs.declared.status.Status.{Status}
use Rattle.oe_jobs.specs.declared.status.Status.TheVariants.{Created, Queued, Running, Canceled, Finished, Error}
use Rattle.oe_service.specs.Finishes.{AreTexts, BringTexts, BringsText, FinishedJobsHaveTexts, HasAllTexts, WasFinished}
use Rattle.oe_service.specs.Refusals.{code_of}
use Rattle.oe_service.specs.Runs.{name_at, ran_of}
use Rattle.oe_service.specs.States.{rest, start, Event, command, no_command, tick, refusal, reopen, Setting, State, after, asset_of as asset_in, at_book, commanded, count_assets, due, due_of, moved_running, next, reopened, ticked}
use Rattle.oe_service.proofs.BookLemmas.{asset_of, asset_stays, fail_ends, fail_of, finish_ends, finish_of, first_queued, found_one, queued_found, reopen_of, reopened_free, running_found, start_of, start_runs, started}
use Rattle.oe_service.proofs.NamedLemmas.{IsFoundIn, Resembles, all_named, map_all, named_of}
use Rattle.oe_service.proofs.NextLemmas.{less_is, less_not, moved_is}
use Rattle.oe_service.proofs.StatusLemmas.{all_changed, command_all, reopen_all, run_all}

-- ---- statuses that are not finished

queue_ends : (s : Status) (some : Bool) (job : PlainJob) (now : ℤ) (turn : ℕ) (ran : PlainRan)
    → has_effect (step_of s (machine.queue now turn ran) some) ≡ true
    → (after_step (step_of s (machine.queue now turn ran) some) job).status ≡ Finished → ⊥
queue_ends Created some job now turn ran effect e = absurd cc
queue_ends Queued some job now turn ran effect e = absurd cc
queue_ends Running some job now turn ran effect e = absurd cc
queue_ends Canceled some job now turn ran effect e = absurd cc
queue_ends Finished some job now turn ran effect e = absurd cc
queue_ends Error some job now turn ran effect e = absurd cc

cancel_ends : (s : Status) (some : Bool) (job : PlainJob) (now : ℤ)
    → has_effect (step_of s (machine.cancel now) some) ≡ true
    → (after_step (step_of s (machine.cancel now) some) job).status ≡ Finished → ⊥
cancel_ends Created some job now effect e = absurd cc
cancel_ends Queued some job now effect e = absurd cc
cancel_ends Running true job now effect e = absurd cc
cancel_ends Running false job now effect e = absurd cc
cancel_ends Canceled some job now effect e = absurd cc
cancel_ends Finished some job now effect e = absurd cc
cancel_ends Error some job now effect e = absurd cc

not_finished : (s status : Status) → s ≡ status → (status ≡ Finished → ⊥) → s ≡ Finished → ⊥
not_finished s status is other e = other (sym is ∙ e)

-- ---- texts

module _ (texts : PlainRan → ℕ → List ℕ) (ids : List (List ℕ)) (ran : PlainRan) where
  -- one more
  texts_more : (k n : ℕ) (made : List assets.Asset) (new : assets.Asset) → AreTexts texts ids ran k made → n ≡ k + length made
      → new.name ≡ name_at ids n → new.text ≡ texts ran n → AreTexts texts ids ran k (made ++ new ∷ [])
  texts_more k n [] new are is name text =
      let same : n ≡ k = omega (arith, is) in
      (name ∙ ap (name_at ids) same, text ∙ ap (texts ran) same, tt)
  texts_more k n (a ∷ made) new are is name text =
      let same : n ≡ (k + 1) + length made = omega (arith, is) in
      (are.0, are.1, texts_more (k + 1) n made new are.2 same name text)

-- ---- the jobs of a book, and the one that runs

module _ (texts : PlainRan → ℕ → List ℕ) (setting : Setting) (first : PlainBook) where
  abbrev HasTexts : PlainJob → Type 0
  HasTexts job = job.status ≡ Finished → WasFinished first job ⊎ HasAllTexts texts setting job

  abbrev ids : PlainJob → List (List ℕ)
  ids job = setting.ids (ran_of job)

  -- the assets of the job that runs have their texts, and one is missing where the run of one is under way
  record RunsWith (job : PlainJob) (done : Option ℕ) : Type 0 where
    are : AreTexts texts (ids job) (ran_of job) 0 job.assets
    few : count_assets job ≤ length (ids job)
    missing : is_some done ≡ true → count_assets job < length (ids job)

  abbrev HasRunning : Option PlainJob → Option ℕ → Type 0
  HasRunning None under_way = ⊤
  HasRunning (Some job) under_way = RunsWith job under_way

  record Stands (s : State) : Type 0 where
    jobs : AllByRecursion HasTexts s.book.jobs
    runs : HasRunning (running_job s.book) s.done

  no_more : (o : Option PlainJob) (place : Option ℕ) → o ≡ None → HasRunning o place
  no_more o place none = rw none tt

  with_job : (o : Option PlainJob) (place : Option ℕ) (job : PlainJob) → o ≡ Some job → RunsWith job place → HasRunning o place
  with_job o place job is has = rw is has

  of_job : (o : Option PlainJob) (place : Option ℕ) (job : PlainJob) → o ≡ Some job → HasRunning o place → RunsWith job place
  of_job o place job is has = rw is at has

  -- no run is under way any more
  without_run : (job : PlainJob) (done : Option ℕ) → RunsWith job done → RunsWith job None
  without_run job under_way has = record { are = has.are; few = has.few; missing = λ e. absurd cc }

  -- a job with the same assets
  alike : (old new : PlainJob) → Resembles old new → HasTexts old → HasTexts new
  alike old new same has finished =
      elim (has (sym same.status ∙ finished)) [
        | inl was ↦ inl (record {
          old = was.old;
          named = ap (λ id. job_named id first) same.id ∙ was.named;
          finished = was.finished;
          same = was.same ∙ sym same.assets;
          turn = was.turn ∙ sym same.turn;
        })
        | inr all ↦
            let ran : ran_of new ≡ ran_of old = ap (λ (o : Option PlainRan). ran_in o) same.ran in
            inr (record {
              are = subst (λ r. AreTexts texts (setting.ids r) r 0 new.assets) (sym ran)
                  (subst (λ made. AreTexts texts (setting.ids (ran_of old)) (ran_of old) 0 made) (sym same.assets) all.are);
              whole = ap length same.assets ∙ all.whole ∙ ap (λ r. length (setting.ids r)) (sym ran);
            })
      ]
    where
      ran_in : Option PlainRan → PlainRan
      ran_in o = ran_of (record old { ran = o })

  module _ (book : PlainBook) (valid : IsBook book) (all : AllByRecursion HasTexts book.jobs) where
    has_of : (job : PlainJob) → IsFoundIn book job → HasTexts job
    has_of job found = found_one HasTexts found.0 book.jobs job all found.1

    command_has : (user : List ℕ) → (asked : PlainCommand) → (now : ℤ) → AllByRecursion HasTexts (next_book book user asked now).jobs
    command_has user asked now =
        command_all book HasTexts all (λ job fresh e. absurd (not_finished job.status Created fresh.created (λ e. cc) e))
        (λ job new found same. alike job new same (has_of job found))
        (λ job found at turn ran effect e. absurd (queue_ends job.status (has_assets job) job at turn ran effect e))
        (λ job found at effect e. absurd (cancel_ends job.status (has_assets job) job at effect e)) user asked now

    reopen_has : AllByRecursion HasTexts (reopened book).jobs
    reopen_has =
        reopen_all book HasTexts all (λ job e finished.
        let line = reopen_of job.status (has_assets job) job (running_found book job e) in
        absurd (not_finished _ Queued (ap (λ (j : PlainJob). j.status) line) (λ e. cc) finished))

    fail_has : (now : ℤ) (code : List ℕ) → AllByRecursion HasTexts (moved_running book (machine.fail now code)).jobs
    fail_has now code =
        run_all book HasTexts (machine.fail now code) all (λ job e finished.
        let line = fail_of job.status (has_assets job) now code job (running_found book job e) in
        absurd (not_finished _ Error (ap (λ (j : PlainJob). j.status) line) (λ e. cc) finished)) valid

    asset_has : (now : ℤ) (new : assets.Asset) → AllByRecursion HasTexts (moved_running book (machine.asset now new)).jobs
    asset_has now new =
        run_all book HasTexts (machine.asset now new) all (λ job e finished.
        let line = asset_of job.status (has_assets job) now new job (running_found book job e) in
        absurd (not_finished _ Running (ap (λ (j : PlainJob). j.status) line) (λ e. cc) finished)) valid

    -- all its assets are there
    finish_has : (now : ℤ) (running : PlainJob) → running_job book ≡ Some running → RunsWith running None
        → length (ids running) ≤ count_assets running → AllByRecursion HasTexts (moved_running book (machine.finish now)).jobs
    finish_has now running runs has whole =
        run_all book HasTexts (machine.finish now) all (λ job e finished.
        let same : running ≡ job = same_Some _ _ (sym runs ∙ e) in
        let line = finish_of job.status (has_assets job) now job (running_found book job e) in
        inr (subst (HasAllTexts texts setting) (sym line)
        (subst (λ (j : PlainJob). HasAllTexts texts setting (with_status Finished (machine.ends now j))) same (record {
          are = has.are;
          whole = both (count_assets running) (length (ids running)) has.few whole;
        })))) valid
      where
        both : (m n : ℕ) → m ≤ n → n ≤ m → m ≡ n
        both m n less more = omega (arith, less, more)

    start_has : (now : ℤ) (job : PlainJob) → next_queued book ≡ Some job
        → AllByRecursion HasTexts (moved_book book job.id (machine.start now)).jobs
    start_has now job e =
        let line = start_of job.status (has_assets job) now job (queued_found book job e) in
        all_changed HasTexts (is_job job.id) (moved (machine.start now)) book.jobs job
        (named_of (first_queued book) book job valid e)
        (λ finished. absurd (not_finished _ Running (ap (λ (j : PlainJob). j.status) line) (λ e. cc) finished)) all

  -- ---- one event

  module _ (keeps : KeepsRunning) (s : State) (valid : IsBook s.book) (is : Stands s) where
    command_stands : (user : List ℕ) (asked : PlainCommand) (now : ℤ) → Stands (commanded (next_book s.book user asked now) s.done)
    command_stands user asked now = record {
      jobs = command_has s.book valid is.jobs user asked now;
      runs = by (running_job (next_book s.book user asked now)) (keeps s.book user asked now valid);
    }
      where
        by : (o : Option PlainJob) → (o ≡ running_job s.book) ⊎ (o ≡ None)
            → HasRunning o (if is_some o then s.done else None)
        by None which = tt
        by (Some job) (inl same) = of_job (running_job s.book) s.done job (sym same) is.runs
        by (Some job) (inr none) = absurd cc

    reopen_stands : Stands (at_book (reopened s.book))
    reopen_stands = record {
      jobs = reopen_has s.book valid is.jobs;
      runs = no_more (running_job (reopened s.book)) None (reopened_free s.book valid);
    }

    fail_stands : (now : ℤ) (code : List ℕ) → Stands (at_book (moved_running s.book (machine.fail now code)))
    fail_stands now code = record {
      jobs = fail_has s.book valid is.jobs now code;
      runs = by (running_job s.book) refl;
    }
      where
        by : (o : Option PlainJob) → running_job s.book ≡ o
            → HasRunning (running_job (option_map_or (λ (job : PlainJob). moved_book s.book job.id (machine.fail now code)) o s.book)) None
        by None e = no_more (running_job s.book) None e
        by (Some job) e =
            no_more (running_job (moved_book s.book job.id (machine.fail now code))) None (fail_ends s.book job now valid e code)

    start_stands : (now : ℤ) (job : PlainJob) → running_job s.book ≡ None → next_queued s.book ≡ Some job
        → Stands (at_book (moved_book s.book job.id (machine.start now)))
    start_stands now job free e = record {
      jobs = start_has s.book valid is.jobs now job e;
      runs = with_job (running_job (moved_book s.book job.id (machine.start now))) None (started now job)
          (start_runs s.book job now valid free e)
          (record { are = tt; few = omega arith; missing = λ e. absurd cc });
    }

    module _ (job : PlainJob) (e : running_job s.book ≡ Some job) (now : ℤ) (text : List ℕ) where
      has : RunsWith job s.done
      has = of_job (running_job s.book) s.done job e is.runs

      plan_stands : count_assets job < length (ids job) → Stands (record { book = s.book; done = Some 0 })
      plan_stands misses = record {
        jobs = is.jobs;
        runs = with_job (running_job s.book) (Some 0) job e
            (record { are = has.are; few = has.few; missing = λ some. misses });
      }

      finish_stands : length (ids job) ≤ count_assets job → Stands (at_book (moved_running s.book (machine.finish now)))
      finish_stands whole = record {
        jobs = finish_has s.book valid is.jobs now job e (without_run job s.done has) whole;
        runs = no_more (running_job (moved_running s.book (machine.finish now))) None
            (ap running_job (moved_is s.book job (machine.finish now) e) ∙ finish_ends s.book job now valid e);
      }

      module _ (under_way : is_some s.done ≡ true) where
        round_stands : (done : ℕ) → Stands (record { book = s.book; done = Some done })
        round_stands done = record {
          jobs = is.jobs;
          runs = with_job (running_job s.book) (Some done) job e
              (record { are = has.are; few = has.few; missing = λ some. has.missing under_way });
        }

        store_stands : text ≡ texts (ran_of job) (count_assets job)
            → Stands (at_book (moved_running s.book (machine.asset now (asset_in setting job (count_assets job) text))))
        store_stands text_is =
            let new : assets.Asset = asset_in setting job (count_assets job) text in
            let grown : PlainJob = with_status Running (machine.gains now new job) in
            record {
              jobs = asset_has s.book valid is.jobs now new;
              runs = with_job (running_job (moved_running s.book (machine.asset now new))) None grown
                  (ap running_job (moved_is s.book job (machine.asset now new) e) ∙ asset_stays s.book job now valid e new)
                  (record {
                    are = texts_more texts (ids job) (ran_of job) 0 (count_assets job) job.assets new has.are (from_zero (count_assets job)) refl text_is;
                    few = one_more (count_assets job) (count_assets grown) (length (ids job)) (length-append job.assets (new ∷ []))
                        (has.missing under_way);
                    missing = λ e. absurd cc;
                  });
            }
          where
            one_more : (m n most : ℕ) → n ≡ m + 1 → m < most → n ≤ most
            one_more m n most same less = omega (arith, same, less)

            from_zero : (n : ℕ) → n ≡ 0 + n
            from_zero n = omega arith

    tick_stands : (now : ℤ) (text : List ℕ) → BringsText texts (due setting s) (tick now text)
        → Stands (next setting (tick now text) s)
    tick_stands now text brings = by (running_job s.book) refl (next_queued s.book) refl s.done refl brings
      where
        by : (o : Option PlainJob) → running_job s.book ≡ o → (q : Option PlainJob) → next_queued s.book ≡ q
            → (place : Option ℕ) → s.done ≡ place
            → BringsText texts (option_map_or (λ job. due_of setting job place) o (option_map_or start q rest)) (tick now text)
            → Stands (ticked setting now text s (option_map_or (λ job. due_of setting job place) o (option_map_or start q rest)))
        by None free None idle place place_is brings = is
        by None free (Some job) queued place place_is brings = start_stands now job free queued
        by (Some job) e q queued None place_is brings =
            elim (cases_Bool (nat_lt (count_assets job) (length (ids job)))) [
              | inl t ↦ rw t (plan_stands job e now text (less_is (count_assets job) (length (ids job)) t))
              | inr f ↦ rw f (finish_stands job e now text (less_not (count_assets job) (length (ids job)) f))
            ]
        by (Some job) e q queued (Some done) place_is brings =
            let under_way : is_some s.done ≡ true = ap is_some place_is in
            elim (cases_Bool (nat_lt done (setting.chunks (ran_of job) (count_assets job)))) [
              | inl t ↦ rw t (round_stands job e now text under_way _)
              | inr f ↦ rw f (store_stands job e now text under_way (rw f at brings))
            ]

    event_stands : (e : Event) → BringsText texts (due setting s) e → Stands (next setting e s)
    event_stands (command user asked now) brings = command_stands user asked now
    event_stands no_command brings = is
    event_stands (tick now text) brings = tick_stands now text brings
    event_stands (refusal now reason) brings = fail_stands now (code_of reason)
    event_stands reopen brings = reopen_stands

  -- ---- all events

  events_stand : KeepsRunning → (es : List Event) (s : State) → BringTexts texts setting es s → Stands s
      → Stands (after setting es s)
  events_stand keeps [] s bring is = is
  events_stand keeps (e ∷ es) s bring is =
      events_stand keeps es (next setting e s) bring.2 (event_stands keeps s bring.0 is e bring.1)

  opened_stands : IsBook first → Stands (at_book (reopened first))
  opened_stands valid = record {
    jobs = reopen_has first valid was;
    runs = no_more (running_job (reopened first)) None (reopened_free first valid);
  }
    where
      was : AllByRecursion HasTexts first.jobs
      was = map_all (λ (job : PlainJob). find (is_job job.id) first.jobs ≡ Some job) HasTexts first.jobs
          (λ job named finished. inl (record { old = job; named = named; finished = finished; same = refl; turn = refl }))
          (all_named 1 first.next first.jobs valid.bounded valid.numbered)

pub finished_jobs_have_texts : KeepsRunning → FinishedJobsHaveTexts
finished_jobs_have_texts keeps texts setting first es valid bring =
    (events_stand texts setting first keeps es (at_book (reopened first)) bring (opened_stands texts setting first valid)).jobs
