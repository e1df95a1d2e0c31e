-- What a service keeps over a step that is committed, or is not.
use Rattle.std.proofs.Common.{◌≡◌, ℕ, ℤ, Bool, true, List, [], Option, Some, None, Ok, Err, refl, ap, sym, ◌∙◌, subst}
use Rattle.std.specs.Prelude.{IfSome, IsSomeAnd, is_some}
use Rattle.std.specs.Option.{option_map_or}
use Rattle.oe_engine.specs.Runs.{RunOf}
use Rattle.oe_jobs.specs.Events.{moved_book, running_job}
use Rattle.oe_jobs.specs.Kept.{Kept}
use Rattle.oe_jobs.specs.Machine as machine
use Rattle.oe_jobs.specs.Machine.{with_status}
use Rattle.oe_jobs.specs.Plain.{PlainBook, PlainJob, plain_book}
use Rattle.oe_jobs.specs.Valid.{IsBook}
use Rattle.oe_jobs.specs.declared.status.Status.TheVariants.{Running}
use Rattle.oe_jobs.specs.declared.keeper.KeeperFail.{KeeperFail}
use Rattle.oe_jobs.specs.declared.keeper.KeeperFail.TheVariants as fail
use Rattle.oe_service.specs.Calls.{Installs, IsKept}
use Rattle.oe_service.specs.Ticks.{Commits, answer_of}
use Rattle.oe_service.specs.GoesOn.{IsService, ids_for, state, state_of}
use Rattle.oe_service.specs.Runs.{name_at}
use Rattle.oe_service.specs.States.{at_book, count_assets, with_text}
use Rattle.oe_service.specs.Steps.{Steps}
use Rattle.oe_service.specs.declared.answer.Ticked.{Ticked}
use Rattle.oe_service.specs.declared.answer.Ticked.TheVariants as ticked
use Rattle.oe_service.specs.declared.service.Service.{Service}
use Rattle.oe_service.proofs.CommitLemmas.{installs_none}
use Rattle.oe_service.proofs.KeptLemmas.{fits_by, itself, ranges_by, same_service, same_state}
use Rattle.oe_service.proofs.BookLemmas.{asset_stays}
use Rattle.oe_service.proofs.ServiceLemmas.{free_service}

-- ---- steps

module _ (s t : Service) (made : PlainBook) (kept kept_after : Option Kept) (faults faults_after : ℕ) (has_failed : Bool) where
  commits_refused : (e : KeeperFail) → state_of t ≡ state_of s
      → Installs (plain_book s.book) made (plain_book t.book) kept kept_after faults faults_after has_failed (Err e)
      → Commits made (state_of s) (state_of t) kept kept_after faults faults_after has_failed (answer_of (Err e))
  commits_refused fail.Failed same i = record {
    state = same;
    commits = i.commits;
    unbegun = λ e. absurd cc;
    failed = λ _. i.failed refl;
    worked = λ e. absurd cc;
    count = i.count;
  }
  commits_refused fail.OutOfMemory same i = record {
    state = same;
    commits = i.commits;
    unbegun = λ _. i.unbegun refl;
    failed = λ e. absurd cc;
    worked = λ e. absurd cc;
    count = i.count;
  }

  -- the commit was refused
  pub steps_refused : (e : KeeperFail) → IsService s
      → Installs (plain_book s.book) made (plain_book t.book) kept kept_after faults faults_after has_failed (Err e)
      → t.size ≡ s.size → t.workers ≡ s.workers → t.ids.items ≡ s.ids.items → t.run ≡ s.run
      → Steps made s t kept kept_after faults faults_after has_failed (answer_of (Err e))
  steps_refused e is i size workers ids run = record {
    service = same_service s t is i.book_is size workers ids run;
    sizes = record { size = size; workers = workers };
    is_kept = i.is_kept;
    run = subst (λ o. IfSome o (λ _. o ≡ s.run)) (sym run) (itself s.run);
    commits = commits_refused e (same_state s t i.book_is run) i;
  }

  -- it was committed, and the run has ended
  pub steps_done : IsService t
      → Installs (plain_book s.book) made (plain_book t.book) kept kept_after faults faults_after has_failed (Ok tt)
      → t.size ≡ s.size → t.workers ≡ s.workers → t.run ≡ None
      → Steps made s t kept kept_after faults faults_after has_failed ticked.Moved
  steps_done is i size workers run = record {
    service = is;
    sizes = record { size = size; workers = workers };
    is_kept = i.is_kept;
    run = rw run tt;
    commits = record {
      state = ap (state (plain_book t.book)) run ∙ ap at_book i.book_is;
      commits = i.commits;
      unbegun = λ e. absurd cc;
      failed = λ e. absurd cc;
      worked = λ e. absurd cc;
      count = i.count;
    };
  }

-- there was no memory for the change
pub steps_none : (s : Service) (made : PlainBook) (kept : Option Kept) (faults : ℕ) (has_failed : Bool) → IsService s
    → IsKept kept (plain_book s.book) → Steps made s s kept kept faults faults has_failed ticked.OutOfMemory
steps_none s made kept faults has_failed is is_kept =
    steps_refused s s made kept kept faults faults has_failed fail.OutOfMemory is
    (installs_none (plain_book s.book) made kept faults has_failed (plain_book s.book) is_kept refl) refl refl refl refl

-- ---- the steps of the running job

module _ (s t : Service) (changed_book made book_after : PlainBook) (kept kept_after : Option Kept) (faults faults_after : ℕ)
    (has_failed : Bool) (is : IsService s) (line : changed_book ≡ made) (valid : IsBook changed_book)
    (after_is : plain_book t.book ≡ book_after)
    (i : Installs (plain_book s.book) changed_book book_after kept kept_after faults faults_after has_failed (Ok tt)) where
  abbrev installs : Type 0
  installs = Installs (plain_book s.book) made (plain_book t.book) kept kept_after faults faults_after has_failed (Ok tt)

  installed : installs
  installed =
      subst (λ b. Installs (plain_book s.book) made b kept kept_after faults faults_after has_failed (Ok tt)) (sym after_is)
      (subst (λ m. Installs (plain_book s.book) m book_after kept kept_after faults faults_after has_failed (Ok tt)) line i)

  book_valid : IsBook (plain_book t.book)
  book_valid = subst IsBook (sym installed.book_is) (subst IsBook line valid)

  -- no job runs any more
  pub steps_ended : running_job made ≡ None → t.size ≡ s.size → t.workers ≡ s.workers → t.ids.items ≡ [] → t.run ≡ None
      → Steps made s t kept kept_after faults faults_after has_failed ticked.Moved
  steps_ended none size workers ids run =
      steps_done s t made kept kept_after faults faults_after has_failed
      (free_service t book_valid (ranges_by s.size t.size s.workers t.workers size workers is.ranges)
      (ap running_job installed.book_is ∙ none) ids run) installed size workers run

  -- the job runs still, with one asset more
  pub steps_stays : (job after : PlainJob) → running_job (plain_book s.book) ≡ Some job → running_job made ≡ Some after
      → ids_for (Some job) ≡ ids_for (Some after) → t.size ≡ s.size → t.workers ≡ s.workers → t.ids.items ≡ s.ids.items
      → t.run ≡ None → Steps made s t kept kept_after faults faults_after has_failed ticked.Moved
  steps_stays job after e runs same size workers ids run =
      steps_done s t made kept kept_after faults faults_after has_failed
      (record {
        book = book_valid;
        ranges = ranges_by s.size t.size s.workers t.workers size workers is.ranges;
        ids = ids ∙ (is.ids ∙ (ap ids_for e ∙ (same ∙ sym (ap ids_for runs_after))));
        run = fits_by t.size t.size t.workers t.workers (Some after) (running_job (plain_book t.book)) None t.run refl refl runs_after
            run tt;
      }) installed size workers run
    where
      runs_after : running_job (plain_book t.book) ≡ Some after
      runs_after = ap running_job installed.book_is ∙ runs

-- the job that runs after its asset is stored
pub stored_runs : (ids : List (List ℕ)) (text : List ℕ) (now : ℤ) (book : PlainBook) (job : PlainJob) → IsBook book
    → running_job book ≡ Some job
    → running_job (with_text ids text now book)
    ≡ Some (with_status Running (machine.gains now (record { name = name_at ids (count_assets job); text = text }) job))
stored_runs ids text now book job valid e =
    ap (λ (o : Option PlainJob). running_job (option_map_or (λ (j : PlainJob). moved_book book j.id (machine.asset now
    (record { name = name_at ids (count_assets j); text = text }))) o book)) e
    ∙ asset_stays book job now valid e (record { name = name_at ids (count_assets job); text = text })

-- what an option has of which something holds
pub some_and : {X : Type 0} (P : X → Type 0) (o : Option X) → IsSomeAnd o P → (x : X) × (o ≡ Some x) × P x
some_and P None is = absurd is
some_and P (Some x) is = (x, refl, is)

pub and_at : {X : Type 0} (P : X → Type 0) (o : Option X) (x : X) → o ≡ Some x → IsSomeAnd o P → P x
and_at P o x e is = rw e at is

pub some_by_and : {X : Type 0} (P : X → Type 0) (o : Option X) → IsSomeAnd o P → is_some o ≡ true
some_by_and P None is = absurd is
some_by_and P (Some x) is = refl

-- a step of a service whose run was handed out, and came back as it was
pub steps_from : (s : Service) (run r : RunOf) → s.run ≡ Some r → run ≡ r → (made : PlainBook) (t : Service)
    (kept kept_after : Option Kept) (faults faults_after : ℕ) (has_failed : Bool) (result : Ticked)
    → Steps made (record { book = s.book; size = s.size; workers = s.workers; ids = s.ids; run = Some run }) t kept kept_after faults
    faults_after has_failed result
    → Steps made s t kept kept_after faults faults_after has_failed result
steps_from s run r run_is same made t kept kept_after faults faults_after has_failed result steps =
    subst (λ (o : Option RunOf). Steps made (record { book = s.book; size = s.size; workers = s.workers; ids = s.ids; run = o }) t kept
    kept_after faults faults_after has_failed result) (ap Some same ∙ sym run_is) steps
