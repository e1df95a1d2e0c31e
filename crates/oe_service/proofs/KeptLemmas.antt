-- What a service keeps over a command, and where its book is the same.
use Rattle.std.proofs.Common.{◌≡◌, ℕ, ℤ, Bool, true, false, List, Option, Some, None, Result, inl, inr, refl, ap, sym, ◌∙◌, subst}
use Rattle.std.specs.Prelude.{IfSome, is_none, is_some, if◌then◌else◌}
use Rattle.std.specs.Option.{option_map}
use Rattle.oe_book.specs.Laws.{KeepsRunning}
use Rattle.oe_engine.specs.Going.{IsGoing}
use Rattle.oe_engine.specs.Runs.{RunOf}
use Rattle.oe_jobs.specs.Events.{running_job}
use Rattle.oe_jobs.specs.Kept.{Kept}
use Rattle.oe_jobs.specs.Plain.{PlainBook, PlainCommand, PlainJob, plain_book}
use Rattle.oe_jobs.specs.Valid.{IsBook}
use Rattle.oe_jobs.specs.Verdicts as verdicts
use Rattle.oe_jobs.specs.declared.keeper.KeeperFail.{KeeperFail}
use Rattle.oe_plan.specs.Ranges.{IsWithinRanges}
use Rattle.oe_sources.specs.Catalogue.{Row}
use Rattle.oe_window.specs.declared.grid.ChunkSize.{ChunkSize}
use Rattle.oe_service.specs.Calls.{CommitsOne, GoesByEvent, Installs, IsDecided, Obeys, is_done}
use Rattle.oe_service.specs.GoesOn.{FitsJob, GoesOn, IsService, StaysWithin, ids_for, state, state_of}
use Rattle.oe_service.specs.States.{Setting, State, at_book, command, commanded}
use Rattle.oe_service.specs.declared.service.Service.{Service}

-- ---- options

pub itself : {X : Type 0} (o : Option X) → IfSome o (λ _. o ≡ o)
itself None = tt
itself (Some x) = refl

pub none_by : {X Y : Type 0} (f : X → Y) (o : Option X) (p : Option Y) → option_map f o ≡ p → is_none o ≡ true → p ≡ None
none_by f None p is none = sym is
none_by f (Some x) p is none = absurd cc

pub some_by : {X Y : Type 0} (f : X → Y) (o : Option X) (p : Option Y) → option_map f o ≡ p → is_none o ≡ false → is_some p ≡ true
some_by f None p is some = absurd cc
some_by f (Some x) p is some = rw (← is) refl

none_some : {X : Type 0} (o : Option X) → o ≡ None → is_some o ≡ true → ⊥
none_some None none some = absurd cc
none_some (Some x) none some = absurd cc

-- ---- runs

-- no run stands after a step of a service that had none
pub none_stays : (o p : Option RunOf) → p ≡ None → IfSome o (λ _. o ≡ p) → o ≡ None
none_stays None p none stays = refl
none_stays (Some r) p none stays = stays ∙ none

pub going_none : (o : Option RunOf) → o ≡ None → (rows : List Row) (bytes : Option (List ℕ)) → GoesOn o rows bytes
going_none o none rows bytes = rw none tt

pub going_some : (o : Option RunOf) (r : RunOf) → o ≡ Some r → (rows : List Row) (bytes : Option (List ℕ)) → IsGoing r rows bytes
    → GoesOn o rows bytes
going_some o r some rows bytes going = rw some going

-- the run that stands after a step goes on as the one from before
pub going_stays : (o p : Option RunOf) → IfSome o (λ _. o ≡ p) → (rows : List Row) (bytes : Option (List ℕ)) → GoesOn p rows bytes
    → GoesOn o rows bytes
going_stays None p stays rows bytes going = tt
going_stays (Some r) p stays rows bytes going = subst (λ (q : Option RunOf). GoesOn q rows bytes) (sym stays) going

pub within_none : (o : Option RunOf) → o ≡ None → (rows : List Row) (bytes : Option (List ℕ)) → StaysWithin o rows rows bytes bytes
within_none o none rows bytes = rw none (refl, refl)

pub within_some : (o : Option RunOf) (r : RunOf) → o ≡ Some r → (rows rows_after : List Row) (bytes bytes_after : Option (List ℕ))
    → StaysWithin (Some r) rows rows_after bytes bytes_after → StaysWithin o rows rows_after bytes bytes_after
within_some o r some rows rows_after bytes bytes_after within = rw some within

-- ---- services

pub fits_by : (size other : ChunkSize) (workers others : ℕ) (o p : Option PlainJob) (r q : Option RunOf) → other ≡ size
    → others ≡ workers → p ≡ o → q ≡ r → FitsJob size workers o r → FitsJob other others p q
fits_by size other workers others o p r q size_is workers_are job_is run_is fits =
    rw (size_is, workers_are, job_is, run_is) fits

pub ranges_by : (size other : ChunkSize) (workers others : ℕ) → other ≡ size → others ≡ workers → IsWithinRanges size workers
    → IsWithinRanges other others
ranges_by size other workers others size_is workers_are is = rw (size_is, workers_are) is

-- one with a valid book in which the same job runs
pub kept_service : (s t : Service) → IsService s → IsBook (plain_book t.book)
    → running_job (plain_book t.book) ≡ running_job (plain_book s.book) → t.size ≡ s.size → t.workers ≡ s.workers
    → t.ids.items ≡ s.ids.items → t.run ≡ s.run → IsService t
kept_service s t is valid same size workers ids run = record {
  book = valid;
  ranges = ranges_by s.size t.size s.workers t.workers size workers is.ranges;
  ids = ids ∙ (is.ids ∙ ap ids_for (sym same));
  run = fits_by s.size t.size s.workers t.workers (running_job (plain_book s.book)) (running_job (plain_book t.book)) s.run t.run
      size workers same run is.run;
}

-- one with the same book
pub same_service : (s t : Service) → IsService s → plain_book t.book ≡ plain_book s.book → t.size ≡ s.size → t.workers ≡ s.workers
    → t.ids.items ≡ s.ids.items → t.run ≡ s.run → IsService t
same_service s t is same size workers ids run =
    kept_service s t is (subst IsBook (sym same) is.book) (ap running_job same) size workers ids run

pub same_state : (s t : Service) → plain_book t.book ≡ plain_book s.book → t.run ≡ s.run → state_of t ≡ state_of s
same_state s t same run = ap (λ b. state b t.run) same ∙ ap (state (plain_book s.book)) run

-- ---- a command

module _ (book made book_after : PlainBook) (done : Option ℕ) (kept kept_after : Option Kept) (faults faults_after : ℕ)
    (has_failed : Bool) (r : Result (Unit {0}) KeeperFail)
    (i : Installs book made book_after kept kept_after faults faults_after has_failed r) where
  abbrev before : State
  before = record { book = book; done = done }

  pub obeys_by : (s_after : State) → s_after ≡ (if is_done r then commanded made done else before)
      → Obeys made before s_after kept kept_after faults faults_after has_failed r
  obeys_by s_after is = record {
    state = is;
    commits = i.commits;
    unbegun = i.unbegun;
    failed = i.failed;
    count = i.count;
  }

  pub goes_by : (s_after : State) → s_after ≡ (if is_done r then commanded made done else before) → (setting : Setting)
      (user : List ℕ) (asked : PlainCommand) (now : ℤ) → made ≡ verdicts.next book user asked now
      → GoesByEvent setting (command user asked now) (is_done r) before s_after kept kept_after
  goes_by s_after is setting user asked now made_is = record {
    state = is ∙ ap (λ m. if is_done r then commanded m done else before) made_is;
    commits = subst (λ m. CommitsOne kept m kept_after) made_is i.commits;
  }

-- the run goes on where a job runs
pub commanded_some : (made book : PlainBook) (done : Option ℕ) → book ≡ made → is_some (running_job made) ≡ true
    → record { book = book; done = done } ≡ commanded made done
commanded_some made book done same runs =
    ap (λ b. record { book = b; done = done }) same
    ∙ ap (λ (x : Bool). record { book = made; done = if x then done else None }) (sym runs)

pub commanded_none : (made book : PlainBook) (done : Option ℕ) → book ≡ made → running_job made ≡ None
    → at_book book ≡ commanded made done
commanded_none made book done same none =
    ap at_book same ∙ ap (λ (o : Option PlainJob). record { book = made; done = if is_some o then done else None }) (sym none)

-- the job that runs after a command ran before it
pub stays_running : KeepsRunning → (book made : PlainBook) → IsBook book → IsDecided book made → is_some (running_job made) ≡ true
    → running_job made ≡ running_job book
stays_running keeps book made valid decided some =
    elim (keeps book decided.user decided.asked decided.now valid) [
      | inl same ↦ ap running_job decided.made_is ∙ same
      | inr none ↦ absurd (none_some (running_job made) (ap running_job decided.made_is ∙ none) some)
    ]
