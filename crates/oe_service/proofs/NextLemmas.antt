-- What is due, and what a tick makes of it.
use Rattle.std.proofs.Common.{◌≡◌, ◌<◌, ◌≤◌, ℕ, ℤ, true, false, List, Some, None, refl, ap, arith}
use Rattle.std.specs.Prelude.{nat_lt, length}
use Rattle.std.specs.Option.{option_map_or}
use Rattle.std.proofs.lemmas.Bool.Decides.{nat_tests}
use Rattle.oe_jobs.specs.Events.{moved_book, next_queued, running_job}
use Rattle.oe_jobs.specs.Machine as machine
use Rattle.oe_jobs.specs.Plain.{PlainBook, PlainJob}
use Rattle.oe_service.specs.Runs.{ran_of}
use Rattle.oe_service.specs.States.{Due, Setting, State, count_assets, due, due_of, finish, moved_running, next, plan, rest, round, start, store, tick, ticked}

-- ---- tests

pub less_test : (m n : ℕ) → m < n → nat_lt m n ≡ true
less_test m n less = grind (arith, nat_tests)

pub less_none : (m n : ℕ) → n ≤ m → nat_lt m n ≡ false
less_none m n more = grind (arith, nat_tests)

pub less_is : (m n : ℕ) → nat_lt m n ≡ true → m < n
less_is m n test = grind (arith, nat_tests)

pub less_not : (m n : ℕ) → nat_lt m n ≡ false → n ≤ m
less_not m n test = grind (arith, nat_tests)

-- ---- what is due

module _ (setting : Setting) (job : PlainJob) where
  pub plan_due : count_assets job < length (setting.ids (ran_of job)) → due_of setting job None ≡ plan job (count_assets job)
  plan_due misses = rw (less_test (count_assets job) (length (setting.ids (ran_of job))) misses) refl

  pub finish_due : length (setting.ids (ran_of job)) ≤ count_assets job → due_of setting job None ≡ finish job
  finish_due whole = rw (less_none (count_assets job) (length (setting.ids (ran_of job))) whole) refl

  pub round_due : (done : ℕ) → done < setting.chunks (ran_of job) (count_assets job)
      → due_of setting job (Some done) ≡ round job (count_assets job) done
  round_due done left = rw (less_test done (setting.chunks (ran_of job) (count_assets job)) left) refl

  pub store_due : (done : ℕ) → setting.chunks (ran_of job) (count_assets job) ≤ done
      → due_of setting job (Some done) ≡ store job (count_assets job)
  store_due done all = rw (less_none done (setting.chunks (ran_of job) (count_assets job)) all) refl

pub due_running : (setting : Setting) (s : State) (job : PlainJob) → running_job s.book ≡ Some job
    → due setting s ≡ due_of setting job s.done
due_running setting s job e =
    ap (λ o. option_map_or (λ (j : PlainJob). due_of setting j s.done) o (option_map_or start (next_queued s.book) rest)) e

pub due_free : (setting : Setting) (s : State) → running_job s.book ≡ None
    → due setting s ≡ option_map_or start (next_queued s.book) rest
due_free setting s e =
    ap (λ o. option_map_or (λ (j : PlainJob). due_of setting j s.done) o (option_map_or start (next_queued s.book) rest)) e

-- ---- what a tick makes

-- of a state where this is due
pub tick_is : (setting : Setting) (now : ℤ) (text : List ℕ) (s : State) (d : Due) → due setting s ≡ d
    → next setting (tick now text) s ≡ ticked setting now text s d
tick_is setting now text s d e = ap (ticked setting now text s) e

pub moved_is : (book : PlainBook) (job : PlainJob) (event : machine.Event) → running_job book ≡ Some job
    → moved_running book event ≡ moved_book book job.id event
moved_is book job event e = ap (λ o. option_map_or (λ (j : PlainJob). moved_book book j.id event) o book) e
