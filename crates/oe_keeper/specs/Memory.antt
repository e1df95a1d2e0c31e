-- What a keeper in memory holds and shows, and the book that a crash leaves.
use Rattle.std.specs.Prelude.{◌≡◌, ◌≤◌, ℕ, Bool, true, false, List, Option, None, Result, Ok, Err, IfSome, unwrap_or, if◌then◌else◌, refl}
use Rattle.std.specs.Coded.{Coded, code_by, coded×, coded_ℕ, coded_bool, coded_list, coded_option}
use Rattle.oe_jobs.specs.Changes.{changed}
use Rattle.oe_jobs.specs.Kept.{Kept}
use Rattle.oe_jobs.specs.Plain.{PlainBook, PlainChange, plain_book}
use Rattle.oe_jobs.specs.Valid.{IsBook}
use Rattle.oe_jobs.specs.declared.book.Book.{Book}
use Rattle.oe_jobs.specs.contracts.book.Book.{the_row as book_row}
use Rattle.oe_jobs.specs.declared.keeper.KeeperFail.{KeeperFail}
use Rattle.oe_jobs.specs.declared.keeper.KeeperFail.TheVariants as fail
use Rattle.oe_outside.specs.Faults.{last_count}
use Rattle.oe_keeper.specs.Scripts.{Script, script_of, has_stopped, is_kept}

pub record Memory : Type 0 where
  -- the book that is kept
  pub book : Book
  -- the book that the last commit makes, where it failed
  pub made : Option Book
  -- the book that the commit in which the keeper stopped makes, where it is kept all the same
  pub stopped : Option Book
  -- how many commits were begun
  pub begun : ℕ
  pub script : Script

abbrev script_code : Coded Script
script_code =
    code_by (List ℕ × (Option (ℕ × Bool) × (ℕ × (ℕ × Bool))))
    (coded× (coded_list coded_ℕ) (coded× (coded_option (coded× coded_ℕ coded_bool))
    (coded× coded_ℕ (coded× coded_ℕ coded_bool))))
    (λ s. (s.failing, (s.stop, (s.calls, (s.faults, s.has_failed)))))
    (λ p. record { failing = p.0; stop = p.1.0; calls = p.1.1.0; faults = p.1.1.1.0; has_failed = p.1.1.1.1 })
    (λ _. refl)

abbrev pub memory_code : Coded Memory
memory_code =
    code_by (Book × (Option Book × (Option Book × (ℕ × Script))))
    (coded× book_row.coded (coded× (coded_option book_row.coded)
    (coded× (coded_option book_row.coded) (coded× coded_ℕ script_code))))
    (λ m. (m.book, (m.made, (m.stopped, (m.begun, m.script)))))
    (λ p. record { book = p.0; made = p.1.0; stopped = p.1.1.0; begun = p.1.1.1.0; script = p.1.1.1.1 }) (λ _. refl)

-- before the first call
abbrev pub memory_of : Book → List ℕ → Option (ℕ × Bool) → Memory
memory_of book failing stop =
    record { book = book; made = None; stopped = None; begun = 0; script = script_of failing stop }

-- what it shows as a keeper
abbrev pub kept_in : Memory → Kept
kept_in m = record { book = plain_book m.book; begun = m.begun; made = plain_book (unwrap_or m.made m.book) }

-- the book that a crash leaves
abbrev pub left_in : Memory → PlainBook
left_in m = plain_book (unwrap_or m.stopped m.book)

-- The book that a crash leaves after a commit: an Ok leaves the changed one; a failure leaves the changed one where the
-- keeper stops in this commit and keeps it all the same, and else what a crash left before.
abbrev pub left_after : Memory → PlainChange → Result (Unit {0}) KeeperFail → PlainBook
left_after m change (Ok done) = changed (plain_book m.book) change
left_after m change (Err fail.Failed) =
    if is_kept m.script.stop m.script.calls then changed (plain_book m.book) change else left_in m
left_after m change (Err fail.OutOfMemory) = left_in m

-- the refusal is a failure, and not out of memory
abbrev pub is_failure : KeeperFail → Bool
is_failure fail.Failed = true
is_failure fail.OutOfMemory = false

-- the call failed
abbrev pub has_failed : {T : Type 0} → Result T KeeperFail → Bool
has_failed (Ok done) = false
has_failed (Err refusal) = is_failure refusal

-- The books are valid. A book that a crash leaves beside the kept one is there only once the keeper has stopped. The
-- counters are within their type.
pub record IsMemory (book : Book) (stopped : Option Book) (script : Script) : Type 0 where
  pub valid : IsBook (plain_book book)
  pub left_valid : IfSome stopped (λ b. IsBook (plain_book b))
  pub only_stopped : IfSome stopped (λ _. has_stopped script.stop script.calls ≡ true)
  pub calls : script.calls ≤ last_count
  pub faults : script.faults ≤ last_count
