-- What the calls of a service promise: each is its event or none, and begins at most one commit.
use Rattle.std.specs.Prelude.{◌≡◌, ◌≢◌, ◌⊎◌, ℕ, ℤ, Bool, true, false, List, Option, Some, None, Result, Ok, Err, IfSome, IsErrOf, if◌then◌else◌}
use Rattle.oe_jobs.specs.Kept.{Kept}
use Rattle.oe_jobs.specs.Plain.{PlainBook, PlainCommand}
use Rattle.oe_jobs.specs.Verdicts as verdicts
use Rattle.oe_jobs.specs.declared.keeper.KeeperFail.{KeeperFail}
use Rattle.oe_jobs.specs.declared.keeper.KeeperFail.TheVariants as fail
use Rattle.oe_outside.specs.Faults.{NeverFalls, Rose, counted}
use Rattle.oe_service.specs.States.{Event, Setting, State, at_book, command, commanded, next, reopened}
use Rattle.oe_service.specs.declared.open.OpenBookFail.{OpenBookFail}
use Rattle.oe_service.specs.declared.open.OpenBookFail.TheVariants as opening

-- ---- commits

-- the book that is kept is this one, where it is visible
abbrev pub IsKept : Option Kept → PlainBook → Type 0
IsKept kept book = IfSome kept (λ (k : Kept). k.book ≡ book)

-- one commit was begun, which makes this book, and it is kept or the one from before
pub record BeginsOne (before : Kept) (made : PlainBook) (after : Kept) : Type 0 where
  pub begun : after.begun ≡ counted before.begun
  pub makes : after.made ≡ made
  pub book : (after.book ≡ before.book) ⊎ (after.book ≡ made)

-- over a call at most one commit was begun, and it makes this book
abbrev pub CommitsOne : Option Kept → PlainBook → Option Kept → Type 0
CommitsOne None made after = after ≡ None
CommitsOne (Some before) made None = ⊥
CommitsOne (Some before) made (Some after) = (after ≡ before) ⊎ BeginsOne before made after

-- exactly one was begun, which makes this book, and the one from before is kept
abbrev pub FailsOne : Option Kept → PlainBook → Option Kept → Type 0
FailsOne None made after = after ≡ None
FailsOne (Some before) made None = ⊥
FailsOne (Some before) made (Some after) =
    (after.begun ≡ counted before.begun) × (after.made ≡ made) × (after.book ≡ before.book)

-- a crash in a call leaves of what is kept the book from before it, the one from after it, or the one that a commit
-- makes which was begun in it
abbrev pub MayLeave : Kept → Kept → PlainBook → Type 0
MayLeave before after left = (left ≡ before.book) ⊎ ((left ≡ after.book) ⊎ ((after ≢ before) × (left ≡ after.made)))

-- ---- every call

-- It is its event, or none. At most one commit was begun, and it makes the book of the event, also where the call was
-- none: so a crash in it leaves the book from before it, or that one.
pub record GoesByEvent (setting : Setting) (e : Event) (is_event : Bool) (before after : State)
    (kept kept_after : Option Kept) : Type 0 where
  pub state : after ≡ (if is_event then next setting e before else before)
  pub commits : CommitsOne kept (next setting e before).book kept_after

-- it is that of each command of a user, at whatever moment, that makes this book, where it was done
abbrev pub GoesByCommands : PlainBook → Bool → State → State → Option Kept → Option Kept → Type 0
GoesByCommands made done before after kept kept_after =
    (setting : Setting) (user : List ℕ) (asked : PlainCommand) (now : ℤ)
    → made ≡ verdicts.next before.book user asked now
    → GoesByEvent setting (command user asked now) done before after kept kept_after

-- ---- a change that is committed and installed

abbrev pub is_done : Result (Unit {0}) KeeperFail → Bool
is_done (Ok done) = true
is_done (Err refusal) = false

-- The keeper's fault counter rose in its last call, which failed: exactly one commit was begun, which makes this book, and
-- the one from before is kept.
pub record Failed (made : PlainBook) (kept kept_after : Option Kept) (faults faults_after : ℕ) (has_failed : Bool)
    : Type 0 where
  pub rose : Rose faults faults_after
  pub last : has_failed ≡ true
  pub begun : FailsOne kept made kept_after

-- a commit that makes a book, and the book in memory; out of memory begins none
pub record Installs (book made book_after : PlainBook) (kept kept_after : Option Kept) (faults faults_after : ℕ)
    (has_failed : Bool) (result : Result (Unit {0}) KeeperFail) : Type 0 where
  pub book_is : book_after ≡ (if is_done result then made else book)
  pub is_kept : IsKept kept_after book_after
  pub commits : CommitsOne kept made kept_after
  pub unbegun : IsErrOf result fail.OutOfMemory → kept_after ≡ kept
  pub failed : IsErrOf result fail.Failed → Failed made kept kept_after faults faults_after has_failed
  pub count : NeverFalls faults faults_after

-- ---- commands

-- A command's change, which makes this book, is committed and installed. The run goes on while its job runs. Out of memory
-- begins no commit.
pub record Obeys (made : PlainBook) (s s_after : State) (kept kept_after : Option Kept) (faults faults_after : ℕ)
    (has_failed : Bool) (result : Result (Unit {0}) KeeperFail) : Type 0 where
  pub state : s_after ≡ (if is_done result then commanded made s.done else s)
  pub commits : CommitsOne kept made kept_after
  pub unbegun : IsErrOf result fail.OutOfMemory → kept_after ≡ kept
  pub failed : IsErrOf result fail.Failed → Failed made kept kept_after faults faults_after has_failed
  pub count : NeverFalls faults faults_after

-- the book is the one that a user's command makes at some moment
pub record IsDecided (book made : PlainBook) : Type 0 where
  pub user : List ℕ
  pub asked : PlainCommand
  pub now : ℤ
  pub made_is : made ≡ verdicts.next book user asked now

-- ---- the opening

abbrev pub of_keeper : KeeperFail → OpenBookFail
of_keeper fail.Failed = opening.KeeperFailed
of_keeper fail.OutOfMemory = opening.OutOfMemory

-- the state is that of the book that was kept, after the reopening
abbrev pub IsReopened : Option Kept → State → Type 0
IsReopened kept state = IfSome kept (λ (k : Kept). state ≡ at_book (reopened k.book))

-- at most one commit was begun, which makes the reopened book
abbrev pub CommitsReopened : Option Kept → Option Kept → Type 0
CommitsReopened kept kept_after = IfSome kept (λ (k : Kept). CommitsOne kept (reopened k.book) kept_after)

-- the book that was kept is
abbrev pub KeepsBook : Option Kept → Option Kept → Type 0
KeepsBook kept kept_after = IfSome kept (λ (k : Kept). IsKept kept_after k.book)
