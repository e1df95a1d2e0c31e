-- Lives of a service: calls and crashes, one after the other, and what holds of all of them.
use Rattle.std.specs.Prelude.{◌≡◌, ◌⊎◌, Bool, List, [], ◌∷◌, ◌++◌, Option, Some, None, if◌then◌else◌}
use Rattle.oe_jobs.specs.Events.{job_named, running_job}
use Rattle.oe_jobs.specs.Kept.{Kept}
use Rattle.oe_jobs.specs.Plain.{PlainBook, PlainJob}
use Rattle.oe_jobs.specs.Valid.{IsBook}
use Rattle.oe_jobs.specs.declared.status.Status.TheVariants.{Queued}
use Rattle.oe_service.specs.Calls.{CommitsOne, GoesByEvent, IsKept, MayLeave}
use Rattle.oe_service.specs.States.{Event, reopen, Setting, State, after, at_book, next, reopened}

-- ---- calls one after the other

-- a call: its event and whether it came, and the states and what is kept before it and after it
pub record Call : Type 0 where
  pub event : Event
  pub is_event : Bool
  pub before : State
  pub after : State
  pub kept : Option Kept
  pub kept_after : Option Kept

-- each call goes, begins where the one before it ended, and ends with its book kept
abbrev pub GoOn : Setting → State → Option Kept → List Call → State → Option Kept → Type 0
GoOn setting first kept [] last kept_last = (last ≡ first) × (kept_last ≡ kept)
GoOn setting first kept (call ∷ calls) last kept_last =
    (call.before ≡ first)
    × (call.kept ≡ kept)
    × GoesByEvent setting call.event call.is_event call.before call.after call.kept call.kept_after
    × IsKept call.kept_after call.after.book
    × GoOn setting call.after call.kept_after calls last kept_last

-- the events that came, the first of them first
abbrev pub events_of : List Call → List Event
events_of [] = []
events_of (call ∷ calls) = if call.is_event then call.event ∷ events_of calls else events_of calls

-- After any calls the state is that of the events that came, and its book is kept.
abbrev pub CallsLeadOn : Type 0
CallsLeadOn =
    (setting : Setting) (first : State) (kept : Option Kept) (calls : List Call) (last : State)
    (kept_last : Option Kept) → IsKept kept first.book → GoOn setting first kept calls last kept_last
    → (last ≡ after setting (events_of calls) first) × IsKept kept_last last.book

-- ---- crashes

-- A crash in a call that keeps its promise leaves the book from before it, or the one that its event makes.
abbrev pub CrashesLeaveOne : Type 0
CrashesLeaveOne =
    (before after : Kept) (made left : PlainBook) → CommitsOne (Some before) made (Some after)
    → MayLeave before after left → (left ≡ before.book) ⊎ (left ≡ made)

-- what came of a call, or that the book was opened
pub data Mark : Type 0 where
  -- the call was answered, and was this event
  answered : Event → Mark
  -- a crash cut it off, and left the book that this event makes
  cut : Event → Mark
  -- a crash cut it off, or came before it, and left the book as it was
  lost : Event → Mark
  opening : Mark

-- The calls and crashes since a book was first opened, and the state that they led to. After a crash the book that it
-- left is opened.
pub data Lives (setting : Setting) (first : PlainBook) : List Mark → State → Type 0 where
  opened : Lives setting first (opening ∷ []) (next setting reopen (at_book first))
  answers : {marks : List Mark} {s : State} → Lives setting first marks s → (e : Event)
      → Lives setting first (marks ++ answered e ∷ []) (next setting e s)
  loses : {marks : List Mark} {s : State} → Lives setting first marks s → (e : Event) (left : PlainBook)
      → left ≡ s.book → Lives setting first (marks ++ lost e ∷ opening ∷ []) (next setting reopen (at_book left))
  cuts : {marks : List Mark} {s : State} → Lives setting first marks s → (e : Event) (left : PlainBook)
      → left ≡ (next setting e s).book
      → Lives setting first (marks ++ cut e ∷ opening ∷ []) (next setting reopen (at_book left))

-- the events that count: all but those of calls that a crash left nothing of
abbrev pub events_in : List Mark → List Event
events_in [] = []
events_in (answered e ∷ marks) = e ∷ events_in marks
events_in (cut e ∷ marks) = e ∷ events_in marks
events_in (lost e ∷ marks) = events_in marks
events_in (opening ∷ marks) = reopen ∷ events_in marks

-- No event whose call was answered is lost, whatever crashes come: the state is that of all events that were answered,
-- in their order, with the openings and those cut calls between them whose event a crash left.
abbrev pub NothingIsLost : Type 0
NothingIsLost =
    (setting : Setting) (first : PlainBook) (marks : List Mark) (s : State) → Lives setting first marks s
    → s ≡ after setting (events_in marks) (at_book first)

-- a job is queued in the book, without assets, and all else of it is as it was
pub record IsQueuedAgain (job : PlainJob) (book : PlainBook) : Type 0 where
  pub queued : PlainJob
  pub named : job_named job.id book ≡ Some queued
  pub queued_is : queued ≡ record job { status = Queued; assets = [] }

-- After an opening no job runs, and the one that ran is queued again, with its old turn.
pub record RunningIsQueued : Type 0 where
  pub none_runs : (book : PlainBook) → IsBook book → running_job (reopened book) ≡ None
  pub queued : (book : PlainBook) (job : PlainJob) → running_job book ≡ Some job
      → IsQueuedAgain job (reopened book)
