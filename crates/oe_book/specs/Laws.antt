-- What holds of every valid book.
use Rattle.std.specs.Prelude.{◌≡◌, ◌⊎◌, ◌↔◌, ℕ, ℤ, List, None, codes, false}
use Rattle.serde_json.specs.Data.{Data, Members, object, put}
use Rattle.oe_graph.specs.Form.{is_absent_or, StandsIn}
use Rattle.oe_graph.specs.Parameters.{are_parameters}
use Rattle.oe_graph.specs.Valid.{AreValidStored}
use Rattle.oe_graph.specs.declared.code.Code.{Code}
use Rattle.oe_jobs.specs.Events.{has_busy_job, next_queued, running_job}
use Rattle.oe_jobs.specs.Plain.{PlainBook, PlainCommand, PlainRan}
use Rattle.oe_jobs.specs.Valid.{IsBook, IsRan}
use Rattle.oe_jobs.specs.Verdicts.{next, stored_of}

-- after any command of any user the job that runs is the same record as before, or none runs
abbrev pub KeepsRunning : Type 0
KeepsRunning =
    (book : PlainBook) (user : List ℕ) (command : PlainCommand) (now : ℤ) → IsBook book
    → (running_job (next book user command now) ≡ running_job book) ⊎ (running_job (next book user command now) ≡ None)

-- where no job runs, and none is the queued one of least turn, no job is queued or runs
abbrev pub IdleWithoutBusy : Type 0
IdleWithoutBusy = (book : PlainBook) → running_job book ≡ None → next_queued book ≡ None → has_busy_job book ≡ false

-- a user's stored processes are such as graphs are resolved with
abbrev pub BookStoredIsValid : Type 0
BookStoredIsValid = (book : PlainBook) (user : List ℕ) → IsBook book → AreValidStored (stored_of user book)

-- and so are those that a job runs with
abbrev pub RanStoredIsValid : Type 0
RanStoredIsValid = (ran : PlainRan) → IsRan ran → AreValidStored ran.stored

-- Setting the member `id` of a process that was sent leaves the faults of its form as they are: those of the graph, and
-- that of its parameters.
abbrev pub IdLeavesFaults : Type 0
IdLeavesFaults =
    (members : Members) (id : Data)
    → ((code : Code) (node : List ℕ)
    → StandsIn (object (put (codes "id") id members)) code node ↔ StandsIn (object members) code node)
    × (is_absent_or are_parameters (codes "parameters") (object (put (codes "id") id members))
    ≡ is_absent_or are_parameters (codes "parameters") (object members))
