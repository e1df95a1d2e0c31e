-- What holds of the jobs of every valid book.
use Rattle.std.specs.Prelude.{Contains}
use Rattle.oe_jobs.specs.Plain.{PlainBook, PlainJob}
use Rattle.oe_jobs.specs.Valid.{IsBook}
use Rattle.oe_keeper.specs.Reading.{IsRestorable}

-- each is read again from its entry
abbrev pub JobsAreRestorable : Type 0
JobsAreRestorable = (book : PlainBook) (job : PlainJob) → IsBook book → Contains book.jobs job → IsRestorable job
