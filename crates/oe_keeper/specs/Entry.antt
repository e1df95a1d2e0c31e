-- The entry of a job: the JSON value whose compact text is kept of it. Its assets are kept beside it.
use Rattle.std.specs.Prelude.{ℕ, List, map, Option, Some, None, codes, decimal}
use Rattle.serde_json.specs.Data.{Data, null, number, string, array, object, no_members, member}
use Rattle.serde_json.specs.Find.{of_integer}
use Rattle.serde_json.specs.View.{items_of}
use Rattle.oe_graph.specs.Tree.{PlainStored}
use Rattle.oe_jobs.specs.Plain.{PlainJob, PlainRan}
use Rattle.oe_jobs.specs.Texts.{level_text, status_text}
use Rattle.oe_jobs.specs.declared.job.LogEntry.{LogEntry}

-- a text, or null where there is none
abbrev pub text_data : Option (List ℕ) → Data
text_data None = null
text_data (Some text) = string text

abbrev pub log_data : LogEntry → Data
log_data log = object (
    member (codes "code") (text_data log.code) (
    member (codes "level") (string (level_text log.level)) (
    member (codes "message") (string log.message) no_members)))

-- a stored process, by its id and its text
abbrev pub stored_data : PlainStored → Data
stored_data process =
    object (member (codes "id") (string process.id) (member (codes "text") (string process.text) no_members))

-- what a job runs, or null where it was never queued
abbrev pub ran_data : Option PlainRan → Data
ran_data None = null
ran_data (Some ran) = object (
    member (codes "process") (string ran.process) (
    member (codes "stored") (array (items_of (map stored_data ran.stored))) no_members))

-- The members in byte order. The turn is a text, since not every reader of JSON keeps a number of 64 bits.
abbrev pub job_data : PlainJob → Data
job_data job = object (
    member (codes "created") (number (of_integer job.created)) (
    member (codes "description") (text_data job.description) (
    member (codes "level") (string (level_text job.level)) (
    member (codes "logs") (array (items_of (map log_data job.logs))) (
    member (codes "process") (string job.process) (
    member (codes "ran") (ran_data job.ran) (
    member (codes "status") (string (status_text job.status)) (
    member (codes "title") (text_data job.title) (
    member (codes "turn") (string (decimal job.turn)) (
    member (codes "updated") (number (of_integer job.updated)) (
    member (codes "user") (string job.user) no_members)))))))))))
