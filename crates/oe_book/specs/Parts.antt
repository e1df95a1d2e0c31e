-- The rules of a valid book, in parts.
use Rattle.std.specs.Prelude.{◌≡◌, ◌≤◌, ℕ, List, count_by, length, true}
use Rattle.std.specs.List.{AllByRecursion}
use Rattle.oe_graph.specs.Parameters.{are_distinct}
use Rattle.oe_graph.specs.Tree.{PlainStored}
use Rattle.oe_jobs.specs.Plain.{PlainBook, PlainJob, PlainOwned, PlainRan}
use Rattle.oe_jobs.specs.Valid.{AllApart, AreNumbered, IsJob, IsProcessText, IsStored, OwnedDiffer, stored_ids}
use Rattle.oe_jobs.specs.Verdicts.{is_job_of, is_process_of, last_next, most_jobs, most_processes}

-- the next number is one that a book may have, and the numbers of the jobs rise to below it
abbrev pub IsNext : ℕ → Type 0
IsNext next = (1 ≤ next) × (next ≤ last_next)

abbrev pub NumbersFit : PlainBook → Type 0
NumbersFit book = IsNext book.next × AreNumbered 1 book.jobs book.next

-- the jobs are apart, and no user has too many
abbrev pub JobsCompare : PlainBook → Type 0
JobsCompare book = AllApart book.jobs × ((user : List ℕ) → count_by (is_job_of user) book.jobs ≤ most_jobs)

-- the rules that compare its jobs, and those that compare its stored processes
abbrev pub JobsFit : PlainBook → Type 0
JobsFit book = NumbersFit book × JobsCompare book

abbrev pub ProcessesFit : PlainBook → Type 0
ProcessesFit book =
    OwnedDiffer book.processes × ((user : List ℕ) → count_by (is_process_of user) book.processes ≤ most_processes)

-- those of each record by itself
abbrev pub HasRecords : PlainBook → Type 0
HasRecords book =
    AllByRecursion (IsJob book.next) book.jobs
    × AllByRecursion (λ (owned : PlainOwned). IsStored owned.process) book.processes

-- the user of a job, or of a stored process, has no more of them than may be
abbrev pub HasFewJobs : PlainBook → PlainJob → Type 0
HasFewJobs book job = count_by (is_job_of job.user) book.jobs ≤ most_jobs

abbrev pub HasFewProcesses : PlainBook → PlainOwned → Type 0
HasFewProcesses book owned = count_by (is_process_of owned.user) book.processes ≤ most_processes

-- what a job may run with: not too many stored processes, no two of one id
abbrev pub HasFew : List PlainStored → Type 0
HasFew stored = (length stored ≤ most_processes) × (are_distinct (stored_ids stored) ≡ true)

-- each process is as it was read
abbrev pub IsRead : PlainRan → Type 0
IsRead ran = IsProcessText ran.process × AllByRecursion IsStored ran.stored
