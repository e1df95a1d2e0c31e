-- A job of a valid book is read again.
use Rattle.std.proofs.Common.{◌≡◌, ℕ, zero, suc, ◌<◌, List, [], ◌∷◌, length, Option, Some, None, subst, arith}
use Rattle.std.specs.Prelude.{IfSome, slice_index_or}
use Rattle.std.specs.List.{AllByRecursion}
use Rattle.oe_graph.specs.Read.{ReadsStored}
use Rattle.oe_graph.specs.Tree.{PlainStored}
use Rattle.oe_jobs.specs.Plain.{PlainJob, PlainRan}
use Rattle.oe_jobs.specs.Valid.{IsJob, IsRan, IsStored}
use Rattle.oe_keeper.specs.Laws.{JobsAreRestorable}

job_at : (next : ℕ) (jobs : List PlainJob) (k : ℕ) (job : PlainJob) → k < length jobs → slice_index_or jobs k job ≡ job
    → AllByRecursion (IsJob next) jobs → IsJob next job
job_at next [] k job below is all = absurd (omega arith)
job_at next (a ∷ jobs) zero job below is all = subst (IsJob next) is all.0
job_at next (a ∷ jobs) (suc k) job below is all = job_at next jobs k job (omega arith) is all.1

all_read : (stored : List PlainStored) → AllByRecursion IsStored stored
    → AllByRecursion (λ (p : PlainStored). ReadsStored p.id p.text p) stored
all_read [] all = tt
all_read (p ∷ stored) all = (all.0.reads, all_read stored all.1)

ran_read : (ran : Option PlainRan) → IfSome ran IsRan
    → IfSome ran (λ (r : PlainRan). AllByRecursion (λ (p : PlainStored). ReadsStored p.id p.text p) r.stored)
ran_read None is = tt
ran_read (Some ran) is = all_read ran.stored is.stored

pub jobs_are_restorable : JobsAreRestorable
jobs_are_restorable book job valid has =
    let is = job_at book.next book.jobs has.0 job has.1 has.2 valid.jobs in
    record { created = is.created; updated = is.updated; stored = ran_read job.ran is.ran }
