use Rattle.std.proofs.Common.{List, map, subst}
use Rattle.oe_jobs.specs.Plain.{plain_job}
use Rattle.oe_jobs.specs.Valid.{AllApart}
use Rattle.oe_jobs.specs.declared.job.Job.{Job}
use Rattle.oe_book.proofs.JobLemmas.{both_told}
use Rattle.oe_book.proofs.valid.are_jobs_compared.Goals as goal

pub returns-then-are_all_apart : goal.returns-then-are_all_apart
returns-then-are_all_apart c =
    both_told c.has_few_jobs.result
    (subst (λ (js : List Job). AllApart (map plain_job js)) c.deref.ensures.value (c.are_all_apart.ensures.0 c.if-are_all_apart.true))
    c.has_few_jobs.ensures
