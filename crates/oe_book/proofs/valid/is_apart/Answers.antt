use Rattle.oe_book.proofs.JobLemmas.{both_told}
use Rattle.oe_book.proofs.valid.is_apart.Goals as goal

pub returns-then-are_jobs_apart : goal.returns-then-are_jobs_apart
returns-then-are_jobs_apart c =
    both_told c.are_processes_apart.result (c.are_jobs_apart.ensures.0 c.if-are_jobs_apart.true) c.are_processes_apart.ensures
