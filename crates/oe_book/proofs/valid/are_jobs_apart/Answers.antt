use Rattle.oe_book.proofs.JobLemmas.{both_told}
use Rattle.oe_book.proofs.valid.are_jobs_apart.Goals as goal

pub returns-then-has_numbers : goal.returns-then-has_numbers
returns-then-has_numbers c =
    both_told c.are_jobs_compared.result (c.has_numbers.ensures.0 c.if-has_numbers.true) c.are_jobs_compared.ensures
