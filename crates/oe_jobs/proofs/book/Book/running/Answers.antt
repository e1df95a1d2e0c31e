use Rattle.oe_jobs.specs.Plain.{plain_job}
use Rattle.oe_jobs.proofs.DueLemmas.{running_comes}
use Rattle.oe_jobs.proofs.book.Book.running.Goals as goal

pub returns-clause-comes : goal.returns-clause-comes
returns-clause-comes c = λ valid. running_comes (λ j. plain_job j.now) c.running_job.result _ c.running_job.ensures.job valid
