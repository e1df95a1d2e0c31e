use Rattle.oe_jobs.specs.Plain.{plain_job}
use Rattle.oe_jobs.proofs.DueLemmas.{queued_comes}
use Rattle.oe_jobs.proofs.book.Book.next_queued.Goals as goal

pub returns-clause-comes : goal.returns-clause-comes
returns-clause-comes c = λ valid. queued_comes (λ j. plain_job j.now) c.next_queued.result _ c.next_queued.ensures.job valid
