use Rattle.std.proofs.Common.{◌↔◌, IsTrue, List, map, subst}
use Rattle.std.specs.List.{AllByRecursion}
use Rattle.oe_jobs.specs.Plain.{plain_book, plain_job}
use Rattle.oe_jobs.specs.declared.job.Job.{Job}
use Rattle.oe_book.specs.Parts.{HasFewJobs}
use Rattle.oe_book.proofs.CountLemmas.{few_jobs}
use Rattle.oe_book.proofs.numbers.has_few_jobs.Goals as goal

pub returns : goal.returns
returns c =
    let book = plain_book c.args.book.now in
    few_jobs book c.each_has_few_jobs.result
    (subst (λ (js : List Job). IsTrue c.each_has_few_jobs.result ↔ AllByRecursion (HasFewJobs book) (map plain_job js))
    c.deref.ensures.value c.each_has_few_jobs.ensures)
