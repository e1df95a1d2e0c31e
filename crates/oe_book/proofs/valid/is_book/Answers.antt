use Rattle.std.proofs.lemmas.Result.{IfOk-weaker}
use Rattle.oe_jobs.specs.Plain.{plain_book}
use Rattle.oe_book.proofs.JobLemmas.{book_is, fails, jobs_fit, never, processes_fit, records_of, turned}
use Rattle.oe_book.proofs.valid.is_book.Goals as goal

pub returns-then-not-is_apart : goal.returns-then-not-is_apart
returns-then-not-is_apart c =
    let book = plain_book c.args.book.now in
    never (λ is. fails _ _ c.if-not-is_apart.true c.is_apart.ensures (jobs_fit book is, processes_fit book is))

pub returns : goal.returns
returns c =
    let book = plain_book c.args.book.now in
    let apart = c.is_apart.ensures.0 c.if-not-is_apart.false in
    IfOk-weaker c.has_records.result _ _
    (λ told is. turned told (book_is book apart.0 apart.1) (records_of book) is) c.has_records.ensures
