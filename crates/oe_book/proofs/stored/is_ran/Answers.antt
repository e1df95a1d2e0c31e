use Rattle.std.proofs.lemmas.Result.{IfOk-weaker}
use Rattle.oe_jobs.specs.Plain.{plain_ran}
use Rattle.oe_book.proofs.JobLemmas.{fails, few_of, never, ran_is, read_of, turned}
use Rattle.oe_book.proofs.stored.is_ran.Goals as goal

pub returns-then-not-has_few : goal.returns-then-not-has_few
returns-then-not-has_few c =
    let ran = plain_ran c.args.ran.now in
    never (λ is. fails _ _ c.if-not-has_few.true c.has_few.ensures (rw c.deref.ensures.value (few_of ran is)))

pub returns : goal.returns
returns c =
    let ran = plain_ran c.args.ran.now in
    let few = c.has_few.ensures.0 c.if-not-has_few.false in
    IfOk-weaker c.is_read.result _ _
    (λ told is. turned told (ran_is ran (rw c.deref.ensures.value at few)) (read_of ran) is) c.is_read.ensures
