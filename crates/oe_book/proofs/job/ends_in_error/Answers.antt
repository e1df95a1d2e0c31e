use Rattle.oe_book.proofs.JobLemmas.{last_told, never, none_last}
use Rattle.oe_book.proofs.job.ends_in_error.Goals as goal

pub returns-in-Some : goal.returns-in-Some
returns-in-Some c = last_told c.args.logs.now _ _ c.is_coded_error.result c.in-Some.ensures.cases.0 c.is_coded_error.ensures

pub returns-in-None : goal.returns-in-None
returns-in-None c = never (none_last c.args.logs.now c.in-None.ensures.cases)
