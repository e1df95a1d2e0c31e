use Rattle.std.proofs.lemmas.Result.{IfOk-weaker}
use Rattle.oe_jobs.specs.Plain.{plain_job}
use Rattle.oe_book.proofs.JobLemmas.{fails, job_is, never, processes_of, state_of, turned}
use Rattle.oe_book.proofs.job.is_job.Goals as goal

pub returns-then-not-has_state : goal.returns-then-not-has_state
returns-then-not-has_state c =
    let job = plain_job c.args.job.now in
    never (λ is. fails _ _ c.if-not-has_state.true c.has_state.ensures (state_of c.args.next job is))

pub returns : goal.returns
returns c =
    let job = plain_job c.args.job.now in
    let state = c.has_state.ensures.0 c.if-not-has_state.false in
    IfOk-weaker c.has_processes.result _ _
    (λ told is. turned told (job_is c.args.next job state) (processes_of c.args.next job) is) c.has_processes.ensures
