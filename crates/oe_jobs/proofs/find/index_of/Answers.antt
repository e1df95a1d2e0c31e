use Rattle.std.proofs.Common.{sym, ap, ◌∙◌, arith}
use Rattle.std.proofs.lemmas.List.{get_or_read}
use Rattle.oe_dims.proofs.IndexLemmas.{index_where_found}
use Rattle.oe_jobs.specs.Plain.{plain_job}
use Rattle.oe_jobs.specs.Verdicts.{is_found}
use Rattle.oe_jobs.specs.declared.job.Job.{Job}
use Rattle.oe_jobs.proofs.ChangeLemmas.{index_none}
use Rattle.oe_jobs.proofs.find.index_of.Goals as goal

pub returns-then-is_job_of-clause-index : goal.returns-then-is_job_of-clause-index
returns-then-is_job_of-clause-index c =
    let found = c.index-jobs-index.result in
    let here = get_or_read c.args.jobs.now c.loop-index.index found (omega arith) c.index-jobs-index.is found in
    sym (index_where_found (λ (j : Job). is_found c.args.user.now c.args.id.now (plain_job j)) c.args.jobs.now c.loop-index.index found (omega arith)
    (λ k h. c.loop-index.invariant k found h) (ap (λ (j : Job). is_found c.args.user.now c.args.id.now (plain_job j)) (sym here) ∙ sym c.is_job_of.ensures ∙ c.if-is_job_of.true))

pub returns-clause-index : goal.returns-clause-index
returns-clause-index c =
    sym (index_none (λ (j : Job). is_found c.args.user.now c.args.id.now (plain_job j)) c.args.jobs.now (λ k d h. c.loop-index.invariant k d (omega arith)))
