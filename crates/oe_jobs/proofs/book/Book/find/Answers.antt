use Rattle.std.proofs.Common.{ap, ◌∙◌}
use Rattle.oe_dims.specs.Indices.{index_where}
use Rattle.oe_jobs.specs.Plain.{plain_job}
use Rattle.oe_jobs.specs.Verdicts.{is_found}
use Rattle.oe_jobs.specs.declared.job.Job.{Job}
use Rattle.oe_jobs.proofs.ChangeLemmas.{found_at}
use Rattle.oe_jobs.proofs.book.Book.find.Goals as goal

pub returns-clause-job : goal.returns-clause-job
returns-clause-job c =
    let test = λ (j : Job). is_found c.args.user.now c.args.id.now (plain_job j) in
    found_at plain_job (is_found c.args.user.now c.args.id.now) c.args.self.now.jobs.items c.index_of.result
    (c.index_of.ensures.index ∙ ap (index_where test) c.deref.ensures.value)
