use Rattle.std.proofs.Common.{sym, ap, ◌∙◌}
use Rattle.oe_dims.specs.Indices.{index_where}
use Rattle.oe_jobs.specs.Changes.{is_job}
use Rattle.oe_jobs.specs.Plain.{plain_job}
use Rattle.oe_jobs.specs.Room.{has_id}
use Rattle.oe_jobs.proofs.ChangeLemmas.{put_at, put_none}
use Rattle.oe_jobs.proofs.install.put_job.Goals as goal

pub returns-in-Some : goal.returns-in-Some
returns-in-Some c =
    let found = ap (index_where (has_id c.args.job.id)) (sym c.deref.ensures.value) ∙ sym c.index_of_job.ensures.index ∙ c.in-Some.is in
    put_at plain_job (is_job c.args.job.id) c.args.jobs.now.items c.in-Some.index c.args.job found

pub returns-in-None : goal.returns-in-None
returns-in-None c =
    let none = ap (index_where (has_id c.args.job.id)) (sym c.deref.ensures.value) ∙ sym c.index_of_job.ensures.index ∙ c.in-None.is in
    rw c.push_reserved.ensures.items (put_none plain_job (is_job c.args.job.id) c.args.jobs.now.items c.args.job none)
