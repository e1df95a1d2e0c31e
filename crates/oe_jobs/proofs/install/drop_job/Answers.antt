use Rattle.std.proofs.Common.{sym, ap, ◌∙◌}
use Rattle.oe_dims.specs.Indices.{index_where}
use Rattle.oe_jobs.specs.Changes.{is_job}
use Rattle.oe_jobs.specs.Plain.{plain_job}
use Rattle.oe_jobs.specs.Room.{has_id}
use Rattle.oe_jobs.proofs.ChangeLemmas.{remove_at, remove_none}
use Rattle.oe_jobs.proofs.install.drop_job.Goals as goal

pub returns-in-Some : goal.returns-in-Some
returns-in-Some c =
    let found = ap (index_where (has_id c.args.id.now)) (sym c.deref.ensures.value) ∙ sym c.index_of_job.ensures.index ∙ c.in-Some.is in
    rw c.remove.ensures.items (remove_at plain_job (is_job c.args.id.now) c.args.jobs.now.items c.in-Some.index found)

pub returns-in-None : goal.returns-in-None
returns-in-None c =
    let none = ap (index_where (has_id c.args.id.now)) (sym c.deref.ensures.value) ∙ sym c.index_of_job.ensures.index ∙ c.in-None.is in
    remove_none plain_job (is_job c.args.id.now) c.args.jobs.now.items none
