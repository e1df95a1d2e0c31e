use Rattle.std.proofs.Common.{sym, ap, ◌∙◌}
use Rattle.oe_dims.specs.Indices.{index_where}
use Rattle.oe_jobs.specs.Changes.{is_owned}
use Rattle.oe_jobs.specs.Plain.{plain_owned}
use Rattle.oe_jobs.specs.declared.book.Owned.{Owned}
use Rattle.oe_jobs.proofs.ChangeLemmas.{remove_at, remove_none}
use Rattle.oe_jobs.proofs.install.drop_process.Goals as goal

pub returns-in-Some : goal.returns-in-Some
returns-in-Some c =
    let found = ap (index_where (λ (o : Owned). is_owned c.args.user.now c.args.id.now (plain_owned o))) (sym c.deref.ensures.value) ∙ sym c.index_of_process.ensures.index ∙ c.in-Some.is in
    rw c.remove.ensures.items (remove_at plain_owned (is_owned c.args.user.now c.args.id.now) c.args.processes.now.items c.in-Some.index found)

pub returns-in-None : goal.returns-in-None
returns-in-None c =
    let none = ap (index_where (λ (o : Owned). is_owned c.args.user.now c.args.id.now (plain_owned o))) (sym c.deref.ensures.value) ∙ sym c.index_of_process.ensures.index ∙ c.in-None.is in
    remove_none plain_owned (is_owned c.args.user.now c.args.id.now) c.args.processes.now.items none
