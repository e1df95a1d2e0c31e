use Rattle.std.proofs.Common.{sym, ap, ◌∙◌}
use Rattle.oe_dims.specs.Indices.{index_where}
use Rattle.oe_jobs.specs.Changes.{is_owned}
use Rattle.oe_jobs.specs.Plain.{plain_owned}
use Rattle.oe_jobs.specs.declared.book.Owned.{Owned}
use Rattle.oe_jobs.proofs.ChangeLemmas.{any_at, any_none, replace_at}
use Rattle.oe_jobs.proofs.install.put_process.Goals as goal

pub returns-in-Some : goal.returns-in-Some
returns-in-Some c =
    let test = is_owned c.args.owned.user c.args.owned.process.id in
    let items = c.args.processes.now.items in
    let found = ap (index_where (λ (o : Owned). test (plain_owned o))) (sym c.deref.ensures.value) ∙ sym c.index_of_process.ensures.index ∙ c.in-Some.is in
    rw (any_at plain_owned test items c.in-Some.index found) (replace_at plain_owned test items c.in-Some.index c.args.owned found)

pub returns-in-None : goal.returns-in-None
returns-in-None c =
    let test = is_owned c.args.owned.user c.args.owned.process.id in
    let items = c.args.processes.now.items in
    let none = ap (index_where (λ (o : Owned). test (plain_owned o))) (sym c.deref.ensures.value) ∙ sym c.index_of_process.ensures.index ∙ c.in-None.is in
    rw (any_none plain_owned test items none) c.insert_process.ensures
