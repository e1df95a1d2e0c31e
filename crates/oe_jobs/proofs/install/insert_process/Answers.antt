use Rattle.std.proofs.Common.{sym, ap, ◌∙◌}
use Rattle.oe_dims.specs.Indices.{index_where}
use Rattle.oe_jobs.specs.Changes.{is_behind}
use Rattle.oe_jobs.specs.Plain.{plain_owned}
use Rattle.oe_jobs.specs.declared.book.Owned.{Owned}
use Rattle.oe_jobs.proofs.ChangeLemmas.{insert_before, insert_none}
use Rattle.oe_jobs.proofs.install.insert_process.Goals as goal

pub returns-in-Some : goal.returns-in-Some
returns-in-Some c =
    let test = λ (o : Owned). is_behind (plain_owned c.args.owned) (plain_owned o) in
    let found = ap (index_where test) (sym c.deref.ensures.value) ∙ sym c.index_behind.ensures.index ∙ c.in-Some.is in
    rw c.insert_at.ensures (insert_before plain_owned (is_behind (plain_owned c.args.owned)) c.args.processes.now.items c.in-Some.index c.args.owned found)

pub returns-in-None : goal.returns-in-None
returns-in-None c =
    let test = λ (o : Owned). is_behind (plain_owned c.args.owned) (plain_owned o) in
    let none = ap (index_where test) (sym c.deref.ensures.value) ∙ sym c.index_behind.ensures.index ∙ c.in-None.is in
    rw c.push_reserved.ensures.items (insert_none plain_owned (is_behind (plain_owned c.args.owned)) c.args.processes.now.items c.args.owned none)
