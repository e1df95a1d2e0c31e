use Rattle.std.proofs.Common.{sym, ap, ◌∙◌, arith}
use Rattle.std.proofs.lemmas.List.{get_or_read}
use Rattle.oe_dims.proofs.IndexLemmas.{index_where_found}
use Rattle.oe_jobs.specs.Changes.{is_behind}
use Rattle.oe_jobs.specs.Plain.{plain_owned}
use Rattle.oe_jobs.specs.declared.book.Owned.{Owned}
use Rattle.oe_jobs.proofs.ChangeLemmas.{index_none}
use Rattle.oe_jobs.proofs.find.index_behind.Goals as goal

pub returns-then-is_behind-clause-index : goal.returns-then-is_behind-clause-index
returns-then-is_behind-clause-index c =
    let found = c.index-processes-index.result in
    let here = get_or_read c.args.processes.now c.loop-index.index found (omega arith) c.index-processes-index.is found in
    sym (index_where_found (λ (o : Owned). is_behind (plain_owned c.args.new.now) (plain_owned o)) c.args.processes.now c.loop-index.index found (omega arith)
    (λ k h. c.loop-index.invariant k found h) (ap (λ (o : Owned). is_behind (plain_owned c.args.new.now) (plain_owned o)) (sym here) ∙ sym c.is_behind.ensures ∙ c.if-is_behind.true))

pub returns-clause-index : goal.returns-clause-index
returns-clause-index c = sym (index_none (λ (o : Owned). is_behind (plain_owned c.args.new.now) (plain_owned o)) c.args.processes.now (λ k d h. c.loop-index.invariant k d (omega arith)))
