use Rattle.std.proofs.Common.{sym, ◌∙◌, arith}
use Rattle.oe_dims.proofs.IndexLemmas.{index_where_found}
use Rattle.oe_jobs.specs.Room.{has_id}
use Rattle.oe_jobs.proofs.ChangeLemmas.{index_none}
use Rattle.oe_jobs.proofs.find.index_of_job.Goals as goal

pub returns-then-same_name-clause-index : goal.returns-then-same_name-clause-index
returns-then-same_name-clause-index c =
    let found = c.index-jobs-index.result in
    sym (index_where_found (has_id c.args.id.now) c.args.jobs.now c.loop-index.index found (omega arith)
    (λ k h. c.loop-index.invariant k found h) (sym c.same_name.ensures ∙ c.if-same_name.true))

pub returns-clause-index : goal.returns-clause-index
returns-clause-index c = sym (index_none (has_id c.args.id.now) c.args.jobs.now (λ k d h. c.loop-index.invariant k d (omega arith)))
