use Rattle.std.proofs.Common.{◌∙◌, ◌&&◌, not, map, sym, ap}
use Rattle.oe_graph.specs.Parameters.{are_distinct}
use Rattle.oe_graph.specs.Plain.{plain_stored}
use Rattle.oe_jobs.specs.Valid.{stored_ids}
use Rattle.oe_book.proofs.PairLemmas.{any_id}
use Rattle.oe_book.proofs.pairs.have_distinct_ids.Goals as goal

pub loop-process-preserved : goal.loop-process-preserved
loop-process-preserved c =
    c.loop-process.invariant
    ∙ (ap (λ xs. are_distinct (stored_ids (map plain_stored xs))) c.in-Some.ensures.cases.0
    ∙ ap (λ b. not b && are_distinct (stored_ids (map plain_stored c.in-Some.others.now)))
    (any_id c.in-Some.process.now.id c.in-Some.others.now ∙ (sym c.has_id.ensures ∙ c.if-has_id.false)))

pub returns-then-has_id : goal.returns-then-has_id
returns-then-has_id c =
    sym (c.loop-process.invariant
    ∙ (ap (λ xs. are_distinct (stored_ids (map plain_stored xs))) c.in-Some.ensures.cases.0
    ∙ ap (λ b. not b && are_distinct (stored_ids (map plain_stored c.in-Some.others.now)))
    (any_id c.in-Some.process.now.id c.in-Some.others.now ∙ (sym c.has_id.ensures ∙ c.if-has_id.true))))
