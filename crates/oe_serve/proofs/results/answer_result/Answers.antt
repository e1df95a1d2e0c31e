use Rattle.std.proofs.Common.{ℕ, Err, ap, sym, subst}
use Rattle.oe_plan.specs.Ranges.{IsWithinRanges}
use Rattle.oe_window.specs.declared.grid.ChunkSize.{ChunkSize}
use Rattle.oe_serve.proofs.Acts.{acts_out_of_memory, acts_run, acts_too_large, begun_going}
use Rattle.oe_serve.proofs.results.answer_result.Goals as goal

pub begin-requires-clause-ranges : goal.begin-requires-clause-ranges
begin-requires-clause-ranges g c κs within =
    subst (λ (z : ChunkSize × ℕ). IsWithinRanges z.0 z.1) (sym c.sizes.ensures) c.requires.service.ranges

pub returns-in-Err-TooLarge : goal.returns-in-Err-TooLarge
returns-in-Err-TooLarge g c = λ kept faults has_failed is_kept.
    acts_too_large c.args.service.now _ _ _ kept faults _ _ has_failed c.answer_number.result c.args.checked c.requires.service
    c.requires.going is_kept c.sizes.result c.sizes.ensures c.in-Err-TooLarge.cells
    (c.in-Err-TooLarge.ensures.too_large c.in-Err-TooLarge.cells (ap Err c.in-Err-TooLarge.field-0-is)) c.answer_number.ensures

pub returns-in-Err-OutOfMemory : goal.returns-in-Err-OutOfMemory
returns-in-Err-OutOfMemory g c = λ kept faults has_failed is_kept.
    acts_out_of_memory c.args.service.now _ _ _ kept faults _ _ has_failed c.answer_out_of_memory.result c.args.checked
    c.requires.service c.requires.going is_kept c.answer_out_of_memory.ensures

pub answer_run-requires-clause-first : goal.answer_run-requires-clause-first
answer_run-requires-clause-first g c κs within = c.in-Ok.ensures.begun.first

pub answer_run-requires-clause-going : goal.answer_run-requires-clause-going
answer_run-requires-clause-going g c κs within =
    begun_going c.args.checked _ _ _ _ c.in-Ok.ensures.begun _ c.requires.runnable _

pub returns-in-Ok : goal.returns-in-Ok
returns-in-Ok g c = λ kept faults has_failed is_kept.
    acts_run c.args.checked c.sizes.result.0 c.sizes.result.1 c.records_end.result _ c.in-Ok.ensures.begun _
    c.requires.runnable _ c.args.service.now c.records_end.ensures.value _ _ c.answer_run.ensures.read
    c.answer_run.ensures.changes _ _ kept faults _ _ has_failed c.answer_run.result
    (ap (λ (z : ChunkSize × ℕ). z.0) c.sizes.ensures) (ap (λ (z : ChunkSize × ℕ). z.1) c.sizes.ensures) c.requires.service
    c.requires.going is_kept c.answer_run.ensures.count (c.answer_run.ensures.answers kept faults)
