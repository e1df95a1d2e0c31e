use Rattle.std.proofs.Common.{false, is_err, sym, ◌∙◌}
use Rattle.oe_steps.proofs.Outcomes.{ok_holds}
use Rattle.oe_slab.proofs.records.write_chunk.Goals as goal

pub returns-then-is_err-clause-cause : goal.returns-then-is_err-clause-cause
returns-then-is_err-clause-cause g c = record {
  count = c.write_window.ensures.cause.count;
  failed = λ e. c.write_window.ensures.cause.failed (sym c.is_err.ensures.value ∙ c.if-is_err.true);
}

pub returns-clause-written : goal.returns-clause-written
returns-clause-written g c = record {
  valid = c.recall_numbers.ensures;
  records = ok_holds _ c.write_window.result (sym c.is_err.ensures.value ∙ c.if-is_err.false) c.write_window.ensures.written;
  least_is = c.least_over.ensures;
}
