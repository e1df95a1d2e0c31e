use Rattle.std.proofs.Common.{◌∙◌}
use Rattle.oe_graph.specs.Plain.{plain_stored}
use Rattle.oe_book.proofs.JobLemmas.{not_read, read_back}
use Rattle.oe_book.proofs.stored.reads_back.Goals as goal

pub returns-in-Ok : goal.returns-in-Ok
returns-in-Ok c =
    read_back _ _ c.args.process.now.id c.args.process.now.text _ (plain_stored c.args.process.now) c.is_same_process.result
    c.as_str.ensures (c.as_bytes.ensures.value ∙ c.as_str-2.ensures) c.in-Ok.ensures.process c.is_same_process.ensures

pub returns-in-Err-Fault : goal.returns-in-Err-Fault
returns-in-Err-Fault c =
    not_read _ c.args.process.now.id c.args.process.now.text _ _ (c.as_bytes.ensures.value ∙ c.as_str-2.ensures) (rw c.in-Err-Fault.field-0-is at c.in-Err-Fault.ensures.refused)
