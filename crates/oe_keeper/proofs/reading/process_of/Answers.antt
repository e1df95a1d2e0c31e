use Rattle.oe_keeper.proofs.FindLemmas.{stored_refused}
use Rattle.oe_keeper.proofs.reading.process_of.Goals as goal

pub returns-in-Err-Fault : goal.returns-in-Err-Fault
returns-in-Err-Fault c = λ process is.
    stored_refused c.args.id.now c.args.text.now c.as_bytes.result.now _ process c.as_bytes.ensures.value (rw c.in-Err-Fault.field-0-is at c.in-Err-Fault.ensures.refused) is
