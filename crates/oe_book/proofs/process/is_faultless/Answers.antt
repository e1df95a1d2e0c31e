use Rattle.std.proofs.Common.{sym, true≢false}
use Rattle.serde_json.specs.View.{view}
use Rattle.oe_book.proofs.ProcessLemmas.{fault_stands}
use Rattle.oe_book.proofs.process.is_faultless.Goals as goal

pub returns-in-Err-Fault : goal.returns-in-Err-Fault
returns-in-Err-Fault c = (
  λ t. absurd (true≢false (sym t)),
  λ faultless. absurd (fault_stands (view c.args.value.now) _ (rw c.in-Err-Fault.field-0-is at c.in-Err-Fault.ensures.refused) faultless),
)
