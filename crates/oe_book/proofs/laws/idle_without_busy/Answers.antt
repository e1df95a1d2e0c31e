use Rattle.oe_book.proofs.IdleLemmas.{idle_without_busy}
use Rattle.oe_book.proofs.laws.idle_without_busy.Goals as goal

pub returns : goal.returns
returns c = idle_without_busy
