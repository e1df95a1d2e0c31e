use Rattle.oe_book.proofs.RunningLemmas.{running_stays}
use Rattle.oe_book.proofs.laws.keeps_running.Goals as goal

pub returns : goal.returns
returns c = running_stays
