use Rattle.oe_book.proofs.IdLemmas.{id_leaves_faults}
use Rattle.oe_book.proofs.laws.id_leaves_faults.Goals as goal

pub returns : goal.returns
returns c = id_leaves_faults
