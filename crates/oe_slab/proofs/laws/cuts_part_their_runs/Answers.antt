use Rattle.oe_slab.proofs.LawLemmas.{cuts_part}
use Rattle.oe_slab.proofs.laws.cuts_part_their_runs.Goals as goal

pub returns-clause-parted : goal.returns-clause-parted
returns-clause-parted c = cuts_part
