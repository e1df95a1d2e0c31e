use Rattle.oe_top.proofs.JoinedLemmas as law
use Rattle.oe_top.proofs.join.joined_is_run.Goals as goal

pub returns : goal.returns
returns c = law.joined_is_run
