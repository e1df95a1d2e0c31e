use Rattle.oe_spool.proofs.KeptLemmas.{no_change, change_of_one, change_of_both}
use Rattle.oe_spool.proofs.laws.changes_add_up.Goals as goal

pub returns-clause-none : goal.returns-clause-none
returns-clause-none c = no_change

pub returns-clause-one : goal.returns-clause-one
returns-clause-one c = change_of_one

pub returns-clause-both : goal.returns-clause-both
returns-clause-both c = change_of_both
