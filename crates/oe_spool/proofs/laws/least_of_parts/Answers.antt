use Rattle.oe_spool.proofs.LeastLemmas.{least_of_one, least_of_lists, least_of_windows, least_of_chunks}
use Rattle.oe_spool.proofs.laws.least_of_parts.Goals as goal

pub returns-clause-none : goal.returns-clause-none
returns-clause-none c = λ cube p h. absurd h

pub returns-clause-one : goal.returns-clause-one
returns-clause-one c = least_of_one

pub returns-clause-both : goal.returns-clause-both
returns-clause-both c = least_of_lists

pub returns-clause-windows : goal.returns-clause-windows
returns-clause-windows c = least_of_windows

pub returns-clause-chunks : goal.returns-clause-chunks
returns-clause-chunks c = least_of_chunks
