use Rattle.oe_spool.proofs.KeptLemmas.{window_stays, windows_stay}
use Rattle.oe_spool.proofs.laws.records_stay.Goals as goal

pub returns-clause-window : goal.returns-clause-window
returns-clause-window c = window_stays

pub returns-clause-windows : goal.returns-clause-windows
returns-clause-windows c = windows_stay
