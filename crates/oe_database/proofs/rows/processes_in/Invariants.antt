use Rattle.std.proofs.Common.{map, take}
use Rattle.oe_jobs.specs.Plain.{plain_owned}
use Rattle.oe_database.specs.Loads.{AreEach, IsProcessRow}
use Rattle.oe_database.proofs.rows.processes_in.Given as goal

abbrev pub invariant-loop-row : goal.invariant-loop-row
invariant-loop-row l = AreEach IsProcessRow 0 (take l.row-index l.rows) (map plain_owned l.processes.items)
