use Rattle.std.proofs.Common.{map, take}
use Rattle.oe_jobs.specs.Plain.{plain_job}
use Rattle.oe_database.specs.Loads.{AreEntries}
use Rattle.oe_database.specs.Statements.{puts_entry}
use Rattle.oe_database.proofs.tables.entries_of.Given as goal

abbrev pub invariant-loop-job : goal.invariant-loop-job
invariant-loop-job l = AreEntries (map plain_job (take l.job-index l.jobs)) (map (λ e. puts_entry e.0 e.1) l.entries.items)
