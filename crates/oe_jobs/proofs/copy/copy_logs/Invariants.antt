use Rattle.std.proofs.Common.{◌≡◌, take}
use Rattle.oe_jobs.proofs.copy.copy_logs.Given as goal

abbrev pub invariant-loop-entry : goal.invariant-loop-entry
invariant-loop-entry l = l.copy.items ≡ take l.entry-index l.entry-items
