use Rattle.std.proofs.Common.{◌≡◌, map, take}
use Rattle.oe_jobs.specs.Plain.{plain_owned}
use Rattle.oe_jobs.proofs.copy.copy_processes.Given as goal

abbrev pub invariant-loop-owned : goal.invariant-loop-owned
invariant-loop-owned l = map plain_owned l.copy.items ≡ map plain_owned (take l.owned-index l.owned-items)
