use Rattle.std.proofs.Common.{◌↔◌, length, map}
use Rattle.oe_jobs.specs.Plain.{plain_owned}
use Rattle.oe_jobs.specs.Valid.{OwnedDiffer}
use Rattle.oe_book.proofs.pairs.all_differ.Given as goal

abbrev pub invariant-loop-owned : goal.invariant-loop-owned
invariant-loop-owned l = OwnedDiffer (map plain_owned l.processes) ↔ OwnedDiffer (map plain_owned l.rest)

abbrev pub decreases-loop-owned : goal.decreases-loop-owned
decreases-loop-owned l = length l.rest
