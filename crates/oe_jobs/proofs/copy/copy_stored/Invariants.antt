use Rattle.std.proofs.Common.{◌≡◌, map, take}
use Rattle.oe_graph.specs.Plain.{plain_stored}
use Rattle.oe_jobs.proofs.copy.copy_stored.Given as goal

abbrev pub invariant-loop-process : goal.invariant-loop-process
invariant-loop-process l = map plain_stored l.copy.items ≡ map plain_stored (take l.process-index l.process-items)
