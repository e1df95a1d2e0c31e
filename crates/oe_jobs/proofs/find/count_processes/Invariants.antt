use Rattle.std.proofs.Common.{◌≡◌, ◌≤◌, map, take}
use Rattle.std.specs.Prelude.{count_by}
use Rattle.oe_jobs.specs.Plain.{plain_owned}
use Rattle.oe_jobs.specs.Verdicts.{is_process_of}
use Rattle.oe_jobs.proofs.find.count_processes.Given as goal

abbrev pub invariant-loop-owned : goal.invariant-loop-owned
invariant-loop-owned l =
    (l.count ≡ count_by (is_process_of l.user) (map plain_owned (take l.owned-index l.owned-items)))
    × (l.count ≤ l.owned-index)
