use Rattle.std.proofs.Common.{◌≡◌, drop, map}
use Rattle.std.specs.Prelude.{find}
use Rattle.oe_jobs.specs.Changes.{is_owned}
use Rattle.oe_jobs.specs.Plain.{plain_owned}
use Rattle.oe_routes.proofs.named.named_process.Given as goal

abbrev pub invariant-loop-owned : goal.invariant-loop-owned
invariant-loop-owned l =
    find (is_owned l.user l.id) (map plain_owned l.owned-items)
    ≡ find (is_owned l.user l.id) (map plain_owned (drop l.owned-index l.owned-items))
