use Rattle.std.proofs.Common.{◌≡◌, drop, map}
use Rattle.std.specs.Prelude.{not, ◌&&◌, nat_lt}
use Rattle.std.specs.List.{list_all}
use Rattle.oe_jobs.specs.Machine.{is_queued}
use Rattle.oe_jobs.specs.Plain.{PlainJob, plain_job}
use Rattle.oe_jobs.proofs.find.is_first.Given as goal

abbrev pub invariant-loop-other : goal.invariant-loop-other
invariant-loop-other l =
    list_all (λ (other : PlainJob). not (is_queued other.status && nat_lt other.turn l.job.turn)) (map plain_job l.other-items)
    ≡ list_all (λ (other : PlainJob). not (is_queued other.status && nat_lt other.turn l.job.turn))
    (map plain_job (drop l.other-index l.other-items))
