use Rattle.std.proofs.Common.{map}
use Rattle.std.specs.List.{AllByRecursion}
use Rattle.oe_jobs.specs.Plain.{plain_job}
use Rattle.oe_jobs.specs.Valid.{AreApart}
use Rattle.oe_book.proofs.LoopLemmas.{Left}
use Rattle.oe_book.proofs.pairs.is_apart_from.Given as goal

abbrev pub invariant-loop-other : goal.invariant-loop-other
invariant-loop-other l =
    Left (AreApart (plain_job l.job)) plain_job (AllByRecursion (AreApart (plain_job l.job)) (map plain_job l.others)) l.others l.other-index
