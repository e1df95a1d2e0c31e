use Rattle.std.proofs.Common.{map}
use Rattle.std.specs.List.{AllByRecursion}
use Rattle.oe_jobs.specs.Plain.{PlainOwned, plain_owned}
use Rattle.oe_jobs.specs.Valid.{IsStored}
use Rattle.oe_book.proofs.LoopLemmas.{Left}
use Rattle.oe_book.proofs.stored.are_owned_stored.Given as goal

abbrev pub invariant-loop-owned : goal.invariant-loop-owned
invariant-loop-owned l =
    Left (λ (o : PlainOwned). IsStored o.process) plain_owned (AllByRecursion (λ (o : PlainOwned). IsStored o.process) (map plain_owned l.processes)) l.processes l.owned-index
