use Rattle.std.proofs.Common.{map}
use Rattle.std.specs.List.{AllByRecursion}
use Rattle.oe_graph.specs.Plain.{plain_stored}
use Rattle.oe_jobs.specs.Valid.{IsStored}
use Rattle.oe_book.proofs.LoopLemmas.{Left}
use Rattle.oe_book.proofs.stored.are_stored.Given as goal

abbrev pub invariant-loop-process : goal.invariant-loop-process
invariant-loop-process l =
    Left IsStored plain_stored (AllByRecursion IsStored (map plain_stored l.stored)) l.stored l.process-index
