use Rattle.std.proofs.Common.{map}
use Rattle.std.specs.List.{AllByRecursion}
use Rattle.oe_jobs.specs.Plain.{plain_book, plain_owned}
use Rattle.oe_book.specs.Parts.{HasFewProcesses}
use Rattle.oe_book.proofs.LoopLemmas.{Left}
use Rattle.oe_book.proofs.numbers.each_has_few_processes.Given as goal

abbrev pub invariant-loop-owned : goal.invariant-loop-owned
invariant-loop-owned l =
    Left (HasFewProcesses (plain_book l.book)) plain_owned (AllByRecursion (HasFewProcesses (plain_book l.book)) (map plain_owned l.processes)) l.processes l.owned-index
