use Rattle.std.proofs.Common.{◌↔◌, IsTrue, List, map, subst}
use Rattle.std.specs.List.{AllByRecursion}
use Rattle.oe_jobs.specs.Plain.{plain_book, plain_owned}
use Rattle.oe_jobs.specs.declared.book.Owned.{Owned}
use Rattle.oe_book.specs.Parts.{HasFewProcesses}
use Rattle.oe_book.proofs.CountLemmas.{few_processes}
use Rattle.oe_book.proofs.numbers.has_few_processes.Goals as goal

pub returns : goal.returns
returns c =
    let book = plain_book c.args.book.now in
    few_processes book c.each_has_few_processes.result
    (subst (λ (os : List Owned). IsTrue c.each_has_few_processes.result ↔ AllByRecursion (HasFewProcesses book) (map plain_owned os))
    c.deref.ensures.value c.each_has_few_processes.ensures)
