use Rattle.std.proofs.Common.{List, map, subst}
use Rattle.oe_jobs.specs.Plain.{plain_owned}
use Rattle.oe_jobs.specs.Valid.{OwnedDiffer}
use Rattle.oe_jobs.specs.declared.book.Owned.{Owned}
use Rattle.oe_book.proofs.JobLemmas.{both_told}
use Rattle.oe_book.proofs.valid.are_processes_apart.Goals as goal

pub returns-then-all_differ : goal.returns-then-all_differ
returns-then-all_differ c =
    both_told c.has_few_processes.result
    (subst (λ (os : List Owned). OwnedDiffer (map plain_owned os)) c.deref.ensures.value (c.all_differ.ensures.0 c.if-all_differ.true))
    c.has_few_processes.ensures
