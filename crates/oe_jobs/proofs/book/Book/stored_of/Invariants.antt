use Rattle.std.proofs.Common.{◌≡◌, map, take}
use Rattle.std.specs.Prelude.{filter}
use Rattle.oe_graph.specs.Plain.{plain_stored}
use Rattle.oe_jobs.specs.Plain.{PlainOwned, plain_owned}
use Rattle.oe_jobs.specs.Verdicts.{is_process_of}
use Rattle.oe_jobs.proofs.book.Book.stored_of.Given as goal

abbrev pub invariant-loop-owned : goal.invariant-loop-owned
invariant-loop-owned l =
    map plain_stored l.stored.items
    ≡ map (λ (owned : PlainOwned). owned.process) (filter (is_process_of l.user) (map plain_owned (take l.owned-index l.owned-items)))
