use Rattle.std.proofs.Common.{◌≡◌, length, map}
use Rattle.oe_graph.specs.Parameters.{are_distinct}
use Rattle.oe_graph.specs.Plain.{plain_stored}
use Rattle.oe_jobs.specs.Valid.{stored_ids}
use Rattle.oe_book.proofs.pairs.have_distinct_ids.Given as goal

abbrev pub invariant-loop-process : goal.invariant-loop-process
invariant-loop-process l =
    are_distinct (stored_ids (map plain_stored l.stored)) ≡ are_distinct (stored_ids (map plain_stored l.rest))

abbrev pub decreases-loop-process : goal.decreases-loop-process
decreases-loop-process l = length l.rest
