use Rattle.std.proofs.Common.{◌≡◌, ℕ, ◌<◌, false, get_or}
use Rattle.oe_jobs.specs.Changes.{is_owned}
use Rattle.oe_jobs.specs.Plain.{plain_owned}
use Rattle.oe_jobs.specs.declared.book.Owned.{Owned}
use Rattle.oe_jobs.proofs.find.index_of_process.Given as goal

abbrev pub invariant-loop-index : goal.invariant-loop-index
invariant-loop-index l =
    (k : ℕ) (d : Owned) → k < l.index → is_owned l.user l.id (plain_owned (get_or l.processes k d)) ≡ false
