use Rattle.std.proofs.Common.{◌≡◌, ℕ, ◌<◌, false, get_or}
use Rattle.oe_jobs.specs.Changes.{is_behind}
use Rattle.oe_jobs.specs.Plain.{plain_owned}
use Rattle.oe_jobs.specs.declared.book.Owned.{Owned}
use Rattle.oe_jobs.proofs.find.index_behind.Given as goal

abbrev pub invariant-loop-index : goal.invariant-loop-index
invariant-loop-index l =
    (k : ℕ) (d : Owned) → k < l.index → is_behind (plain_owned l.new) (plain_owned (get_or l.processes k d)) ≡ false
