use Rattle.std.proofs.Common.{ap, sym, ◌∙◌}
use Rattle.oe_jobs.specs.Kept.{Kept}
use Rattle.oe_rows_messages.proofs.keepers.keep.Goals as goal

-- loading leaves the keeper's book
pub commit_stored-requires-clause-kept : goal.commit_stored-requires-clause-kept
commit_stored-requires-clause-kept c =
    c.in-Ok.ensures.book ∙ sym (ap (λ (k : Kept). k.book) c.in-Ok.ensures.same)
