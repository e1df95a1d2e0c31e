use Rattle.oe_database.proofs.Asks.{shown_keep, refused_keeps}
use Rattle.oe_database.proofs.held.held_job.Goals as goal

pub returns-clause-held : goal.returns-clause-held
returns-clause-held g c clean inside =
    let shown = c.in_ok-rows.ensures.ok clean in (
      record { rows = c.in_ok-rows.rows.items; shown = shown; entry = rw c.deref.ensures.value at c.in_ok-job.ensures },
      (shown_keep _ _ _ _ _ inside shown).1,
    )

pub returns-clause-kept : goal.returns-clause-kept
returns-clause-kept g c clean inside = (shown_keep _ _ _ _ _ inside (c.in_ok-rows.ensures.ok clean)).0

pub returns-in_err-job-clause-kept : goal.returns-in_err-job-clause-kept
returns-in_err-job-clause-kept g c clean inside = (shown_keep _ _ _ _ _ inside (c.in_ok-rows.ensures.ok clean)).0

pub returns-in_err-rows-clause-kept : goal.returns-in_err-rows-clause-kept
returns-in_err-rows-clause-kept g c clean inside = refused_keeps _ _ _ _ _ (c.in_err-rows.ensures.err clean)
