use Rattle.oe_database.proofs.InsideLemmas.{goes_both, stays_both}
use Rattle.oe_database.proofs.jobs.read_jobs.Goals as goal

pub returns-clause-stays : goal.returns-clause-stays
returns-clause-stays g c =
    stays_both g.S.Store _ _ _ _ c.query.ensures.stays c.in_ok-rows.ensures.shown c.read_each.ensures.stays

pub returns-in_err-jobs-clause-stays : goal.returns-in_err-jobs-clause-stays
returns-in_err-jobs-clause-stays g c =
    stays_both g.S.Store _ _ _ _ c.query.ensures.stays c.in_ok-rows.ensures.shown c.read_each.ensures.stays

pub returns-clause-jobs : goal.returns-clause-jobs
returns-clause-jobs g c clean within =
    let both = (goes_both g.S.Store _ _ _ _ _ (c.query.ensures.stays, c.in_ok-rows.ensures.shown)
    (c.read_each.ensures.stays, rw c.deref.ensures.value at c.in_ok-jobs.ensures.each)).1 clean within in
    (record { rows = c.in_ok-rows.rows.items; mid = c.query.new.tx.conn.now; shown = both.0.0; each = both.0.1 }, both.1)
