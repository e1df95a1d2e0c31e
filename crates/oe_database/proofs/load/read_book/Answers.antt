use Rattle.std.proofs.Common.{◌≡◌, ◌∙◌, ℤ, ap, of_z, pos, rules, subst, sym, to_z, w64}
use Rattle.oe_database.proofs.InsideLemmas.{goes_both, stays_both}
use Rattle.oe_database.specs.Loads.{Counts, HasHead, orphans_query}
use Rattle.oe_database.proofs.load.read_book.Goals as goal

pub returns-in_err-jobs-clause-stays : goal.returns-in_err-jobs-clause-stays
returns-in_err-jobs-clause-stays g c =
    stays_both g.S.Store _ _ _ _ c.read_head.ensures.stays c.in_ok-head.ensures.head c.read_jobs.ensures.stays

pub returns-in_err-count_of-clause-stays : goal.returns-in_err-count_of-clause-stays
returns-in_err-count_of-clause-stays g c =
    let two = goes_both g.S.Store _ _ _ _ _ (c.read_head.ensures.stays, c.in_ok-head.ensures.head)
    (c.read_jobs.ensures.stays, c.in_ok-jobs.ensures.jobs) in
    stays_both g.S.Store _ _ _ _ two.0 two.1 c.count_of.ensures.stays

pub returns-then-branch-ne0-clause-stays : goal.returns-then-branch-ne0-clause-stays
returns-then-branch-ne0-clause-stays g c =
    let two = goes_both g.S.Store _ _ _ _ _ (c.read_head.ensures.stays, c.in_ok-head.ensures.head)
    (c.read_jobs.ensures.stays, c.in_ok-jobs.ensures.jobs) in
    stays_both g.S.Store _ _ _ _ two.0 two.1 c.count_of.ensures.stays

pub returns-in_err-processes-clause-stays : goal.returns-in_err-processes-clause-stays
returns-in_err-processes-clause-stays g c =
    let two = goes_both g.S.Store _ _ _ _ _ (c.read_head.ensures.stays, c.in_ok-head.ensures.head)
    (c.read_jobs.ensures.stays, c.in_ok-jobs.ensures.jobs) in
    let three = goes_both g.S.Store _ _ _ _ _ two (c.count_of.ensures.stays, c.in_ok-count_of.ensures.count) in
    stays_both g.S.Store _ _ _ _ three.0 three.1 c.read_processes.ensures.stays

pub returns-clause-stays : goal.returns-clause-stays
returns-clause-stays g c =
    let two = goes_both g.S.Store _ _ _ _ _ (c.read_head.ensures.stays, c.in_ok-head.ensures.head)
    (c.read_jobs.ensures.stays, c.in_ok-jobs.ensures.jobs) in
    let three = goes_both g.S.Store _ _ _ _ _ two (c.count_of.ensures.stays, c.in_ok-count_of.ensures.count) in
    stays_both g.S.Store _ _ _ _ three.0 three.1 c.read_processes.ensures.stays

pub returns-clause-book : goal.returns-clause-book
returns-clause-book g c clean within =
    let two = goes_both g.S.Store _ _ _ _ _ (c.read_head.ensures.stays, c.in_ok-head.ensures.head)
    (c.read_jobs.ensures.stays, c.in_ok-jobs.ensures.jobs) in
    let three = goes_both g.S.Store _ _ _ _ _ two (c.count_of.ensures.stays, c.in_ok-count_of.ensures.count) in
    let four = goes_both g.S.Store _ _ _ _ _ three (c.read_processes.ensures.stays, c.in_ok-processes.ensures.processes) in
    let it = four.1 clean within in
    let version = c.in_ok-head.head.0 in
    let count = c.in_ok-count_of.field-0 in
    let first = c.args.tx.now.conn.now in
    let headed = c.read_head.new.tx.conn.now in
    let listed = c.read_jobs.new.tx.conn.now in
    let counted = c.count_of.new.tx.conn.now in
    let same : to_z w64 (of_z w64 version) ≡ version = search rules in
    let same_count : to_z w64 (of_z w64 count) ≡ count = search rules in
    let none : count ≡ pos 0 = sym same_count ∙ ap (to_z w64) c.if-branch-ne0.false in (
      record {
        headed = headed;
        listed = listed;
        counted = counted;
        head = subst (λ (v : ℤ). HasHead g.S.Store v c.in_ok-head.head.1 first headed) (sym same) it.0.0.0.0;
        jobs = it.0.0.0.1;
        orphans = subst (λ (n : ℤ). Counts g.S.Store orphans_query n listed counted) none it.0.0.1;
        processes = it.0.1;
      },
      it.1,
    )
