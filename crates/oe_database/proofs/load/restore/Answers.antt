use Rattle.std.proofs.Common.{◌≡◌, ℤ, map, of_z, rules, subst, to_z, w64}
use Rattle.oe_jobs.specs.Plain.{plain_job}
use Rattle.oe_database.proofs.InsideLemmas.{goes_both, stays_both}
use Rattle.oe_database.specs.Loads.{IsRenewed}
use Rattle.oe_database.proofs.load.restore.Goals as goal

pub returns-in_err-read-clause-stays : goal.returns-in_err-read-clause-stays
returns-in_err-read-clause-stays g c =
    stays_both g.S.Store _ _ _ _ c.make_tables.ensures.stays c.in_ok-make_tables.ensures.tables c.read_book.ensures.stays

pub returns-in_err-is_valid-clause-stays : goal.returns-in_err-is_valid-clause-stays
returns-in_err-is_valid-clause-stays g c =
    stays_both g.S.Store _ _ _ _ c.make_tables.ensures.stays c.in_ok-make_tables.ensures.tables c.read_book.ensures.stays

pub returns-then-not-is_valid-clause-stays : goal.returns-then-not-is_valid-clause-stays
returns-then-not-is_valid-clause-stays g c =
    stays_both g.S.Store _ _ _ _ c.make_tables.ensures.stays c.in_ok-make_tables.ensures.tables c.read_book.ensures.stays

pub returns-in_err-renew-clause-stays : goal.returns-in_err-renew-clause-stays
returns-in_err-renew-clause-stays g c =
    let two = goes_both g.S.Store _ _ _ _ _ (c.make_tables.ensures.stays, c.in_ok-make_tables.ensures.tables)
    (c.read_book.ensures.stays, c.in_ok-read.ensures.book) in
    stays_both g.S.Store _ _ _ _ two.0 two.1 c.renew.ensures.stays

pub returns-clause-stays : goal.returns-clause-stays
returns-clause-stays g c =
    let two = goes_both g.S.Store _ _ _ _ _ (c.make_tables.ensures.stays, c.in_ok-make_tables.ensures.tables)
    (c.read_book.ensures.stays, c.in_ok-read.ensures.book) in
    stays_both g.S.Store _ _ _ _ two.0 two.1 c.renew.ensures.stays

pub returns-clause-loads : goal.returns-clause-loads
returns-clause-loads g c clean within =
    let two = goes_both g.S.Store _ _ _ _ _ (c.make_tables.ensures.stays, c.in_ok-make_tables.ensures.tables)
    (c.read_book.ensures.stays, c.in_ok-read.ensures.book) in
    let three = goes_both g.S.Store _ _ _ _ _ two (c.renew.ensures.stays, rw c.deref.ensures.value at c.in_ok-renew.ensures.renewed) in
    let it = three.1 clean within in
    let version = c.in_ok-read.read.0 in
    let read = c.read_book.new.tx.conn.now in
    let new = c.renew.new.tx.conn.now in
    let same : to_z w64 (of_z w64 version) ≡ version = search rules in (
      record {
        version = version;
        ready = c.make_tables.new.tx.conn.now;
        read = read;
        tables = it.0.0.0;
        has_book = it.0.0.1;
        renewed = subst (λ (v : ℤ). IsRenewed g.S.Store v (map plain_job c.in_ok-read.read.1.jobs.items) read new) same it.0.1;
      },
      it.1,
    )
