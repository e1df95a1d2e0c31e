use Rattle.std.proofs.Common.{◌≡◌, refl, sym, subst, arith, rules}
use Rattle.sqlite.specs.Tree.{Trees}
use Rattle.sqlite.specs.State.{HasCleanDisk, Survives}
use Rattle.sqlite.specs.Held.{state}
use Rattle.sqlite.proofs.StateLemmas.{survives_then}
use Rattle.sqlite.proofs.Callers.{survives_begin}
use Rattle.oe_jobs.specs.Plain.{PlainBook, plain_book}
use Rattle.oe_database.specs.Each.{AreTreesMadeBy, IsMadeBy}
use Rattle.oe_database.specs.Loads.{Loads}
use Rattle.oe_database.proofs.load.load.Goals as goal

pub returns-clause-all : goal.returns-clause-all
returns-clause-all g c clean =
    let Ran = Loads g.S.Store (plain_book c.in_ok-book.book) in
    let old = c.args.conn.now in
    let last = c.restore.new.tx.conn.now in
    let begun = c.transaction-tx.ensures.begun in
    let end = c.commit.new.self.0 in
    let same : end ≡ c.conn-2-1.given.0 = search rules in
    let late : HasCleanDisk (state g.S.Store end) = search rules in
    let made = c.in_ok-book.ensures.loads (omega (arith, c.commit.ensures.survives.clean)) (rw begun) in
    let db : IsMadeBy g.S.Store Ran old (state g.S.Store last).now = record { last = last; ran = rw begun at made.0; is = refl } in
    subst (λ h. IsMadeBy g.S.Store Ran old (state g.S.Store h).committed) same
    (subst (IsMadeBy g.S.Store Ran old) (sym (c.in_ok-commit.ensures.ok late).1.committed_is) db)

pub returns-clause-crash : goal.returns-clause-crash
returns-clause-crash g c =
    let Ran = Loads g.S.Store (plain_book c.in_ok-book.book) in
    let old = c.args.conn.now in
    let last = c.restore.new.tx.conn.now in
    let begun = c.transaction-tx.ensures.begun in
    let end = c.commit.new.self.0 in
    let ran = λ (clean : HasCleanDisk (state g.S.Store last)).
    let made = c.in_ok-book.ensures.loads clean (rw begun) in
    let db : IsMadeBy g.S.Store Ran old (state g.S.Store last).now = record { last = last; ran = rw begun at made.0; is = refl } in db in
    let P = λ (trees : Trees). (b : PlainBook) × AreTreesMadeBy g.S.Store (Loads g.S.Store b) old trees in
    let whole = survives_then (state g.S.Store old) (state g.S.Store last) (state g.S.Store end) _ _ P (λ _ db none. absurd none)
    (λ clean db is. (plain_book c.in_ok-book.book, (_, ran (omega (arith, c.commit.ensures.survives.clean)), is)))
    (survives_begin g.S.Store old (state g.S.Store last) _ (rw begun at c.restore.ensures.stays.survives)) c.commit.ensures.survives in
    let same : end ≡ c.conn-2-1.given.0 = search rules in
    subst (λ h. Survives (state g.S.Store old) (state g.S.Store h) P) same whole

pub returns-in_err-commit-clause-crash : goal.returns-in_err-commit-clause-crash
returns-in_err-commit-clause-crash g c =
    let Ran = Loads g.S.Store (plain_book c.in_ok-book.book) in
    let old = c.args.conn.now in
    let last = c.restore.new.tx.conn.now in
    let begun = c.transaction-tx.ensures.begun in
    let end = c.commit.new.self.0 in
    let ran = λ (clean : HasCleanDisk (state g.S.Store last)).
    let made = c.in_ok-book.ensures.loads clean (rw begun) in
    let db : IsMadeBy g.S.Store Ran old (state g.S.Store last).now = record { last = last; ran = rw begun at made.0; is = refl } in db in
    let P = λ (trees : Trees). (b : PlainBook) × AreTreesMadeBy g.S.Store (Loads g.S.Store b) old trees in
    let whole = survives_then (state g.S.Store old) (state g.S.Store last) (state g.S.Store end) _ _ P (λ _ db none. absurd none)
    (λ clean db is. (plain_book c.in_ok-book.book, (_, ran (omega (arith, c.commit.ensures.survives.clean)), is)))
    (survives_begin g.S.Store old (state g.S.Store last) _ (rw begun at c.restore.ensures.stays.survives)) c.commit.ensures.survives in
    let same : end ≡ c.conn-2-1.given.0 = search rules in
    subst (λ h. Survives (state g.S.Store old) (state g.S.Store h) P) same whole
