use Rattle.std.proofs.Common.{◌≡◌, ◌∙◌, ap, arith, inl, inr, of_z, pos, refl, rules, sym, to_z, w64}
use Rattle.oe_database.proofs.InsideLemmas.{stays_both}
use Rattle.oe_database.proofs.tables.make_tables.Goals as goal

pub returns-in_ok-execute_batch-clause-stays : goal.returns-in_ok-execute_batch-clause-stays
returns-in_ok-execute_batch-clause-stays g c =
    stays_both g.S.Store _ _ _ _ c.count_of.ensures.stays c.in_ok-count_of.ensures.count
    (record { survives = c.execute_batch.ensures.survives; kept = λ clean within. c.execute_batch.ensures.kept clean })

pub returns-in_err-execute_batch-clause-stays : goal.returns-in_err-execute_batch-clause-stays
returns-in_err-execute_batch-clause-stays g c =
    stays_both g.S.Store _ _ _ _ c.count_of.ensures.stays c.in_ok-count_of.ensures.count
    (record { survives = c.execute_batch.ensures.survives; kept = λ clean within. c.execute_batch.ensures.kept clean })

pub returns-in_ok-execute_batch-clause-tables : goal.returns-in_ok-execute_batch-clause-tables
returns-in_ok-execute_batch-clause-tables g c clean within =
    let it = c.in_ok-count_of.ensures.count (omega (arith, c.execute_batch.ensures.survives.clean)) within in
    let count = c.in_ok-count_of.field-0 in
    let same : to_z w64 (of_z w64 count) ≡ count = search rules in
    let none : count ≡ pos 0 = sym same ∙ ap (to_z w64) c.if-branch-eq0.true in (
      record {
        count = c.in_ok-count_of.field-0;
        mid = c.count_of.new.tx.conn.now;
        counted = it.0;
        made = inl (none, c.in_ok-execute_batch.ensures.ran clean);
      },
      rw it.1 at c.in_ok-execute_batch.ensures.inside clean,
    )

pub returns-else-branch-eq0-clause-tables : goal.returns-else-branch-eq0-clause-tables
returns-else-branch-eq0-clause-tables g c clean within =
    let it = c.in_ok-count_of.ensures.count clean within in (
      record {
        count = c.in_ok-count_of.field-0;
        mid = c.count_of.new.tx.conn.now;
        counted = it.0;
        made = inr (λ none. c.if-branch-eq0.false (ap (of_z w64) none), refl);
      },
      it.1,
    )
