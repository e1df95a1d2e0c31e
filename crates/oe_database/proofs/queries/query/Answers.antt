use Rattle.oe_database.proofs.Asks.{shown_keep, refused_keeps}
use Rattle.oe_database.proofs.queries.query.Goals as goal

pub returns-clause-stays : goal.returns-clause-stays
returns-clause-stays g c = record {
  survives = c.query_all.ensures.survives;
  kept = λ clean inside. (shown_keep _ _ _ _ _ inside (c.in_ok-rows.ensures.ok clean)).0;
}

pub returns-clause-shown : goal.returns-clause-shown
returns-clause-shown g c clean inside =
    let shown = c.in_ok-rows.ensures.ok clean in (shown, (shown_keep _ _ _ _ _ inside shown).1)

pub returns-in_err-rows-clause-stays : goal.returns-in_err-rows-clause-stays
returns-in_err-rows-clause-stays g c = record {
  survives = c.query_all.ensures.survives;
  kept = λ clean inside. refused_keeps _ _ _ _ _ (c.in_err-rows.ensures.err clean);
}
