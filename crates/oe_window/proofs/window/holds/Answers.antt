use Rattle.std.proofs.lemmas.Bool.{false≢true}
use Rattle.std.proofs.Common.{sym, ◌∙◌}
use Rattle.oe_window.proofs.WindowLemmas.{holds_is}
use Rattle.oe_window.proofs.WholeLemmas.{held_count}
use Rattle.oe_window.proofs.window.holds.Goals as goal

pub returns-clause-value : goal.returns-clause-value
returns-clause-value c =
    holds_is c.args.a.now c.args.b.now _ _ _ _ (λ e. false≢true (sym c.if-is_empty.false ∙ c.is_empty.ensures.1 e)) c.is_within.ensures c.is_within-2.ensures c.is_within-3.ensures c.is_within-4.ensures

pub returns-then-is_empty-clause-fewer : goal.returns-then-is_empty-clause-fewer
returns-then-is_empty-clause-fewer c = held_count c.args.a.now c.args.b.now

pub returns-clause-fewer : goal.returns-clause-fewer
returns-clause-fewer c = held_count c.args.a.now c.args.b.now
