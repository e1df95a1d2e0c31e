use Rattle.std.proofs.lemmas.Bool.{false≢true}
use Rattle.std.proofs.Common.{sym, ◌∙◌}
use Rattle.oe_window.proofs.WindowLemmas.{least_hull}
use Rattle.oe_window.proofs.window.hull.Goals as goal

pub returns-clause-least : goal.returns-clause-least
returns-clause-least c window =
    least_hull c.args.a.now c.args.b.now _ window (λ e. false≢true (sym c.if-is_empty.false ∙ c.is_empty.ensures.1 e)) (λ e. false≢true (sym c.if-is_empty-2.false ∙ c.is_empty-2.ensures.1 e)) (record { from = c.span_hull.ensures.first; to = c.span_hull.ensures.end }) (record { from = c.span_hull-2.ensures.first; to = c.span_hull-2.ensures.end }) (record { from = c.span_hull-3.ensures.first; to = c.span_hull-3.ensures.end }) (record { from = c.span_hull-4.ensures.first; to = c.span_hull-4.ensures.end })
