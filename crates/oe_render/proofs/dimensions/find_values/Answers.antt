use Rattle.std.proofs.Common.{◌≡◌, ◌==◌, [], length, sym, ap, ◌∙◌, true≢false}
use Rattle.oe_render.proofs.Ahead.{no_values}
use Rattle.oe_render.proofs.dimensions.find_values.Goals as goal

pub returns-else-is_empty : goal.returns-else-is_empty
returns-else-is_empty c = λ e.
    let none : c.take-4.result.1.now ≡ [] = no_values c.take-4.result.1.now (rw (c.take-4.ensures.behind, c.take-3.ensures.behind, c.take-2.ensures.behind, c.take.ensures.behind) e) in
    true≢false (sym (c.is_empty.ensures ∙ ap (λ vs. length vs == 0) none) ∙ c.if-is_empty.false)
