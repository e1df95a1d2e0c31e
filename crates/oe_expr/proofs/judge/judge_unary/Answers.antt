use Rattle.std.proofs.Common.{◌∷◌, [], Some, ap, subst, ◌∙◌}
use Rattle.oe_expr.specs.KindCounts.{AreKindsOf}
use Rattle.oe_expr.specs.Kinds.{are_mixed}
use Rattle.oe_expr.specs.Operations.{unary_takes}
use Rattle.oe_expr.specs.States.{kind_unless}
use Rattle.oe_expr.proofs.judge.judge_unary.Goals as goal

pub returns : goal.returns
returns c =
    let takes = unary_takes c.args.f in
    let first = subst (λ k. AreKindsOf (k ∷ []) c.of.result) c.unary_takes.ensures c.of.ensures in
    c.unless_mixed.ensures (takes ∷ c.args.x ∷ []) (c.with-taken.ensures (takes ∷ []) first)
    ∙ ap (λ k. kind_unless (are_mixed (takes ∷ c.args.x ∷ [])) (Some k)) c.unary_gives.ensures
