use Rattle.std.proofs.Common.{◌∷◌, [], Some, ap, subst, ◌∙◌}
use Rattle.oe_expr.specs.KindCounts.{AreKindsOf}
use Rattle.oe_expr.specs.Kinds.{are_mixed}
use Rattle.oe_expr.specs.Operations.{binary_takes}
use Rattle.oe_expr.specs.States.{kind_unless}
use Rattle.oe_expr.proofs.judge.judge_binary.Goals as goal

pub returns : goal.returns
returns c =
    let takes = binary_takes c.args.f in
    let first = subst (λ k. AreKindsOf (k ∷ []) c.of.result) c.binary_takes.ensures c.of.ensures in
    let second = c.with.ensures (takes ∷ []) first in
    c.unless_mixed.ensures (takes ∷ c.args.x ∷ c.args.y ∷ []) (c.with-taken.ensures (takes ∷ c.args.x ∷ []) second)
    ∙ ap (λ k. kind_unless (are_mixed (takes ∷ c.args.x ∷ c.args.y ∷ [])) (Some k)) c.binary_gives.ensures
