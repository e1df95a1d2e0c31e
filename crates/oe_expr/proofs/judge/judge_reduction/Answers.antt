use Rattle.std.proofs.Common.{◌∷◌, [], ap, ◌∙◌, subst}
use Rattle.oe_expr.specs.KindCounts.{AreKindsOf}
use Rattle.oe_expr.specs.Kinds.{are_mixed}
use Rattle.oe_expr.specs.NodeKinds.{items_kinds}
use Rattle.oe_expr.specs.Operations.{reducer_takes, reducer_gives}
use Rattle.oe_expr.specs.PlainRequests.{plain_items}
use Rattle.oe_expr.specs.Scope.{plain_scope}
use Rattle.oe_expr.specs.States.{kind_named, kind_unless}
use Rattle.oe_expr.proofs.judge.judge_reduction.Goals as goal

pub returns : goal.returns
returns c =
    let kinds = items_kinds (plain_scope c.args.scope.now) c.args.context.now (kind_named c.args.nodes.now c.args.states.now) (plain_items c.args.items.now) in
    let takes = reducer_takes c.args.reducer in
    let gives = reducer_gives c.args.reducer in
    let taken = c.with_items-taken.ensures (takes ∷ []) (subst (λ k. AreKindsOf (k ∷ []) c.of-taken.result) c.reducer_takes.ensures c.of-taken.ensures) in
    let given = c.with_items-given.ensures (gives ∷ []) (subst (λ k. AreKindsOf (k ∷ []) c.of-given.result) c.reducer_gives.ensures c.of-given.ensures) in
    c.unless_mixed.ensures (takes ∷ kinds) taken ∙ ap (kind_unless (are_mixed (takes ∷ kinds))) given.first
