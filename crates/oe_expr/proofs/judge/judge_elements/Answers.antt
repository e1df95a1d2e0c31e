use Rattle.std.proofs.Common.{◌∷◌, [], None, ap, ◌∙◌}
use Rattle.oe_expr.specs.Kinds.{are_mixed}
use Rattle.oe_expr.specs.NodeKinds.{items_kinds}
use Rattle.oe_expr.specs.PlainRequests.{plain_items}
use Rattle.oe_expr.specs.Scope.{plain_scope}
use Rattle.oe_expr.specs.States.{kind_named, kind_unless}
use Rattle.oe_expr.proofs.judge.judge_elements.Goals as goal

pub returns : goal.returns
returns c =
    let kinds = items_kinds (plain_scope c.args.scope.now) c.args.context.now (kind_named c.args.nodes.now c.args.states.now) (plain_items c.args.items.now) in
    let all = c.with_items-kinds.ensures (None ∷ []) c.of.ensures in
    c.unless_mixed.ensures (None ∷ kinds) all ∙ ap (kind_unless (are_mixed kinds)) all.first
