use Rattle.std.proofs.Common.{◌≡◌, ◌≢◌, List, [], ◌∷◌, length, None, refl, arith}
use Rattle.oe_graph.specs.Plain.{plain_nodes}
use Rattle.oe_graph.specs.declared.tree.Node.{Node}
use Rattle.oe_expr.specs.Folds as spec
use Rattle.oe_expr.proofs.fold.single_reducer.Goals as goal

-- of no node, or of several
none_single : (nodes : List Node) → length nodes ≢ 1 → None ≡ spec.single_reducer (plain_nodes nodes)
none_single [] h = refl
none_single (n ∷ []) h = absurd (h refl)
none_single (n ∷ m ∷ nodes) h = refl

pub returns-else-len-eq1 : goal.returns-else-len-eq1
returns-else-len-eq1 c = none_single c.args.nodes.now.items (λ e. c.if-len-eq1.false (omega (arith, c.len.ensures, c.args.nodes.now.ok, e)))
