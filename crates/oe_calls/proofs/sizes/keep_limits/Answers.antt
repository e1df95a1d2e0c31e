use Rattle.oe_calls.proofs.SizeLemmas.{within_budgets}
use Rattle.oe_calls.proofs.sizes.keep_limits.Goals as goal

pub returns : goal.returns
returns c =
    within_budgets c.args.graph.now _ _ _ c.in_ok-nodes_left.ensures c.in_ok-nodes_left-2.ensures c.in_ok-nodes_left-3.ensures
