use Rattle.std.proofs.Common.{map}
use Rattle.oe_graph.specs.Plain.{plain_stored}
use Rattle.oe_calls.proofs.SizeLemmas.{round_within_budgets}
use Rattle.oe_calls.proofs.sizes.keep_limits_in_round.Goals as goal

pub returns : goal.returns
returns c =
    round_within_budgets (map plain_stored c.args.stored.now) c.args.graph.now _ _ _
    c.in_ok-round_nodes_left.ensures c.in_ok-round_nodes_left-2.ensures c.in_ok-round_nodes_left-3.ensures
