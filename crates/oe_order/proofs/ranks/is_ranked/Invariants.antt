use Rattle.std.proofs.Common.{◌≡◌, length}
use Rattle.oe_order.specs.Graph.{graph_of}
use Rattle.oe_order.proofs.RankLemmas.{AllRanked}
use Rattle.oe_order.proofs.ranks.is_ranked.Given as goal

abbrev pub invariant-loop-node : goal.invariant-loop-node
invariant-loop-node l = (length l.ranks ≡ length l.nodes) × AllRanked (graph_of l.nodes) l.ranks l.node
