use Rattle.std.proofs.Common.{◌≡◌, map, take}
use Rattle.oe_routes.specs.Answers.{estimate_graph, graph_of_text}
use Rattle.oe_routes.specs.Scenes.{plain_scene}
use Rattle.oe_routes.proofs.estimate.asset_graphs.Given as goal

abbrev pub invariant-loop-index : goal.invariant-loop-index
invariant-loop-index l =
    l.graphs.items ≡ map (estimate_graph (plain_scene l.scene) l.user (graph_of_text l.process)) (take l.index l.nodes)
