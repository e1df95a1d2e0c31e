use Rattle.std.proofs.Common.{◌≡◌, drop}
use Rattle.serde_json.specs.View.{items_view}
use Rattle.oe_graph.specs.Parameters.{are_all_parameters}
use Rattle.oe_graph.proofs.stored.are_all_parameters.Given as goal

abbrev pub invariant-loop-item : goal.invariant-loop-item
invariant-loop-item l = are_all_parameters (items_view l.item-items) ≡ are_all_parameters (items_view (drop l.item-index l.item-items))
