use Rattle.std.proofs.Common.{◌≡◌, ◌&&◌, drop}
use Rattle.serde_json.specs.View.{items_view}
use Rattle.oe_graph.specs.Parameters.{are_distinct, parameter_names}
use Rattle.oe_graph.proofs.NamesLemmas.{has_none}
use Rattle.oe_graph.proofs.stored.are_distinct.Given as goal

abbrev pub invariant-loop-item : goal.invariant-loop-item
invariant-loop-item l =
    are_distinct (parameter_names (items_view l.item-items))
    ≡ (has_none (λ k. k.now) l.names.keys (parameter_names (items_view (drop l.item-index l.item-items)))
    && are_distinct (parameter_names (items_view (drop l.item-index l.item-items))))
