use Rattle.std.proofs.Common.{◌≡◌, map, take}
use Rattle.serde_json.specs.View.{view}
use Rattle.oe_graph.specs.Plain.{plain_parameter}
use Rattle.oe_graph.specs.Parameters.{parameter_of}
use Rattle.oe_graph.proofs.stored.build_rows.Given as goal

abbrev pub invariant-loop-item : goal.invariant-loop-item
invariant-loop-item l = map plain_parameter l.rows.items ≡ map (λ v. parameter_of (view v)) (take l.item-index l.item-items)
