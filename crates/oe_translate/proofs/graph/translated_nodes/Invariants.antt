use Rattle.std.proofs.Common.{◌≡◌, ◌≤◌, drop}
use Rattle.oe_graph.specs.Plain.{plain_nodes}
use Rattle.oe_graph.specs.Printed.{node_count}
use Rattle.oe_graph.specs.References.{each_node}
use Rattle.oe_translate.specs.Translated.{translations}
use Rattle.oe_translate.proofs.graph.translated_nodes.Given as goal

abbrev pub invariant-loop-index : goal.invariant-loop-index
invariant-loop-index l = record {
  within : l.index ≤ node_count l.checked.nodes;
  done : plain_nodes l.found.items ≡ translations l.checked.rows l.checked.nodes (drop l.index (each_node l.checked.nodes));
}

abbrev pub decreases-loop-index : goal.decreases-loop-index
decreases-loop-index l = l.index
