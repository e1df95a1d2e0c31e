use Rattle.std.proofs.Common.{sym, subst}
use Rattle.std.specs.Prelude.{All}
use Rattle.oe_dims.specs.Instant.{IsInstant}
use Rattle.oe_graph.specs.Plain.{plain_node}
use Rattle.oe_translate.specs.Written.{IsWritable}
use Rattle.oe_translate.proofs.IntervalLemmas.{periods_at_writable}
use Rattle.oe_translate.proofs.rewrite.periods_node.Goals as goal

pub aggregated_node-requires : goal.aggregated_node-requires
aggregated_node-requires c =
    let graph = c.args.checked.now in
    subst (All IsWritable) (sym c.periods_at-intervals.ensures.value)
    (periods_at_writable graph.rows graph.nodes (plain_node c.args.node.now)
    (subst (All IsInstant) c.labels_at-labels.ensures.value c.labels_at-labels.ensures.instants))
