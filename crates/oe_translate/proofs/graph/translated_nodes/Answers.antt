use Rattle.std.proofs.Common.{ap, ◌∙◌, arith}
use Rattle.oe_graph.specs.Plain.{plain_nodes}
use Rattle.oe_translate.proofs.GraphLemmas.{none_yet}
use Rattle.oe_translate.proofs.graph.translated_nodes.Goals as goal

pub loop-index-init : goal.loop-index-init
loop-index-init c =
    let value = c.nodes-index.ensures.value in
    record {
      within = omega arith;
      done = ap plain_nodes c.in_ok-found.ensures.items ∙ none_yet c.args.checked.now.rows c.args.checked.now.nodes c.nodes-index.result value;
    }
