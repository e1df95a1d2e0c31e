use Rattle.std.proofs.Common.{ap, ◌∙◌}
use Rattle.oe_graph.specs.Tree.{PlainGraph}
use Rattle.oe_graph.proofs.PartLemmas.{graph_parts}
use Rattle.oe_translate.proofs.graph.translate_checked.Goals as goal

pub translated_nodes-requires : goal.translated_nodes-requires
translated_nodes-requires c = c.requires.nodes ∙ ap (λ (p : PlainGraph). p.nodes) (graph_parts c.args.graph.now)
