use Rattle.std.proofs.Common.{sym, ap, ◌∙◌}
use Rattle.std.specs.List.{list_any}
use Rattle.oe_dims.specs.Plain.{plain_rows}
use Rattle.oe_graph.specs.Plain.{plain_graph}
use Rattle.oe_graph.specs.References.{each_node}
use Rattle.oe_graph.specs.Tree.{PlainGraph}
use Rattle.oe_graph.proofs.PartLemmas.{graph_parts}
use Rattle.oe_translate.specs.Translated.{is_of_either}
use Rattle.oe_translate.proofs.CheckedLemmas.{none_before, nothing_written}
use Rattle.oe_translate.proofs.graph.check_all.Goals as goal

pub returns-in_ok-check_translated-clause-none : goal.returns-in_ok-check_translated-clause-none
returns-in_ok-check_translated-clause-none c =
    none_before (plain_rows c.args.dims.now) (plain_graph c.args.graph.now) c.in_ok-checked.checked c.in_ok-checked.ensures.checked c.in_ok-checked.ensures.none

pub returns-else-has_either-clause-checked : goal.returns-else-has_either-clause-checked
returns-else-has_either-clause-checked c =
    let graph = c.args.graph.now in
    nothing_written (plain_rows c.args.dims.now) (plain_graph graph) c.in_ok-checked.checked c.in_ok-checked.ensures.checked c.requires.resolved
    (ap (λ (g : PlainGraph). list_any is_of_either (each_node g.nodes)) (graph_parts graph) ∙ (sym c.has_either.ensures ∙ c.if-has_either.false))

pub returns-else-has_either-clause-none : goal.returns-else-has_either-clause-none
returns-else-has_either-clause-none c =
    none_before (plain_rows c.args.dims.now) (plain_graph c.args.graph.now) c.in_ok-checked.checked c.in_ok-checked.ensures.checked c.in_ok-checked.ensures.none
