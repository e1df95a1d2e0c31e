use Rattle.std.proofs.Common.{◌≡◌, List, ap, ◌∙◌}
use Rattle.std.proofs.lemmas.Result.{IfOk-weaker}
use Rattle.oe_dims.specs.Plain.{plain_rows}
use Rattle.oe_dims.specs.declared.dims.DimsRow.{DimsRow}
use Rattle.oe_graph.specs.Plain.{plain_graph}
use Rattle.oe_graph.specs.declared.tree.Graph.{Graph}
use Rattle.oe_check.specs.Checked.{CheckedGraph}
use Rattle.oe_meanings.specs.Stands.{StandsInGraph}
use Rattle.oe_translate.specs.Translated.{translated}
use Rattle.oe_translate.proofs.GraphLemmas.{neither, no_refusal}
use Rattle.oe_translate.proofs.graph.translate.Goals as goal

pub unreachable-requires : goal.unreachable-requires
unreachable-requires c =
    no_refusal (StandsInGraph (plain_rows c.args.dims.now) (plain_graph c.args.graph.now).nodes) _ _ c.requires.faultless
    c.in-Err-Fault.field-0-is c.in-Err-Fault.ensures.refused

pub returns-in-Ok-clause-value : goal.returns-in-Ok-clause-value
returns-in-Ok-clause-value c =
    let rows : c.in-Ok.checked.rows ≡ plain_rows c.args.dims.now = ap (λ (k : CheckedGraph). k.rows) c.in-Ok.ensures.checked in
    IfOk-weaker c.translate_checked.result _ _
    (λ (g : Graph) is. is ∙ ap (λ (r : List DimsRow). translated r (plain_graph c.args.graph.now)) rows) c.translate_checked.ensures

pub returns-in-Ok-clause-neither : goal.returns-in-Ok-clause-neither
returns-in-Ok-clause-neither c =
    IfOk-weaker c.translate_checked.result _ _
    (λ (g : Graph) is. neither c.in-Ok.checked.rows (plain_graph c.args.graph.now) (plain_graph g) is) c.translate_checked.ensures
