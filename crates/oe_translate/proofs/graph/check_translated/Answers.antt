use Rattle.std.proofs.Common.{ap}
use Rattle.oe_dims.specs.Plain.{plain_rows}
use Rattle.oe_graph.specs.Plain.{plain_graph}
use Rattle.oe_check.specs.Checked.{CheckedGraph}
use Rattle.oe_meanings.specs.Stands.{StandsInGraph}
use Rattle.oe_translate.proofs.CheckedLemmas.{made_checked, made_faultless, made_resolved}
use Rattle.oe_translate.proofs.GraphLemmas.{no_refusal}
use Rattle.oe_translate.proofs.graph.check_translated.Goals as goal

pub translate_checked-requires-clause-nodes : goal.translate_checked-requires-clause-nodes
translate_checked-requires-clause-nodes c = ap (λ (k : CheckedGraph). k.nodes) c.requires.same

pub translate_checked-requires-clause-result_node : goal.translate_checked-requires-clause-result_node
translate_checked-requires-clause-result_node c = ap (λ (k : CheckedGraph). k.result) c.requires.same

pub check-requires : goal.check-requires
check-requires c =
    record {
      resolved = made_resolved (plain_rows c.args.dims.now) (plain_graph c.args.graph.now) c.args.checked.now c.requires.same c.requires.faultless
          c.requires.room (plain_graph c.in_ok-translated.translated) c.in_ok-translated.ensures c.requires.few;
    }

pub unreachable-requires : goal.unreachable-requires
unreachable-requires c =
    no_refusal (StandsInGraph (plain_rows c.args.dims.now) (plain_graph c.in_ok-translated.translated).nodes) _ _
    (made_faultless (plain_rows c.args.dims.now) (plain_graph c.args.graph.now) c.args.checked.now c.requires.same c.requires.faultless
    c.requires.room (plain_graph c.in_ok-translated.translated) c.in_ok-translated.ensures c.look_at_shapes.ensures)
    c.in-Err-Fault.field-0-is c.in-Err-Fault.ensures.refused

pub returns-in-Ok-clause-checked : goal.returns-in-Ok-clause-checked
returns-in-Ok-clause-checked c =
    made_checked (plain_rows c.args.dims.now) (plain_graph c.args.graph.now) c.args.checked.now c.requires.same c.requires.faultless
    c.requires.room (plain_graph c.in_ok-translated.translated) c.in_ok-translated.ensures c.in-Ok.other c.in-Ok.ensures.checked
