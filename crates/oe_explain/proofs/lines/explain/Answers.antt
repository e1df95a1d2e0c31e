use Rattle.oe_graph.specs.Plain.{plain_graph}
use Rattle.oe_explain.proofs.Explained.{form_explained, graph_explained}
use Rattle.oe_explain.proofs.lines.explain.Goals as goal

pub returns-in-Ok : goal.returns-in-Ok
returns-in-Ok c =
    graph_explained (λ text. text.items) c.args.fault.now c.args.bytes.now (plain_graph c.in-Ok.graph) c.explain_graph.result
    c.in-Ok.ensures.graph c.explain_graph.ensures

pub returns-in-Err-Fault : goal.returns-in-Err-Fault
returns-in-Err-Fault c =
    form_explained (λ text. text.items) c.args.fault.now c.args.bytes.now _ c.explain_form.result
    (rw c.in-Err-Fault.field-0-is at c.in-Err-Fault.ensures.refused) c.explain_form.ensures
