use Rattle.oe_dims.specs.Plain.{plain_rows}
use Rattle.oe_graph.specs.Plain.{plain_graph}
use Rattle.oe_top.proofs.Checks.{form_first, checked_text, checked_refused}
use Rattle.oe_top.proofs.judge.checked_graph.Goals as goal

pub returns-in-Err-clause-refused : goal.returns-in-Err-clause-refused
returns-in-Err-clause-refused c =
    form_first (plain_rows c.args.dims.now) c.args.bytes.now c.in-Err.refusal c.in-Err.ensures.refused

pub returns-clause-checked : goal.returns-clause-checked
returns-clause-checked c =
    checked_text (plain_rows c.args.dims.now) c.args.bytes.now (plain_graph c.in-Ok.graph) c.in-Ok.ensures.graph
    c.judge.result c.judge.ensures.checked c.judge.ensures.none

pub returns-clause-refused : goal.returns-clause-refused
returns-clause-refused c =
    checked_refused (plain_rows c.args.dims.now) c.args.bytes.now (plain_graph c.in-Ok.graph) c.in-Ok.ensures.graph
    c.judge.result c.judge.ensures.refused
