use Rattle.std.specs.Prelude.{map}
use Rattle.oe_dims.specs.Plain.{plain_rows}
use Rattle.oe_graph.specs.Plain.{plain_graph, plain_stored}
use Rattle.oe_judge.proofs.Phases.{names_first, is_faultless, is_refused}
use Rattle.oe_judge.proofs.judged.judge.Goals as goal

pub returns-in-Ok-clause-none : goal.returns-in-Ok-clause-none
returns-in-Ok-clause-none c =
    is_faultless (plain_rows c.args.dims.now) (map plain_stored c.args.stored.now) (plain_graph c.args.graph.now)
    (plain_graph c.in-Ok.resolved) c.in-Ok.ensures.without_fault c.in-Ok.ensures.graph
    c.check.result c.check.ensures.checked c.check.ensures.none

pub returns-in-Ok-clause-refused : goal.returns-in-Ok-clause-refused
returns-in-Ok-clause-refused c =
    is_refused (plain_rows c.args.dims.now) (map plain_stored c.args.stored.now) (plain_graph c.args.graph.now)
    (plain_graph c.in-Ok.resolved) c.in-Ok.ensures.without_fault c.in-Ok.ensures.graph
    c.check.result c.check.ensures.refused

pub returns-in-Err-clause-refused : goal.returns-in-Err-clause-refused
returns-in-Err-clause-refused c =
    names_first (plain_rows c.args.dims.now) (map plain_stored c.args.stored.now) (plain_graph c.args.graph.now)
    c.in-Err.refusal c.in-Err.ensures.refused
