use Rattle.std.proofs.Common.{◌∙◌}
use Rattle.oe_graph.specs.Plain.{plain_graph}
use Rattle.oe_service.proofs.JudgeLemmas.{no_refusal}
use Rattle.oe_service.proofs.TextLemmas.{read_graph_is}
use Rattle.oe_service.proofs.asset.read_process.Goals as goal

pub returns-in-Ok-clause-graph : goal.returns-in-Ok-clause-graph
returns-in-Ok-clause-graph c =
    read_graph_is c.args.ran.now.process (plain_graph c.in-Ok.graph)
    (rw (c.as_bytes.ensures.value, c.as_str.ensures) at c.in-Ok.ensures.graph)

pub unreachable-requires : goal.unreachable-requires
unreachable-requires c =
    no_refusal c.args.ran.now.process _ _ _ c.requires (c.as_bytes.ensures.value ∙ c.as_str.ensures)
    c.in-Err-Fault.field-0-is c.in-Err-Fault.ensures.refused
