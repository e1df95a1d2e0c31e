use Rattle.std.proofs.Common.{sym, ◌∙◌}
use Rattle.serde_json.specs.View.{view, members_view}
use Rattle.oe_graph.specs.Plain.{plain_graph}
use Rattle.oe_graph.proofs.ReadLemmas.{value_refused, value_valid}
use Rattle.oe_graph.proofs.ValidLemmas.{built_printable}
use Rattle.oe_graph.proofs.read.read_value.Goals as goal

pub returns-in-Some-clause-refused : goal.returns-in-Some-clause-refused
returns-in-Some-clause-refused c =
    value_refused (view c.args.value.now) (members_view c.in_ok-nodes.nodes.now.entries) c.in_ok-nodes.ensures.nodes
    c.in-Some.fault (sym c.in-Some.is ∙ c.in_ok-fault.ensures)

pub returns-in_ok-build_graph-in-None-clause-valid : goal.returns-in_ok-build_graph-in-None-clause-valid
returns-in_ok-build_graph-in-None-clause-valid c =
    value_valid (view c.args.value.now) (members_view c.in_ok-nodes.nodes.now.entries) c.in_ok-nodes.ensures.nodes
    (sym c.in-None.is ∙ c.in_ok-fault.ensures)

pub returns-in_ok-build_graph-in-None-clause-printable : goal.returns-in_ok-build_graph-in-None-clause-printable
returns-in_ok-build_graph-in-None-clause-printable c =
    built_printable (view c.args.value.now) (members_view c.in_ok-nodes.nodes.now.entries)
    (plain_graph c.in_ok-build_graph-in-None.field-0) c.in_ok-nodes.ensures.nodes c.in_ok-build_graph-in-None.ensures
    (sym c.in-None.is ∙ c.in_ok-fault.ensures)
