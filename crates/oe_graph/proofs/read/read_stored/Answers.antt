use Rattle.std.proofs.Common.{◌≡◌, sym, ap, ◌∙◌, None, []}
use Rattle.serde_json.specs.View.{view, members_view}
use Rattle.oe_graph.specs.Faults.{least}
use Rattle.oe_graph.specs.Parameters.{StandsStored}
use Rattle.oe_graph.specs.Plain.{plain_stored}
use Rattle.oe_graph.specs.Read.{IsFault}
use Rattle.oe_graph.specs.Walked.{graph_fault, parameters_fault}
use Rattle.oe_graph.proofs.ReadLemmas.{handed_on, stored_refused, refused_by, stored_least, stored_valid}
use Rattle.oe_graph.proofs.ValidLemmas.{ReadsStored-printable, ReadsStored-valid}
use Rattle.oe_graph.proofs.read.read_stored.Goals as goal

pub returns-in_err-value-clause-refused : goal.returns-in_err-value-clause-refused
returns-in_err-value-clause-refused c =
    let bytes = c.args.bytes.now in
    let r = c.in_err-value.field-0.0 in
    handed_on (IsFault (StandsStored bytes)) r c.from_residual.result c.from_residual.ensures.1
    (stored_refused bytes r c.in_err-value.ensures.refused c.in_err-value.ensures.precedes)

pub returns-in_err-nodes-clause-refused : goal.returns-in_err-nodes-clause-refused
returns-in_err-nodes-clause-refused c =
    let bytes = c.args.bytes.now in
    let d = view c.in_ok-value.value in
    let r = c.in_err-nodes.field-0.0 in
    handed_on (IsFault (StandsStored bytes)) r c.from_residual-in_err-nodes.result c.from_residual-in_err-nodes.ensures.1
    (stored_refused bytes r
    (refused_by bytes d c.in_ok-value.ensures.value c.in_ok-value.ensures.within r c.in_err-nodes.ensures.refused)
    c.in_err-nodes.ensures.precedes)

pub returns-in-Some-clause-refused : goal.returns-in-Some-clause-refused
returns-in-Some-clause-refused c =
    let main = members_view c.in_ok-nodes.nodes.now.entries in
    let d = view c.in_ok-value.value in
    stored_least c.args.bytes.now d c.in_ok-value.ensures.value c.in_ok-value.ensures.within main c.in_ok-nodes.ensures.nodes
    c.in-Some.fault
    (sym c.in-Some.is ∙ c.least.ensures ∙ ap (λ o. least o c.in_ok-of_parameters.of_parameters) c.in_ok-of_graph.ensures
    ∙ ap (least (graph_fault [] main)) c.in_ok-of_parameters.ensures)

pub returns-clause-process : goal.returns-clause-process
returns-clause-process c =
    let main = members_view c.in_ok-nodes.nodes.now.entries in
    let d = view c.in_ok-value.value in
    let none : None ≡ least (graph_fault [] main) (parameters_fault d) =
    sym c.in_default.is ∙ c.least.ensures ∙ ap (λ o. least o c.in_ok-of_parameters.of_parameters) c.in_ok-of_graph.ensures
    ∙ ap (least (graph_fault [] main)) c.in_ok-of_parameters.ensures in
    record {
      value = d;
      is_read = c.in_ok-value.ensures.value;
      is_graph = record { nodes = main; is_main = c.in_ok-nodes.ensures.nodes; built = c.in_ok-build_graph.ensures };
      parameters = c.in_ok-build_parameters.ensures;
      named = c.in_ok-of.ensures;
      text = c.in_ok-text_of.ensures;
      valid = stored_valid c.args.bytes.now d c.in_ok-value.ensures.value c.in_ok-value.ensures.within main
          c.in_ok-nodes.ensures.nodes none;
    }

pub returns-clause-valid : goal.returns-clause-valid
returns-clause-valid c = ReadsStored-valid c.args.id.now c.args.bytes.now _ (returns-clause-process c)

pub returns-clause-printable : goal.returns-clause-printable
returns-clause-printable c = ReadsStored-printable c.args.id.now c.args.bytes.now (plain_stored (record {
  id = c.in_ok-of.field-0;
  parameters = c.in_ok-build_parameters.field-0;
  graph = c.in_ok-build_graph.field-0;
  text = c.in_ok-text_of.field-0;
})) (returns-clause-process c)
