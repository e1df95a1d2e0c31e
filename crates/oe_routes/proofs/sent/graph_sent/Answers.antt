use Rattle.std.proofs.Common.{◌≡◌, true, sym, ap, ◌∙◌, subst, Bor}
use Rattle.std.specs.Option.{option_map}
use Rattle.serde_json.specs.View.{view}
use Rattle.serde_json.specs.declared.value.Value.{Value}
use Rattle.oe_graph.specs.AsRead.{is_as_read}
use Rattle.oe_graph.specs.Plain.{plain_graph}
use Rattle.oe_graph.specs.Valid.{IsValidGraph}
use Rattle.oe_graph.specs.declared.tree.Graph.{Graph}
use Rattle.oe_routes.specs.Forms.{object_in}
use Rattle.oe_routes.specs.Found.{IsJson}
use Rattle.oe_routes.specs.Rejections.{Rejects}
use Rattle.oe_routes.specs.Sent.{graph_sent}
use Rattle.oe_routes.proofs.CommandLemmas.{handed_on, once_met}
use Rattle.oe_routes.proofs.FormLemmas.{process_as_read, same_view}
use Rattle.oe_routes.proofs.FoundLemmas.{no_object_sent, no_process_sent}
use Rattle.oe_routes.proofs.sent.graph_sent.Goals as goal

pub returns-in_err-sent-clause-answer : goal.returns-in_err-sent-clause-answer
returns-in_err-sent-clause-answer c = λ f is.
    let body = c.args.body.now in
    let same = same_view c.as_ref.result c.in_ok-json.json c.as_ref.ensures.value in
    handed_on plain_graph c.from_residual-in_err-sent.result c.in_err-sent.field-0.0 (graph_sent f body)
    c.from_residual-in_err-sent.ensures.1
    (no_object_sent f is body (option_map (λ (v : Bor Value). view v.now) c.as_ref.result) c.in_err-sent.field-0.0
    (subst (IsJson body) same c.in_ok-json.ensures) c.in_err-sent.ensures.object)

pub returns-in_err-process-clause-answer : goal.returns-in_err-process-clause-answer
returns-in_err-process-clause-answer c = λ f is.
    let body = c.args.body.now in
    let same = same_view c.as_ref.result c.in_ok-json.json c.as_ref.ensures.value in
    handed_on plain_graph c.from_residual-in_err-process.result c.in_err-process.field-0.0 (graph_sent f body)
    c.from_residual-in_err-process.ensures.1
    (no_process_sent f is body (option_map (λ (v : Bor Value). view v.now) c.as_ref.result) (view c.in_ok-sent.sent.now)
    c.in_err-process.field-0.0 (subst (IsJson body) same c.in_ok-json.ensures) c.in_ok-sent.ensures.object
    (subst (λ o. Rejects c.in_err-process.field-0.0 (object_in o)) c.get.ensures c.in_err-process.ensures.object))

pub returns-clause-valid : goal.returns-clause-valid
returns-clause-valid c =
    let body = c.args.body.now in
    let same = same_view c.as_ref.result c.in_ok-json.json c.as_ref.ensures.value in
    once_met (is_as_read (view c.in_ok-process.process.now) ≡ true) (λ (graph : Graph). IsValidGraph (plain_graph graph))
    c.graph_of.result
    (process_as_read body (option_map (λ (v : Bor Value). view v.now) c.as_ref.result) (view c.in_ok-sent.sent.now)
    (view c.in_ok-process.process.now) (subst (IsJson body) same c.in_ok-json.ensures) c.in_ok-sent.ensures.object
    (ap object_in (sym c.get.ensures) ∙ c.in_ok-process.ensures.object))
    c.graph_of.ensures.valid
