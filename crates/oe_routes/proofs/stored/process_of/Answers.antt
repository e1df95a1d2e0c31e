use Rattle.std.proofs.Common.{Option, sym, ap, ◌∙◌, subst}
use Rattle.std.specs.Option.{option_map}
use Rattle.serde_json.specs.Data.{Data}
use Rattle.serde_json.specs.View.{view}
use Rattle.oe_graph.specs.Plain.{plain_stored}
use Rattle.oe_routes.specs.Forms.{object_in}
use Rattle.oe_routes.specs.Rejections.{Rejects, rejection_of_graph}
use Rattle.oe_routes.specs.Sent.{process_from}
use Rattle.oe_routes.proofs.CommandLemmas.{handed_on}
use Rattle.oe_routes.proofs.FormLemmas.{same_view}
use Rattle.oe_routes.proofs.StoreLemmas.{no_object, not_whole, process_refused, stored_sent}
use Rattle.oe_routes.proofs.stored.process_of.Goals as goal

pub returns-in_err-sent-clause-answer : goal.returns-in_err-sent-clause-answer
returns-in_err-sent-clause-answer c = λ fault least.
    let id = c.args.id.now in
    let json = option_map view c.args.json in
    let same = same_view c.as_ref.result c.args.json c.as_ref.ensures.value in
    let e = c.in_err-sent.field-0.0 in
    handed_on plain_stored c.from_residual.result e (process_from id json fault) c.from_residual.ensures.1
    (no_object id json fault e (subst (λ (o : Option Data). Rejects e (object_in o)) (sym same) c.in_err-sent.ensures.object))

pub returns-in_err-process-clause-answer : goal.returns-in_err-process-clause-answer
returns-in_err-process-clause-answer c = λ fault least.
    let id = c.args.id.now in
    let body = c.args.body.now in
    let json = option_map view c.args.json in
    let same = same_view c.as_ref.result c.args.json c.as_ref.ensures.value in
    handed_on plain_stored c.from_residual-in_err-process.result (rejection_of_graph c.in_err-process.field-0.0)
    (process_from id json fault) c.from_residual-in_err-process.ensures.1
    (process_refused id body json (view c.in_ok-sent.sent.now) fault c.in_err-process.field-0.0
    (ap object_in same ∙ c.in_ok-sent.ensures.object) least c.in_err-process.ensures.refused)

pub returns-in_err-whole-clause-answer : goal.returns-in_err-whole-clause-answer
returns-in_err-whole-clause-answer c = λ fault least.
    let id = c.args.id.now in
    let body = c.args.body.now in
    let json = option_map view c.args.json in
    let same = same_view c.as_ref.result c.args.json c.as_ref.ensures.value in
    let e = c.in_err-whole.field-0.0 in
    handed_on plain_stored c.from_residual-in_err-whole.result e (process_from id json fault) c.from_residual-in_err-whole.ensures.1
    (not_whole id body json (view c.in_ok-sent.sent.now) (plain_stored c.in_ok-process.process) fault e
    (ap object_in same ∙ c.in_ok-sent.ensures.object) least c.in_ok-process.ensures.process c.in_err-whole.ensures)

pub returns-clause-valid : goal.returns-clause-valid
returns-clause-valid c =
    let json = option_map view c.args.json in
    let same = same_view c.as_ref.result c.args.json c.as_ref.ensures.value in
    stored_sent c.id_leaves_faults.ensures c.args.id.now c.args.body.now c.in_ok-text.text (plain_stored c.in_ok-process.process)
    json (view c.in_ok-sent.sent.now) c.requires (ap object_in same ∙ c.in_ok-sent.ensures.object) c.in_ok-process.ensures.process
    c.in_ok-text.ensures.reads c.in_ok-text.ensures.short
