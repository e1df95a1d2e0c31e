use Rattle.std.proofs.Common.{◌≡◌, true, sym, ap, ◌∙◌, subst}
use Rattle.std.specs.Option.{option_map}
use Rattle.serde_json.specs.View.{view}
use Rattle.oe_graph.specs.Plain.{plain_stored}
use Rattle.oe_routes.specs.Rejections.{Settles}
use Rattle.oe_routes.specs.Tokens.{is_id}
use Rattle.oe_routes.proofs.StoreLemmas.{stored_is_sent}
use Rattle.oe_routes.proofs.stored.process_sent.Goals as goal

pub returns-clause-answer : goal.returns-clause-answer
returns-clause-answer c = λ f is.
    let id = c.args.id.now in
    let body = c.args.body.now in
    let valid : is_id id ≡ true =
    ap is_id (sym c.as_bytes.ensures.value) ∙ (sym c.is_id.ensures ∙ c.if-not-is_id.false) in
    subst (λ step. Settles plain_stored c.process_of.result step)
    (stored_is_sent f is id body (option_map view c.in_ok-json.json) valid c.in_ok-json.ensures)
    (c.process_of.ensures.answer (f.in_stored body) (is.in_stored body))
