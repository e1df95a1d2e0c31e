use Rattle.std.proofs.Common.{◌≡◌, ℕ, List, Ok, ap, ◌∙◌, subst}
use Rattle.oe_dims.specs.Plain.{plain_rows}
use Rattle.oe_dims.specs.declared.dims.DimsRow.{DimsRow}
use Rattle.oe_http.specs.Replies.{plain_response}
use Rattle.oe_routes.specs.Answers as spec
use Rattle.oe_routes.specs.Paths.{id_in}
use Rattle.oe_routes.proofs.CommandLemmas.{row_shown}
use Rattle.oe_routes.proofs.shown.collection_reply.Goals as goal

pub returns-clause-reply : goal.returns-clause-reply
returns-clause-reply c = λ f user.
    let named : spec.named_row (plain_rows c.args.scene.dims.now) (id_in c.args.request.now.path) ≡ Ok c.in_ok-row.row.now =
    subst (λ (i : List ℕ). spec.named_row (plain_rows c.args.scene.dims.now) i ≡ Ok c.in_ok-row.row.now) (c.id_in.ensures ∙ ap id_in c.as_str.ensures)
    (subst (λ (rows : List DimsRow). spec.named_row rows c.id_in.result.now ≡ Ok c.in_ok-row.row.now) c.deref.ensures.value c.in_ok-row.ensures) in
    row_shown (plain_rows c.args.scene.dims.now) (id_in c.args.request.now.path) c.in_ok-row.row.now
    c.in_ok-collection_body.field-0.items (plain_response c.shown.result) named c.in_ok-collection_body.ensures c.shown.ensures.reply
