use Rattle.std.proofs.Common.{sym, ◌∙◌, subst, Bor, Option}
use Rattle.std.specs.Option.{option_map}
use Rattle.serde_json.specs.Data.{Data}
use Rattle.serde_json.specs.View.{view}
use Rattle.serde_json.specs.declared.value.Value.{Value}
use Rattle.oe_routes.specs.Forms.{AreChanges, IsSent}
use Rattle.oe_routes.specs.Found.{IsFaultWhere, IsJson, process_in}
use Rattle.oe_routes.proofs.CommandLemmas.{once_met}
use Rattle.oe_routes.proofs.FormLemmas.{same_view}
use Rattle.oe_routes.proofs.FoundLemmas.{is_sent}
use Rattle.oe_routes.proofs.sent.changes_sent.Goals as goal

pub returns-clause-valid : goal.returns-clause-valid
returns-clause-valid c =
    let json = option_map (λ (v : Bor Value). view v.now) c.as_ref-2.result in
    let first = same_view c.as_ref.result c.in_ok-json.json c.as_ref.ensures.value in
    let second = same_view c.as_ref-2.result c.in_ok-json.json c.as_ref-2.ensures.value in
    once_met (IsSent json c.in_ok-fault.fault) AreChanges c.job_changes.result
    (is_sent c.args.body.now json c.in_ok-fault.fault (subst (IsJson c.args.body.now) second c.in_ok-json.ensures)
    (subst (λ (o : Option Data). IsFaultWhere (process_in o) c.in_ok-fault.fault) (sym first ∙ second) c.in_ok-fault.ensures))
    c.job_changes.ensures.valid
