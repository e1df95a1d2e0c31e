use Rattle.std.proofs.Common.{ℕ, Bool, List, sym, subst, Bor}
use Rattle.std.specs.Option.{option_map}
use Rattle.oe_dims.specs.declared.text.Text.{Text}
use Rattle.std.specs.Prelude.{IfOk}
use Rattle.oe_dims.specs.Plain.{plain_rows}
use Rattle.oe_http.specs.Plain.{plain_request}
use Rattle.oe_routes.specs.Actions.{MayBeDone}
use Rattle.oe_routes.specs.Found.{IsFoundFor}
use Rattle.oe_routes.specs.Scenes.{plain_scene}
use Rattle.oe_routes.specs.Table.{method_of}
use Rattle.oe_routes.proofs.AskedLemmas.{asks_is, done_by}
use Rattle.oe_routes.proofs.action.done.Goals as goal

pub returns-clause-answer : goal.returns-clause-answer
returns-clause-answer c = λ f is.
    let r = plain_request c.args.request.now in
    let method = method_of c.in_ok-method.method.now in
    done_by (plain_scene c.args.scene) f r method c.entries.result.now (option_map (λ (v : Bor (List ℕ)). v.now) c.value_of.result)
    (option_map (λ (t : Bor Text). t.now) c.in_ok-user.user) c.in_ok-user-2.user c.perform.result c.in_ok-method.ensures
    c.entries.ensures c.value_of.ensures c.in_ok-user.ensures.user c.in_ok-user-2.ensures
    (c.perform.ensures.answer f
    (subst (λ (b : Bool). IsFoundFor (plain_rows c.args.scene.dims.now) b f) (sym (asks_is r method c.in_ok-method.ensures)) is))

pub returns-clause-valid : goal.returns-clause-valid
returns-clause-valid c =
    subst (λ (b : Bool). IfOk c.perform.result (MayBeDone (plain_scene c.args.scene) b))
    (asks_is (plain_request c.args.request.now) (method_of c.in_ok-method.method.now) c.in_ok-method.ensures)
    c.perform.ensures.valid
