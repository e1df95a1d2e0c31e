use Rattle.std.proofs.Common.{ap, Bor}
use Rattle.std.specs.Option.{option_map}
use Rattle.serde_json.specs.View.{view}
use Rattle.serde_json.specs.declared.value.Value.{Value}
use Rattle.oe_routes.proofs.FormLemmas.{where_by}
use Rattle.oe_routes.proofs.form.object_where.Goals as goal

pub returns-in_ok-object_in-in-Some-clause-object : goal.returns-in_ok-object_in-in-Some-clause-object
returns-in_ok-object_in-in-Some-clause-object c =
    where_by (option_map (λ (v : Bor Value). view v.now) c.args.value) (view c.in-Some.value.now)
    (view c.in_ok-object_in-in-Some.field-0.now) (ap (option_map (λ (v : Bor Value). view v.now)) c.in-Some.is)
    c.in_ok-object_in-in-Some.ensures.object
