use Rattle.std.proofs.Common.{◌≡◌, List, [], ◌∷◌, map, take, ap, ◌∙◌, refl}
use Rattle.std.proofs.lemmas.List.{take_all}
use Rattle.serde_json.specs.View.{view, items_view}
use Rattle.serde_json.specs.declared.value.Value.{Value}
use Rattle.oe_graph.specs.Plain.{plain_parameter}
use Rattle.oe_graph.specs.Parameters.{parameter_of, each_parameter}
use Rattle.oe_graph.proofs.stored.build_rows.Goals as goal

parameters_each : (vs : List Value) → map (λ v. parameter_of (view v)) vs ≡ each_parameter (items_view vs)
parameters_each [] = refl
parameters_each (v ∷ vs) = ap (λ ps. parameter_of (view v) ∷ ps) (parameters_each vs)

pub returns : goal.returns
returns c =
    let full : take c.loop-item.item-index c.deref-item-items.result.now ≡ c.deref-item-items.result.now = take_all _ _ c.loop-item-test.false in
    let all : map plain_parameter c.loop-item.rows.items ≡ map (λ v. parameter_of (view v)) c.args.items.now.items =
    rw (c.loop-item.invariant, full, c.deref-item-items.ensures.value) refl in
    all ∙ parameters_each c.args.items.now.items
