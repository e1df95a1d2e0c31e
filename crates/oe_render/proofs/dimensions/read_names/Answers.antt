use Rattle.std.proofs.Common.{Some, sym, ap, ◌∙◌, arith}
use Rattle.std.proofs.lemmas.Grind.{common_steps}
use Rattle.serde_json.specs.View.{view}
use Rattle.oe_render.specs.CubeText.{SpellsName}
use Rattle.oe_render.proofs.Ahead.{ahead_next, ahead_all}
use Rattle.oe_render.proofs.Spelled.{one_name}
use Rattle.oe_render.proofs.dimensions.read_names.Goals as goal

pub loop-value-preserved : goal.loop-value-preserved
loop-value-preserved c =
    let name = c.in_ok-name-in-Some.name in
    let spelled : SpellsName (view c.value-item.result) name = sym c.in-Some.ensures ∙ ap Some (sym c.in_ok-name-in-Some.ensures) in
    rw c.in_ok-push-in-Some.ensures.items
    (ahead_next c.value-item.result name c.loop-value.invariant c.loop-value-test.true c.value-item.is spelled
    (λ b other. one_name (view c.value-item.result) b name other spelled))

pub returns : goal.returns
returns c = ahead_all c.loop-value.invariant c.loop-value-test.false

pub returns-in-None : goal.returns-in-None
returns-in-None c = grind (arith, common_steps) steps 2000000
