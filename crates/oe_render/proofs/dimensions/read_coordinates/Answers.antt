use Rattle.std.proofs.Common.{◌≡◌, FitsSigned, w64, to_z, of_z, rules, sym}
use Rattle.std.proofs.lemmas.Int.{to_z-of_z}
use Rattle.serde_json.specs.View.{view}
use Rattle.oe_render.proofs.Ahead.{ahead_next, ahead_all}
use Rattle.oe_render.proofs.Spelled.{one_coordinate}
use Rattle.oe_render.proofs.dimensions.read_coordinates.Goals as goal

pub loop-value-preserved : goal.loop-value-preserved
loop-value-preserved c =
    let fits : FitsSigned w64 c.in-Some.coordinate = search rules in
    let kept : to_z w64 (of_z w64 c.in-Some.coordinate) ≡ c.in-Some.coordinate = to_z-of_z w64 _ fits in
    rw (c.in_ok-push-in-Some.ensures.items, kept)
    (ahead_next c.value-item.result c.in-Some.coordinate c.loop-value.invariant c.loop-value-test.true c.value-item.is (sym c.in-Some.ensures)
    (λ b spelled. one_coordinate (view c.value-item.result) b c.in-Some.coordinate spelled (sym c.in-Some.ensures)))

pub returns : goal.returns
returns c = ahead_all c.loop-value.invariant c.loop-value-test.false
