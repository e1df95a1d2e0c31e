use Rattle.std.proofs.Common.{◌≡◌, FitsSigned, w64, to_z, of_z, rules}
use Rattle.std.proofs.lemmas.Int.{to_z-of_z}
use Rattle.oe_render.proofs.Ahead.{ahead_next, ahead_stuck, ahead_all}
use Rattle.oe_render.proofs.Spelled.{one_time}
use Rattle.oe_render.proofs.dimensions.read_instants.Goals as goal

pub loop-value-preserved : goal.loop-value-preserved
loop-value-preserved c =
    let fits : FitsSigned w64 c.in-Some.seconds = search rules in
    let kept : to_z w64 (of_z w64 c.in-Some.seconds) ≡ c.in-Some.seconds = to_z-of_z w64 _ fits in
    rw (c.in_ok-push-in-Some.ensures.items, kept)
    (ahead_next c.value-item.result c.in-Some.seconds c.loop-value.invariant c.loop-value-test.true c.value-item.is c.in-Some.ensures
    (λ b spelled. one_time _ b c.in-Some.seconds spelled c.in-Some.ensures))

pub returns : goal.returns
returns c = ahead_all c.loop-value.invariant c.loop-value-test.false

pub returns-in-None : goal.returns-in-None
returns-in-None c = ahead_stuck c.value-item.result c.loop-value.invariant c.loop-value-test.true c.value-item.is c.in-None.ensures
