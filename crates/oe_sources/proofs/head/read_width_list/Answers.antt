use Rattle.serde_json.specs.View.{view}
use Rattle.oe_render.proofs.Ahead.{ahead_next, ahead_stuck, ahead_all}
use Rattle.oe_sources.proofs.OneHead.{one_width}
use Rattle.oe_sources.proofs.head.read_width_list.Goals as goal

pub loop-value-preserved : goal.loop-value-preserved
loop-value-preserved c =
    let width = c.in-Some.width in
    rw c.in_ok-push-in-Some.ensures.items
    (ahead_next c.value-item.result width c.loop-value.invariant c.loop-value-test.true c.value-item.is c.in-Some.ensures
    (λ b spelled. one_width (view c.value-item.result) b width spelled c.in-Some.ensures))

pub returns : goal.returns
returns c = ahead_all c.loop-value.invariant c.loop-value-test.false

pub returns-in-None : goal.returns-in-None
returns-in-None c = ahead_stuck c.value-item.result c.loop-value.invariant c.loop-value-test.true c.value-item.is c.in-None.ensures
