use Rattle.oe_render.proofs.Ahead.{ahead_next, ahead_all}
use Rattle.oe_render.proofs.Spelled.{one_cell}
use Rattle.oe_render.proofs.cells.read_cells.Goals as goal

pub loop-value-preserved : goal.loop-value-preserved
loop-value-preserved c =
    rw c.in_ok-push-in-Some.ensures.items
    (ahead_next c.value-item.result c.in-Some.cell c.loop-value.invariant c.loop-value-test.true c.value-item.is c.in-Some.ensures
    (λ b spelled. one_cell _ b c.in-Some.cell spelled c.in-Some.ensures))

pub returns : goal.returns
returns c = ahead_all c.loop-value.invariant c.loop-value-test.false
