use Rattle.oe_outside.proofs.Streams.{has_sent_then, has_stopped, has_stopped_more}
use Rattle.oe_render.specs.Text.{reference_system}
use Rattle.oe_render.proofs.text.send_dimension_head.Goals as goal

pub returns-in_err-send-in-Y : goal.returns-in_err-send-in-Y
returns-in_err-send-in-Y g c =
    let is = c.from_residual.ensures.0 in
    rw c.in-Y.is (has_stopped_more (reference_system c.args.shape.now) is (has_stopped is c.in_err-send-in-Y.ensures))

pub returns-in_err-send-in-X : goal.returns-in_err-send-in-X
returns-in_err-send-in-X g c =
    let is = c.from_residual-in_err-send-in-X.ensures.0 in
    rw c.in-X.is (has_stopped_more (reference_system c.args.shape.now) is (has_stopped is c.in_err-send-in-X.ensures))

pub returns-in_ok-send-in-Y : goal.returns-in_ok-send-in-Y
returns-in_ok-send-in-Y g c = rw c.in-Y.is (has_sent_then c.in_ok-send-in-Y.ensures c.send_reference_system.ensures)

pub returns-in_ok-send-in-X : goal.returns-in_ok-send-in-X
returns-in_ok-send-in-X g c = rw c.in-X.is (has_sent_then c.in_ok-send-in-X.ensures c.send_reference_system-in-X.ensures)
