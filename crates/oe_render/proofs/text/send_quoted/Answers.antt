use Rattle.std.proofs.Common.{◌++◌, codes}
use Rattle.oe_outside.proofs.Streams.{has_sent_then, has_stopped, has_stopped_more}
use Rattle.oe_render.proofs.text.send_quoted.Goals as goal

pub returns-in_err-send : goal.returns-in_err-send
returns-in_err-send g c =
    let is = c.from_residual.ensures.0 in
    has_stopped_more (c.args.text.now ++ codes "\"") is (has_stopped is c.in_err-send.ensures)

pub returns-in_err-send-2 : goal.returns-in_err-send-2
returns-in_err-send-2 g c =
    let is = c.from_residual-in_err-send-2.ensures.0 in
    has_stopped_more (codes "\"") is (has_stopped is (has_sent_then c.in_ok-send.ensures c.in_err-send-2.ensures))

pub returns : goal.returns
returns g c = has_sent_then (has_sent_then c.in_ok-send.ensures c.in_ok-send-2.ensures) c.send-3.ensures
