use Rattle.std.proofs.Common.{codes}
use Rattle.oe_render.specs.Text.{label_texts, listed_text}
use Rattle.oe_outside.proofs.Streams.{has_sent_then, has_stopped, has_stopped_more}
use Rattle.oe_render.proofs.text.send_dimension.Goals as goal

pub returns-in_err-send_dimension_head : goal.returns-in_err-send_dimension_head
returns-in_err-send_dimension_head g c =
    let is = c.from_residual.ensures.0 in
    has_stopped_more (codes "]}") is
    (has_stopped_more (listed_text (label_texts c.args.shape.now c.args.kind)) is
    (has_stopped_more (codes "\"labels\":[") is (has_stopped is c.in_err-send_dimension_head.ensures)))

pub returns-in_err-send : goal.returns-in_err-send
returns-in_err-send g c =
    let is = c.from_residual-in_err-send.ensures.0 in
    has_stopped_more (codes "]}") is
    (has_stopped_more (listed_text (label_texts c.args.shape.now c.args.kind)) is
    (has_stopped is (has_sent_then c.in_ok-send_dimension_head.ensures c.in_err-send.ensures)))

pub returns-in_err-send_labels : goal.returns-in_err-send_labels
returns-in_err-send_labels g c =
    let is = c.from_residual-in_err-send_labels.ensures.0 in
    has_stopped_more (codes "]}") is
    (has_stopped is (has_sent_then (has_sent_then c.in_ok-send_dimension_head.ensures c.in_ok-send.ensures) c.in_err-send_labels.ensures))

pub returns : goal.returns
returns g c =
    has_sent_then (has_sent_then (has_sent_then c.in_ok-send_dimension_head.ensures c.in_ok-send.ensures) c.in_ok-send_labels.ensures) c.send-2.ensures
