use Rattle.std.proofs.Common.{codes}
use Rattle.std.specs.List.{filter_map}
use Rattle.oe_dims.specs.Dimensions.{all_kinds}
use Rattle.oe_render.specs.Text.{listed_text, present_text}
use Rattle.oe_outside.proofs.Streams.{has_sent_then, has_stopped, has_stopped_more}
use Rattle.oe_render.proofs.text.send_head.Goals as goal

pub returns-in_err-send : goal.returns-in_err-send
returns-in_err-send g c =
    let is = c.from_residual.ensures.0 in
    has_stopped_more (codes "],\"data\":[") is
    (has_stopped_more (listed_text (filter_map (present_text c.args.shape.now) all_kinds)) is (has_stopped is c.in_err-send.ensures))

pub returns-in_err-send_dimensions : goal.returns-in_err-send_dimensions
returns-in_err-send_dimensions g c =
    let is = c.from_residual-in_err-send_dimensions.ensures.0 in
    has_stopped_more (codes "],\"data\":[") is (has_stopped is (has_sent_then c.in_ok-send.ensures c.in_err-send_dimensions.ensures))

pub returns : goal.returns
returns g c = has_sent_then (has_sent_then c.in_ok-send.ensures c.in_ok-send_dimensions.ensures) c.send-2.ensures
