use Rattle.std.proofs.Common.{◌≡◌}
use Rattle.oe_dims.specs.declared.kind.Kind.TheVariants.{Time, Bands, Y, X}
use Rattle.oe_render.specs.Text.{present_text, part_text, parts_after}
use Rattle.oe_outside.proofs.Streams.{has_sent_then, has_stopped, has_stopped_more, has_answered}
use Rattle.oe_render.proofs.Texts.{listed_four}
use Rattle.oe_render.proofs.text.send_dimensions.Goals as goal

pub returns-in_err-sent : goal.returns-in_err-sent
returns-in_err-sent g c =
    let t = present_text c.args.shape.now Time in
    let b = present_text c.args.shape.now Bands in
    let y = present_text c.args.shape.now Y in
    let x = present_text c.args.shape.now X in
    let after_t = parts_after t 0 in
    let after_b = parts_after b after_t in
    let after_y = parts_after y after_b in
    let is = c.from_residual.ensures.0 in
    rw (listed_four t b y x) (has_stopped_more (part_text x after_y) is (has_stopped_more (part_text y after_b) is
    (has_stopped_more (part_text b after_t) is (has_stopped is c.in_err-sent.ensures.sent))))

pub returns-in_err-sent-2 : goal.returns-in_err-sent-2
returns-in_err-sent-2 g c =
    let t = present_text c.args.shape.now Time in
    let b = present_text c.args.shape.now Bands in
    let y = present_text c.args.shape.now Y in
    let x = present_text c.args.shape.now X in
    let after_t = parts_after t 0 in
    let after_b = parts_after b after_t in
    let after_y = parts_after y after_b in
    let sent_t : c.in_ok-sent.sent ≡ after_t = c.in_ok-sent.ensures.count in
    let is = c.from_residual-in_err-sent-2.ensures.0 in
    rw (listed_four t b y x) (has_stopped_more (part_text x after_y) is (has_stopped_more (part_text y after_b) is
    (has_stopped is (has_sent_then c.in_ok-sent.ensures.sent (rw sent_t at c.in_err-sent-2.ensures.sent)))))

pub returns-in_err-sent-3 : goal.returns-in_err-sent-3
returns-in_err-sent-3 g c =
    let t = present_text c.args.shape.now Time in
    let b = present_text c.args.shape.now Bands in
    let y = present_text c.args.shape.now Y in
    let x = present_text c.args.shape.now X in
    let after_t = parts_after t 0 in
    let after_b = parts_after b after_t in
    let after_y = parts_after y after_b in
    let sent_t : c.in_ok-sent.sent ≡ after_t = c.in_ok-sent.ensures.count in
    let sent_b : c.in_ok-sent-2.sent ≡ after_b = rw sent_t at c.in_ok-sent-2.ensures.count in
    let is = c.from_residual-in_err-sent-3.ensures.0 in
    rw (listed_four t b y x) (has_stopped_more (part_text x after_y) is
    (has_stopped is (has_sent_then (has_sent_then c.in_ok-sent.ensures.sent (rw sent_t at c.in_ok-sent-2.ensures.sent)) (rw sent_b at c.in_err-sent-3.ensures.sent))))

pub returns-in_err-send_present : goal.returns-in_err-send_present
returns-in_err-send_present g c =
    let t = present_text c.args.shape.now Time in
    let b = present_text c.args.shape.now Bands in
    let y = present_text c.args.shape.now Y in
    let x = present_text c.args.shape.now X in
    let after_t = parts_after t 0 in
    let after_b = parts_after b after_t in
    let after_y = parts_after y after_b in
    let sent_t : c.in_ok-sent.sent ≡ after_t = c.in_ok-sent.ensures.count in
    let sent_b : c.in_ok-sent-2.sent ≡ after_b = rw sent_t at c.in_ok-sent-2.ensures.count in
    let sent_y : c.in_ok-sent-3.sent ≡ after_y = rw sent_b at c.in_ok-sent-3.ensures.count in
    let is = c.from_residual-in_err-send_present.ensures.0 in
    rw (listed_four t b y x)
    (has_stopped is (has_sent_then (has_sent_then (has_sent_then c.in_ok-sent.ensures.sent (rw sent_t at c.in_ok-sent-2.ensures.sent)) (rw sent_b at c.in_ok-sent-3.ensures.sent)) (rw sent_y at c.in_err-send_present.ensures.sent)))

pub returns : goal.returns
returns g c =
    let t = present_text c.args.shape.now Time in
    let b = present_text c.args.shape.now Bands in
    let y = present_text c.args.shape.now Y in
    let x = present_text c.args.shape.now X in
    let after_t = parts_after t 0 in
    let after_b = parts_after b after_t in
    let after_y = parts_after y after_b in
    let sent_t : c.in_ok-sent.sent ≡ after_t = c.in_ok-sent.ensures.count in
    let sent_b : c.in_ok-sent-2.sent ≡ after_b = rw sent_t at c.in_ok-sent-2.ensures.count in
    let sent_y : c.in_ok-sent-3.sent ≡ after_y = rw sent_b at c.in_ok-sent-3.ensures.count in
    rw (listed_four t b y x)
    (has_answered tt (has_sent_then (has_sent_then (has_sent_then c.in_ok-sent.ensures.sent (rw sent_t at c.in_ok-sent-2.ensures.sent)) (rw sent_b at c.in_ok-sent-3.ensures.sent)) (rw sent_y at c.in_ok-send_present.ensures.sent)))
