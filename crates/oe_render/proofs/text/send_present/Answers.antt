use Rattle.std.proofs.Common.{◌≡◌, ◌+◌, Some, None, sym, refl}
use Rattle.oe_render.specs.Text.{present_text, dimension_text}
use Rattle.oe_outside.proofs.Streams.{has_sent_then, has_stopped, has_stopped_more, has_sent_nothing, has_answered}
use Rattle.oe_render.proofs.Texts.{present_missing, present_there}
use Rattle.oe_render.proofs.text.send_present.Goals as goal

pub returns-in-None : goal.returns-in-None
returns-in-None g c =
    let text : present_text c.args.shape.now c.args.kind ≡ None = present_missing c.args.shape.now c.args.kind (sym c.in-None.ensures.value) in
    record {
      sent = rw text (has_sent_nothing c.args.out.now c.args.pending.now _ refl);
      count = rw text refl;
    }

pub returns-in_err-send_separator-in-Some-clause-sent : goal.returns-in_err-send_separator-in-Some-clause-sent
returns-in_err-send_separator-in-Some-clause-sent g c =
    let text : present_text c.args.shape.now c.args.kind ≡ Some (dimension_text c.args.shape.now c.args.kind) = present_there c.args.shape.now c.args.kind c.in-Some.count (sym c.in-Some.ensures.value) in
    let is = c.from_residual.ensures.0 in
    rw text (has_stopped_more (dimension_text c.args.shape.now c.args.kind) is (has_stopped is c.in_err-send_separator-in-Some.ensures))

pub returns-in_err-send_dimension-in-Some-clause-sent : goal.returns-in_err-send_dimension-in-Some-clause-sent
returns-in_err-send_dimension-in-Some-clause-sent g c =
    let text : present_text c.args.shape.now c.args.kind ≡ Some (dimension_text c.args.shape.now c.args.kind) = present_there c.args.shape.now c.args.kind c.in-Some.count (sym c.in-Some.ensures.value) in
    let is = c.from_residual-in_err-send_dimension-in-Some.ensures.0 in
    rw text (has_stopped is (has_sent_then c.in_ok-send_separator-in-Some.ensures c.in_err-send_dimension-in-Some.ensures))

pub returns-in_ok-send_dimension-in-Some-clause-sent : goal.returns-in_ok-send_dimension-in-Some-clause-sent
returns-in_ok-send_dimension-in-Some-clause-sent g c =
    let text : present_text c.args.shape.now c.args.kind ≡ Some (dimension_text c.args.shape.now c.args.kind) = present_there c.args.shape.now c.args.kind c.in-Some.count (sym c.in-Some.ensures.value) in
    rw text (has_answered (c.args.sent + 1) (has_sent_then c.in_ok-send_separator-in-Some.ensures c.in_ok-send_dimension-in-Some.ensures))
