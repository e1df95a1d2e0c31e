use Rattle.std.proofs.Common.{◌≡◌, ◌+◌, ◌<◌, [], length, get_or, refl, arith}
use Rattle.oe_render.specs.Text.{label_texts}
use Rattle.oe_outside.proofs.Streams.{has_stopped}
use Rattle.oe_render.proofs.Texts.{sends_next, stops_among, length-label_texts}
use Rattle.oe_render.proofs.text.send_labels.Goals as goal

pub returns-in_err-send_next_label : goal.returns-in_err-send_next_label
returns-in_err-send_next_label g c =
    let texts = label_texts c.args.shape.now c.args.kind in
    let size : length texts ≡ c.args.count = length-label_texts c.args.shape.now c.args.kind c.args.count c.requires.count in
    let below : c.loop-index.index < length texts = omega arith in
    let is = c.from_residual.ensures.0 in
    stops_among texts (c.loop-index.index + 1) is
    (has_stopped is (sends_next texts c.loop-index.index (get_or texts c.loop-index.index []) c.loop-index.invariant c.in_err-send_next_label.ensures below refl))

pub loop-index-preserved : goal.loop-index-preserved
loop-index-preserved g c =
    let texts = label_texts c.args.shape.now c.args.kind in
    let size : length texts ≡ c.args.count = length-label_texts c.args.shape.now c.args.kind c.args.count c.requires.count in
    let below : c.loop-index.index < length texts = omega arith in
    sends_next texts c.loop-index.index (get_or texts c.loop-index.index []) c.loop-index.invariant c.in_ok-send_next_label.ensures below refl
