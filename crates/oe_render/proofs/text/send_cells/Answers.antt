use Rattle.std.proofs.Common.{◌≤◌, ◌+◌, arith}
use Rattle.oe_cell.specs.Spelling.{cell_text}
use Rattle.oe_outside.proofs.Streams.{has_stopped}
use Rattle.oe_render.proofs.Texts.{sends_range, stops_within}
use Rattle.oe_render.proofs.text.send_cells.Goals as goal

pub returns-in_err-send_piece : goal.returns-in_err-send_piece
returns-in_err-send_piece g c =
    let l = c.loop-index in
    let end = l.index + c.min.result in
    let below : l.index ≤ end = omega arith in
    let is = c.from_residual.ensures.0 in
    stops_within cell_text c.args.cells.now c.args.before end is
    (has_stopped is (sends_range cell_text c.args.cells.now c.args.before l.index end below l.invariant.within l.invariant.sent c.in_err-send_piece.ensures))

pub loop-index-preserved : goal.loop-index-preserved
loop-index-preserved g c =
    let l = c.loop-index in
    let end = l.index + c.min.result in
    let below : l.index ≤ end = omega arith in
    let within = l.invariant.within in
    record {
      sent = sends_range cell_text c.args.cells.now c.args.before l.index end below within l.invariant.sent c.in_ok-send_piece.ensures;
      within = omega (arith, within, c.min.ensures);
    }
