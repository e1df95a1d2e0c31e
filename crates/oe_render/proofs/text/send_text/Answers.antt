use Rattle.std.proofs.Common.{codes, map, sym}
use Rattle.oe_cell.specs.Spelling.{cell_text}
use Rattle.oe_render.specs.Text.{listed_text, cube_text}
use Rattle.oe_outside.proofs.Streams.{has_sent_then, has_stopped, has_stopped_more}
use Rattle.oe_render.proofs.Texts.{listed_is_more}
use Rattle.oe_render.proofs.text.send_text.Goals as goal

pub returns-in_err-send_front-clause-sent : goal.returns-in_err-send_front-clause-sent
unfolding cube_text
returns-in_err-send_front-clause-sent g c =
    let is = c.from_residual.ensures.0 in
    has_stopped_more (codes "]}") is
    (has_stopped_more (listed_text (map cell_text c.args.cells.now)) is (has_stopped is c.in_err-send_front.ensures.sent))

pub returns-in_err-send_cells-clause-sent : goal.returns-in_err-send_cells-clause-sent
unfolding cube_text
returns-in_err-send_cells-clause-sent g c =
    let is = c.from_residual-in_err-send_cells.ensures.0 in
    has_stopped_more (codes "]}") is
    (has_stopped is (has_sent_then c.in_ok-send_front.ensures.sent (rw (sym (listed_is_more (map cell_text c.args.cells.now))) at c.in_err-send_cells.ensures)))

pub returns-clause-sent : goal.returns-clause-sent
unfolding cube_text
returns-clause-sent g c =
    has_sent_then (has_sent_then c.in_ok-send_front.ensures.sent (rw (sym (listed_is_more (map cell_text c.args.cells.now))) at c.in_ok-send_cells.ensures)) c.send_end.ensures.sent
