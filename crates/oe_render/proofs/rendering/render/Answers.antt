use Rattle.std.proofs.lemmas.Result.{on_err_weaker}
use Rattle.oe_render.proofs.Sending.{appends_cube, counts_cube, cube_count, cube_prefix, sent_before, stopped_before, stops_at_cells, stops_at_end, stops_at_front}
use Rattle.oe_render.proofs.rendering.render.Goals as goal

pub returns-in_err-of_sink-clause-prefix : goal.returns-in_err-of_sink-clause-prefix
returns-in_err-of_sink-clause-prefix g c =
    on_err_weaker c.from_residual.result cube_prefix
    (stops_at_front (g.P.Store.bytes c.args.spool.now) c.args.base c.args.shape.now c.from_residual.result c.requires.stored
    (stopped_before c.send_front.result c.in_err-of_sink.ensures c.discard.ensures c.send_front.ensures.sent))

pub returns-in_err-of_sink-clause-counted_prefix : goal.returns-in_err-of_sink-clause-counted_prefix
returns-in_err-of_sink-clause-counted_prefix g c =
    on_err_weaker c.from_residual.result cube_count
    (stops_at_front (g.P.Store.bytes c.args.spool.now) c.args.base c.args.shape.now c.from_residual.result c.requires.stored
    (stopped_before c.send_front.result c.in_err-of_sink.ensures c.discard.ensures c.send_front.ensures.sent))

pub returns-in_err-send_stored-clause-prefix : goal.returns-in_err-send_stored-clause-prefix
returns-in_err-send_stored-clause-prefix g c =
    on_err_weaker c.from_residual-in_err-send_stored.result cube_prefix
    (stops_at_cells c.args.shape.now c.from_residual-in_err-send_stored.result
    (sent_before c.send_front.result c.in_ok-of_sink.ensures c.discard.ensures c.send_front.ensures.sent)
    (rw c.cells.ensures.value at c.in_err-send_stored.ensures.sent))

pub returns-in_err-send_stored-clause-counted_prefix : goal.returns-in_err-send_stored-clause-counted_prefix
returns-in_err-send_stored-clause-counted_prefix g c =
    on_err_weaker c.from_residual-in_err-send_stored.result cube_count
    (stops_at_cells c.args.shape.now c.from_residual-in_err-send_stored.result
    (sent_before c.send_front.result c.in_ok-of_sink.ensures c.discard.ensures c.send_front.ensures.sent)
    (rw c.cells.ensures.value at c.in_err-send_stored.ensures.sent))

pub returns-clause-text : goal.returns-clause-text
returns-clause-text g c =
    appends_cube c.args.shape.now c.send_end.result c.of_sink-2.result c.of_sink-2.ensures
    (sent_before c.send_front.result c.in_ok-of_sink.ensures c.discard.ensures c.send_front.ensures.sent)
    (rw c.cells.ensures.value at c.in_ok-send_stored.ensures.sent) c.send_end.ensures.sent c.send_end.ensures.empty

pub returns-clause-counted : goal.returns-clause-counted
returns-clause-counted g c =
    counts_cube c.args.shape.now c.send_end.result c.of_sink-2.result c.of_sink-2.ensures
    (sent_before c.send_front.result c.in_ok-of_sink.ensures c.discard.ensures c.send_front.ensures.sent)
    (rw c.cells.ensures.value at c.in_ok-send_stored.ensures.sent) c.send_end.ensures.sent c.send_end.ensures.empty

pub returns-clause-prefix : goal.returns-clause-prefix
returns-clause-prefix g c =
    on_err_weaker c.of_sink-2.result cube_prefix
    (stops_at_end c.args.shape.now c.send_end.result c.of_sink-2.result c.of_sink-2.ensures
    (sent_before c.send_front.result c.in_ok-of_sink.ensures c.discard.ensures c.send_front.ensures.sent)
    (rw c.cells.ensures.value at c.in_ok-send_stored.ensures.sent) c.send_end.ensures.sent)

pub returns-clause-counted_prefix : goal.returns-clause-counted_prefix
returns-clause-counted_prefix g c =
    on_err_weaker c.of_sink-2.result cube_count
    (stops_at_end c.args.shape.now c.send_end.result c.of_sink-2.result c.of_sink-2.ensures
    (sent_before c.send_front.result c.in_ok-of_sink.ensures c.discard.ensures c.send_front.ensures.sent)
    (rw c.cells.ensures.value at c.in_ok-send_stored.ensures.sent) c.send_end.ensures.sent)
