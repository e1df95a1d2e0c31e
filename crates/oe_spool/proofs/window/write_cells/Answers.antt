use Rattle.std.proofs.Common.{◌+◌, ◌≤◌, length, arith}
use Rattle.oe_outside.proofs.Causes.{NeverFalls-trans}
use Rattle.oe_spool.proofs.RunRecords.{piece_behind, piece_outside, piece_put_outside, length-piece, room_kept}
use Rattle.oe_spool.proofs.window.write_cells.Goals as goal

pub returns-in_err-write_piece-clause-outside : goal.returns-in_err-write_piece-clause-outside
returns-in_err-write_piece-clause-outside g c =
    let test = c.loop-done-test.true in
    let within : c.loop-done.done + c.min-count.result ≤ length c.args.cells.now = omega (arith, c.min-count.ensures) in
    piece_outside _ _ _ _ _ c.min-count.result _ within c.loop-done.invariant.outside (length-piece _ _ _ _ _ _ within c.in_err-write_piece.ensures.outside)

pub loop-done-preserved : goal.loop-done-preserved
loop-done-preserved g c =
    let test = c.loop-done-test.true in
    let within : c.loop-done.done + c.min-count.result ≤ length c.args.cells.now = omega (arith, c.min-count.ensures) in
    let few : c.min-count.result ≤ 4096 = omega (arith, c.min-count.ensures) in
    let puts = c.in_ok-write_piece.ensures.written in
    record {
      within = within;
      room = room_kept _ _ _ c.loop-done.invariant.room few c.write_piece.ensures.len;
      written = piece_behind _ _ _ _ _ _ within c.loop-done.invariant.written puts;
      outside = piece_outside _ _ _ _ _ c.min-count.result _ within c.loop-done.invariant.outside (piece_put_outside _ _ _ _ _ _ within puts);
      count = NeverFalls-trans c.loop-done.invariant.count c.write_piece.ensures.cause.count;
    }
