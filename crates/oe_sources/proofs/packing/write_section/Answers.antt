use Rattle.std.proofs.Common.{◌+◌, arith}
use Rattle.oe_outside.proofs.Causes.{NeverFalls-trans}
use Rattle.oe_sources.proofs.PackingLemmas.{piece_more, piece_prefix}
use Rattle.oe_sources.proofs.packing.write_section.Goals as goal

pub returns-in-Err-clause-prefix : goal.returns-in-Err-clause-prefix
returns-in-Err-clause-prefix g c =
    piece_prefix (g.O.Sink.written c.args.out.now) (g.O.Sink.written c.loop-done.out) (g.O.Sink.written c.write_piece.new.out) c.args.width c.args.cells.now c.loop-done.done (c.loop-done.done + c.min.result) (omega arith) c.loop-done.invariant.written c.in-Err.ensures.prefix

pub loop-done-preserved : goal.loop-done-preserved
loop-done-preserved g c = record {
  within = omega (arith, c.min.ensures, c.loop-done-test.true);
  room = c.loop-done.invariant.room;
  written = piece_more (g.O.Sink.written c.args.out.now) (g.O.Sink.written c.loop-done.out) (g.O.Sink.written c.write_piece.new.out) c.args.width c.args.cells.now c.loop-done.done (c.loop-done.done + c.min.result) (omega arith) c.loop-done.invariant.written c.in-Ok.ensures.appended;
  falls = NeverFalls-trans c.loop-done.invariant.falls c.write_piece.ensures.cause.count;
}
