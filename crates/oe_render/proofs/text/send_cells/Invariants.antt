use Rattle.std.proofs.Common.{◌-◌, ◌≤◌, Ok, length, take, map}
use Rattle.oe_cell.specs.Spelling.{cell_text}
use Rattle.oe_outside.specs.declared.failed.Failed.{Failed}
use Rattle.oe_outside.specs.Stream.{HasSent}
use Rattle.oe_render.specs.Text.{more_text}
use Rattle.oe_render.proofs.text.send_cells.Given as goal

abbrev pub invariant-loop-index : goal.invariant-loop-index
invariant-loop-index g l = record {
  sent : HasSent {E = Failed} g.O.Sink.written g.O.Sink.size g.O.Sink.faults l.fn.out l.fn.pending (more_text l.before (map cell_text (take l.index l.cells))) l.out l.pending (Ok (tt {0}));
  within : l.index ≤ length l.cells;
}

abbrev pub decreases-loop-index : goal.decreases-loop-index
decreases-loop-index g l = length l.cells - l.index
