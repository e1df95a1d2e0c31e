use Rattle.std.proofs.Common.{◌≡◌, ◌≤◌, ◌-◌, length, take, vec_len}
use Rattle.oe_outside.specs.Faults.{NeverFalls}
use Rattle.oe_outside.specs.Visible.{Appends}
use Rattle.oe_wide.specs.Wide.{records_in}
use Rattle.oe_sources.proofs.packing.write_section.Given as goal

abbrev pub invariant-loop-done : goal.invariant-loop-done
invariant-loop-done g l = record {
  within : l.done ≤ length l.cells;
  room : vec_len l.buffer ≡ 65536;
  written : Appends (g.O.Sink.written l.initial.out) (records_in l.width (take l.done l.cells)) (g.O.Sink.written l.out);
  falls : NeverFalls (g.O.Sink.faults l.initial.out) (g.O.Sink.faults l.out);
}

abbrev pub decreases-loop-done : goal.decreases-loop-done
decreases-loop-done g l = length l.cells - l.done
