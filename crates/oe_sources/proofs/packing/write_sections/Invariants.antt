use Rattle.std.proofs.Common.{◌≡◌, take, vec_len}
use Rattle.oe_outside.specs.Faults.{NeverFalls}
use Rattle.oe_outside.specs.Visible.{Appends}
use Rattle.oe_sources.specs.Packed.{section_records}
use Rattle.oe_sources.proofs.packing.write_sections.Given as goal

abbrev pub invariant-loop-section : goal.invariant-loop-section
invariant-loop-section g l = record {
  written : Appends (g.O.Sink.written l.initial.out) (section_records l.size (take l.section l.widths) l.cells) (g.O.Sink.written l.out);
  room : vec_len l.buffer ≡ 65536;
  falls : NeverFalls (g.O.Sink.faults l.initial.out) (g.O.Sink.faults l.out);
}
