use Rattle.std.proofs.Common.{◌≡◌, ◌*◌, length, take}
use Rattle.oe_sources.specs.Packed.{AreLeastWidths}
use Rattle.oe_sources.proofs.packing.widths_of.Given as goal

abbrev pub invariant-loop-section : goal.invariant-loop-section
invariant-loop-section l = record {
  counted : length l.widths.items ≡ l.section;
  least : AreLeastWidths l.size l.widths.items (take (l.section * l.size) l.cells);
}
