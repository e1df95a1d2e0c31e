use Rattle.std.proofs.Common.{◌≡◌, ◌≤◌, ◌+◌, length}
use Rattle.oe_dims.specs.Lists.{lines_of}
use Rattle.oe_mosaic.specs.MosaicText.{names_from, names_in}
use Rattle.oe_mosaic.proofs.text.read_names.Given as goal

abbrev pub invariant-loop-rest : goal.invariant-loop-rest
invariant-loop-rest l = record {
  left : names_in l.bytes ≡ names_from l.names.items (lines_of l.rest);
  counted : l.number ≡ length l.names.items + 1;
  few : length l.names.items ≤ 17;
}

abbrev pub decreases-loop-rest : goal.decreases-loop-rest
decreases-loop-rest l = length l.rest
