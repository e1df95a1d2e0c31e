use Rattle.std.proofs.Common.{◌≡◌, ◌<◌, ◌≤◌, ◌+◌, ℕ}
use Rattle.std.specs.Prelude.{unsigned_abs}
use Rattle.std.specs.List.{slice_index_or}
use Rattle.oe_cell.specs.Rational.{whole_of}
use Rattle.oe_cell.specs.declared.cell.Cell.TheVariants.{Number, Empty}
use Rattle.oe_kernel.specs.Convolution.{pixel_number}
use Rattle.oe_kernel.specs.Strips.{at}
use Rattle.oe_kernel.proofs.pixels.unpack.Given as goal

abbrev pub invariant-loop-t : goal.invariant-loop-t
invariant-loop-t l = record {
  same : (j : ℕ) → j < l.t → pixel_number l.replace (slice_index_or l.cells j Empty) ≡ Number (whole_of (at l.pixels (l.start + j)));
  size : (j : ℕ) → j < l.t → unsigned_abs (at l.pixels (l.start + j)) ≤ l.bound;
  before : (n : ℕ) → n < l.start → at l.pixels n ≡ at l.initial.pixels n;
}
