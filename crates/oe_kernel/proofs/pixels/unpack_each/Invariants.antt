use Rattle.std.proofs.Common.{◌≡◌, ◌<◌, ◌≤◌, ◌+◌, ℕ}
use Rattle.std.specs.Prelude.{unsigned_abs}
use Rattle.oe_cell.specs.Rational.{whole_of}
use Rattle.oe_cell.specs.declared.cell.Cell.TheVariants.{Number}
use Rattle.oe_kernel.specs.Borders.{border_position}
use Rattle.oe_kernel.specs.Convolution.{reach}
use Rattle.oe_kernel.specs.Rows.{pixel_in}
use Rattle.oe_kernel.specs.Strips.{at}
use Rattle.oe_kernel.proofs.pixels.unpack_each.Given as goal

abbrev pub invariant-loop-t : goal.invariant-loop-t
invariant-loop-t l = record {
  same : (j : ℕ) → j < l.t → pixel_in l.border l.replace l.cells l.from (border_position l.border (reach l.x j l.size) l.side) ≡ Number (whole_of (at l.pixels (l.start + j)));
  size : (j : ℕ) → j < l.t → unsigned_abs (at l.pixels (l.start + j)) ≤ l.bound;
  before : (n : ℕ) → n < l.start → at l.pixels n ≡ at l.initial.pixels n;
}
