use Rattle.std.proofs.Common.{◌≡◌, ◌<◌, ◌≤◌, ◌+◌, ◌*◌, ℕ}
use Rattle.std.specs.Prelude.{unsigned_abs}
use Rattle.oe_cell.specs.Rational.{whole_of}
use Rattle.oe_cell.specs.declared.cell.Cell.TheVariants.{Number}
use Rattle.oe_kernel.specs.Strips.{at, pixel_from}
use Rattle.oe_kernel.proofs.pixels.unpack_rows.Given as goal

abbrev pub invariant-loop-row : goal.invariant-loop-row
invariant-loop-row l = record {
  same : (row t : ℕ) → row < l.row → t < l.stride → pixel_from l.kernel l.border l.replace l.plane l.y l.x row t ≡ Number (whole_of (at l.pixels (row * l.stride + t)));
  size : (n : ℕ) → n < l.row * l.stride → unsigned_abs (at l.pixels n) ≤ l.bound;
}
