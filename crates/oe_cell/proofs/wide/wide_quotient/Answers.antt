use Rattle.std.proofs.Common.{◌≡◌, pos, FitsSigned, arith}
use Rattle.std.specs.Prelude.{int_div}
use Rattle.std.specs.Int.{w128}
use Rattle.std.proofs.lemmas.Int.{ints, to_z-of_z, quot_fits}
use Rattle.oe_cell.proofs.Scale.{scale-div}
use Rattle.oe_cell.proofs.wide.wide_quotient.Goals as goal

pub returns : goal.returns
returns c =
    let n = c.args.num in
    let k = c.args.by in
    let divisor : c.from.result ≡ pos k = search (arith, c.from.ensures) in
    let fits : FitsSigned w128 (int_div n (pos k)) = quot_fits w128 n (pos k) c.ranges.num (omega (arith, ints)) in
    let wide : FitsSigned w128 (pos k) = omega (arith, ints) in
    record {
      value = rw (divisor, to_z-of_z w128 (pos k) wide, to_z-of_z w128 n c.ranges.num, to_z-of_z w128 (int_div n (pos k)) fits) (scale-div n k c.requires.divides);
    }
