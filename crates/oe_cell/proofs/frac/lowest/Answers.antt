use Rattle.std.proofs.Common.{◌≡◌, ◌<◌, ◌^◌, w64, ℤ, FitsSigned, to_z, of_z, sym, ap, ◌∙◌, arith}
use Rattle.std.specs.Prelude.{unsigned_abs}
use Rattle.std.specs.Int.{w128}
use Rattle.std.proofs.lemmas.Int.{ints, to_z-of_z, fits_signed_from_abs}
use Rattle.oe_cell.proofs.ExactLemmas.{cell_of_lowest-number, cell_of_lowest-over}
use Rattle.oe_cell.proofs.frac.lowest.Goals as goal
use Rattle.oe_cell.proofs.frac.lowest.Goals.{then-unsigned_abs-from-via-then-unsigned_abs-from, then-unsigned_abs-from-via-else-unsigned_abs-from+then-den-from}

pub returns-then-unsigned_abs-from : goal.returns-then-unsigned_abs-from
returns-then-unsigned_abs-from c =
    elim c.then-unsigned_abs-from.branch [
      | then-unsigned_abs-from-via-then-unsigned_abs-from w ↦
          sym (cell_of_lowest-over c.args.num c.args.den (λ h. omega (arith, ints)))
      | then-unsigned_abs-from-via-else-unsigned_abs-from+then-den-from w ↦
          sym (cell_of_lowest-over c.args.num c.args.den (λ h. omega (arith, ints)))
    ]

narrow : (z : ℤ) → FitsSigned w128 z → unsigned_abs z < 2 ^ 63 → to_z w64 (of_z w64 (to_z w128 (of_z w128 z))) ≡ z
narrow z wide fits =
    ap (λ (x : ℤ). to_z w64 (of_z w64 x)) (to_z-of_z w128 z wide) ∙ to_z-of_z w64 z (fits_signed_from_abs w64 z fits)

pub invariant_of-result : goal.invariant_of-result
invariant_of-result c =
    let size : unsigned_abs c.args.num < 2 ^ 63 = omega (arith, ints) in
    rw (narrow c.args.num c.ranges.num size) (record {
      num_fits = size;
      den_positive = c.requires.some;
      den_fits = omega arith;
      reduced = c.requires.coprime;
    })

pub returns : goal.returns
returns c =
    let size : unsigned_abs c.args.num < 2 ^ 63 = omega (arith, ints) in
    let small : c.args.den < 2 ^ 63 = omega arith in
    rw (narrow c.args.num c.ranges.num size) (sym (cell_of_lowest-number c.args.num c.args.den (record { num_fits = size; den_fits = small })))
