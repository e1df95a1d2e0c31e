use Rattle.std.proofs.Common.{◌≡◌, ◌<◌, ◌^◌, ℤ, pos, ◌-ℤ◌, neg_ℤ, ◌≤ℤ◌, FitsSigned, to_z, of_z, ap, ◌∙◌, arith}
use Rattle.std.specs.Prelude.{unsigned_abs}
use Rattle.std.specs.Int.{w128, int_rem_euclid}
use Rattle.std.proofs.lemmas.Int.{ints}
use Rattle.oe_cell.proofs.FloorLemmas.{rest_negative}
use Rattle.oe_cell.proofs.wide.floor_rest.Goals as goal

opposite : (z : ℤ) → FitsSigned w128 z → unsigned_abs z < 2 ^ 126 → to_z w128 (of_z w128 (pos 0 -ℤ to_z w128 (of_z w128 z))) ≡ neg_ℤ z
opposite z fits small = omega (arith, ints)

pub returns : goal.returns
returns c =
    let x = c.args.x in
    let y = c.args.y in
    let out : to_z w128 (of_z w128 (pos 0 -ℤ to_z w128 (of_z w128 c.rem_euclid-rest.result))) ≡ neg_ℤ c.rem_euclid-rest.result = omega (arith, ints) in
    let below : y ≤ℤ pos 0 = omega (arith, ints, c.if-y-gt0.false) in
    let rest : c.rem_euclid-rest.result ≡ int_rem_euclid (neg_ℤ x) (neg_ℤ y) = c.rem_euclid-rest.ensures.value ∙ ap (λ (z : ℤ). int_rem_euclid z (to_z w128 (of_z w128 (pos 0 -ℤ to_z w128 (of_z w128 y))))) (opposite x c.ranges.x c.requires.x_fits) ∙ ap (λ (z : ℤ). int_rem_euclid (neg_ℤ x) z) (opposite y c.ranges.y c.requires.y_fits) in
    out ∙ ap neg_ℤ rest ∙ rest_negative x y below c.requires.some
