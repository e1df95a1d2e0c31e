use Rattle.std.proofs.Common.{rules, List, ℤ, FitsSigned, w64, subst}
use Rattle.std.proofs.lemmas.Int.{to_z-of_z}
use Rattle.oe_dims.specs.Indices.{same_number}
use Rattle.oe_mosaic.specs.Places.{LieAmong}
use Rattle.oe_mosaic.specs.declared.place.Along.TheVariants.{Apart}
use Rattle.oe_mosaic.proofs.PlaceLemmas.{above_apart, below_apart}
use Rattle.oe_mosaic.proofs.place.stand_beside.Goals as goal

pub returns-then-greatest-own_least : goal.returns-then-greatest-own_least
returns-then-greatest-own_least c = λ is.
    let fits : FitsSigned w64 c.ends_of-least.result.1 = search rules in
    let fits_own : FitsSigned w64 c.ends_of-own_least.result.0 = search rules in
    let less = simp to_z-of_z at is in
    subst (λ (own : List ℤ). LieAmong same_number c.args.labels.now own Apart) c.labels-own.ensures.value
    (below_apart c.args.labels.now c.labels-own.result.now c.ends_of-least.result.0 c.ends_of-least.result.1 c.ends_of-own_least.result.0 c.ends_of-own_least.result.1
    c.ends_of-least.ensures.inside c.ends_of-own_least.ensures.inside less)

pub returns-else-greatest-own_least : goal.returns-else-greatest-own_least
returns-else-greatest-own_least c = λ is.
    let fits : FitsSigned w64 c.ends_of-least.result.0 = search rules in
    let fits_own : FitsSigned w64 c.ends_of-own_least.result.1 = search rules in
    let less = simp to_z-of_z at is in
    subst (λ (own : List ℤ). LieAmong same_number c.args.labels.now own Apart) c.labels-own.ensures.value
    (above_apart c.args.labels.now c.labels-own.result.now c.ends_of-least.result.0 c.ends_of-least.result.1 c.ends_of-own_least.result.0 c.ends_of-own_least.result.1
    c.ends_of-least.ensures.inside c.ends_of-own_least.ensures.inside less)
