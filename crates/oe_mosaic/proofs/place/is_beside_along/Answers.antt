use Rattle.std.proofs.Common.{◌-◌, List, ℤ, take, drop, subst, sym, ◌∙◌}
use Rattle.oe_dims.specs.Dimensions.{number_labels}
use Rattle.oe_dims.specs.Indices.{same_number}
use Rattle.oe_mosaic.specs.Places.{LieAmong}
use Rattle.oe_mosaic.proofs.PlaceLemmas.{numbers_both}
use Rattle.oe_mosaic.specs.declared.place.Along.TheVariants.{Apart}
use Rattle.oe_mosaic.proofs.place.is_beside_along.Goals as goal

pub returns-in-Some-Some : goal.returns-in-Some-Some
returns-in-Some-Some c = λ is.
    let span = c.args.span in
    let own = number_labels c.args.part.now c.args.kind in
    let lie = subst (λ (l : List ℤ). LieAmong same_number (take (span.to - span.from) (drop span.from l)) own Apart) c.labels-labels.ensures.value (c.stand_beside.ensures is) in
    numbers_both c.args.kind c.args.shape.now c.args.part.now span c.in-Some-Some.field-0-0 c.in-Some-Some.field-0-1 Apart
    c.requires.numbers c.requires.some c.requires.within (sym c.count.ensures.value ∙ c.in-Some-Some.is-0) (sym c.count-2.ensures.value ∙ c.in-Some-Some.is-1) lie
