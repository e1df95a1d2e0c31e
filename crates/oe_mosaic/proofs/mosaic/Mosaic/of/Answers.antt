use Rattle.std.proofs.Common.{rules, ◌<◌, List, length, subst}
use Rattle.oe_dims.specs.Dimensions.{IsShape}
use Rattle.oe_mosaic.specs.Mosaics.{mosaic_shape, parts_of}
use Rattle.oe_mosaic.specs.MosaicStates.{PassesLimit}
use Rattle.oe_mosaic.proofs.LimitLemmas.{limits_passed, when_none}
use Rattle.oe_mosaic.proofs.mosaic.Mosaic.of.Goals as goal

pub returns-in-Ok-None-clause-refused : goal.returns-in-Ok-None-clause-refused
returns-in-Ok-None-clause-refused g c =
    let seen = g.S.CubeSource.seen in
    let items = c.parts.inside.items.items in
    let some : 0 < length items = search rules in
    let broken = subst (λ (l : List _). ¬ IsShape (mosaic_shape (parts_of seen l))) c.deref.ensures.value (when_none _ c.in-Ok-None.field-0 c.in-Ok-None.field-0-is c.in-Ok-None.ensures) in
    subst (λ (l : List _). PassesLimit (mosaic_shape (parts_of seen l))) c.parts.view_is (limits_passed seen items c.parts.invariant some broken)
