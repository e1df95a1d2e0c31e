use Rattle.std.proofs.Common.{◌<◌, length, sym, subst, arith}
use Rattle.std.proofs.lemmas.List.{get_or_read}
use Rattle.std.proofs.lemmas.Grind.{common_steps}
use Rattle.oe_dims.specs.Dimensions.{Dimensions}
use Rattle.oe_mosaic.specs.Places.{HasBox, HasNumbersOf}
use Rattle.oe_mosaic.proofs.FindLemmas.{found_in, numbers_of_part, place_within}
use Rattle.oe_mosaic.proofs.reading.find.Goals as goal

pub place_of-requires-clause-all : goal.place_of-requires-clause-all
place_of-requires-clause-all g c =
    let seen = g.S.CubeSource.seen in
    let items = c.args.items.now in
    let k = c.loop-index.index in
    let item = c.index-items-index.result in
    let below : k < length items = omega (arith, c.loop-index-test.true) in
    let is = get_or_read items k item below c.index-items-index.is item in
    subst (HasNumbersOf c.args.shape.now) (sym c.shape.ensures.value) (numbers_of_part seen items c.args.shape.now k item below is c.requires.labels)

pub returns-in-Box : goal.returns-in-Box
returns-in-Box g c =
    let seen = g.S.CubeSource.seen in
    let items = c.args.items.now in
    let k = c.loop-index.index in
    let item = c.index-items-index.result in
    let below : k < length items = omega (arith, c.loop-index-test.true) in
    let is = get_or_read items k item below c.index-items-index.is item in (
      place_within seen items k below,
      c.loop-index.invariant,
      found_in seen items c.args.shape.now c.args.window.now c.in-Box.part k item below is (subst (λ (s : Dimensions). HasBox c.args.shape.now s c.args.window.now c.in-Box.part) c.shape.ensures.value c.in-Box.ensures),
    )

pub returns : goal.returns
returns g c = grind (arith, common_steps) steps 2000000
