use Rattle.std.proofs.Common.{rules, FitsSigned, w64, arith}
use Rattle.std.proofs.lemmas.Int.{to_z-of_z}
use Rattle.std.proofs.lemmas.Grind.{common_steps}
use Rattle.oe_dims.specs.Dimensions.{number_labels}
use Rattle.oe_mosaic.proofs.CountLemmas.{count_decides, own_order}
use Rattle.oe_mosaic.proofs.PlaceLemmas.{range_apart}
use Rattle.oe_mosaic.proofs.place.numbers_among.Goals as goal

pub returns-then-first-end : goal.returns-then-first-end
returns-then-first-end c =
    let fits_least : FitsSigned w64 c.ends_of-least.result.0 = search rules in
    let fits_greatest : FitsSigned w64 c.ends_of-least.result.1 = search rules in
    let run = simp to_z-of_z at c.range_of-first.ensures.run in
    range_apart c.args.labels.now (number_labels c.args.part.now c.args.kind) c.ends_of-least.result.0 c.ends_of-least.result.1 _ _ c.if-first-end.true run c.ends_of-least.ensures.inside

pub returns-then-end-first : goal.returns-then-end-first
returns-then-end-first c =
    let fits_least : FitsSigned w64 c.ends_of-least.result.0 = search rules in
    let fits_greatest : FitsSigned w64 c.ends_of-least.result.1 = search rules in
    let run = simp to_z-of_z at c.range_of-first.ensures.run in
    count_decides c.args.kind c.args.labels.now (number_labels c.args.part.now c.args.kind) c.ends_of-least.result.0 c.ends_of-least.result.1 _ _
    c.requires.order (own_order c.args.kind c.args.part.now c.range_of-first.ensures.valid) c.requires.all c.ends_of-least.ensures.least c.ends_of-least.ensures.greatest
    run c.if-end-first.true

pub returns-in-None : goal.returns-in-None
returns-in-None c = grind (arith, common_steps) steps 2000000
