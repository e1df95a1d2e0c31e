use Rattle.std.proofs.Common.{◌-◌, List, ℤ, sym, subst}
use Rattle.std.specs.List.{Contains}
use Rattle.oe_dims.specs.Dimensions.{number_labels}
use Rattle.oe_mosaic.proofs.CountLemmas.{piece_all}
use Rattle.oe_mosaic.proofs.place.numbers_along.Goals as goal

pub numbers_among-requires-clause-all : goal.numbers_among-requires-clause-all
numbers_among-requires-clause-all c =
    let span = c.args.span in
    let own = number_labels c.args.part.now c.args.kind in
    piece_all c.args.kind c.labels-labels.result.now own span.from (span.to - span.from) c.labels-labels.ensures.order
    (λ label in_. subst (λ (l : List ℤ). Contains l label) (sym c.labels-labels.ensures.value) (c.requires.all c.args.kind label in_))
