use Rattle.std.proofs.Common.{◌≡◌, drop, map}
use Rattle.std.specs.Option.{option_map}
use Rattle.oe_dims.specs.Lists.{items_of}
use Rattle.oe_dims.specs.Dimensions.{numbers_along}
use Rattle.oe_mosaic.specs.Labels.{labels_with}
use Rattle.oe_mosaic.specs.Mosaics.{labels_of_parts, parts_of}
use Rattle.oe_mosaic.proofs.mosaic.labels_of.Given as goal

abbrev pub invariant-loop-item : goal.invariant-loop-item
invariant-loop-item g l =
    labels_with l.kind (option_map items_of l.labels) (map (λ part. numbers_along l.kind part.shape) (parts_of g.S.CubeSource.seen (drop l.item-index l.items)))
    ≡ labels_of_parts l.kind (parts_of g.S.CubeSource.seen l.items)
