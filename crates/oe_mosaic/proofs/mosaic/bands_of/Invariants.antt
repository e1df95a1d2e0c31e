use Rattle.std.proofs.Common.{◌≡◌, drop, map}
use Rattle.std.specs.Option.{option_map}
use Rattle.oe_dims.specs.Lists.{items_of}
use Rattle.oe_mosaic.specs.Labels.{bands_with}
use Rattle.oe_mosaic.specs.Mosaics.{bands_of_parts, parts_of}
use Rattle.oe_mosaic.proofs.mosaic.bands_of.Given as goal

abbrev pub invariant-loop-item : goal.invariant-loop-item
invariant-loop-item g l =
    bands_with (option_map items_of l.names) (map (λ part. part.shape.bands) (parts_of g.S.CubeSource.seen (drop l.item-index l.items)))
    ≡ bands_of_parts (parts_of g.S.CubeSource.seen l.items)
