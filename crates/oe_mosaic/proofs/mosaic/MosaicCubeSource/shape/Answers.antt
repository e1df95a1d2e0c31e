use Rattle.std.proofs.Common.{IfSome, subst}
use Rattle.oe_cube.specs.Collections.{IsCollection}
use Rattle.oe_dims.specs.Dimensions.{IsShape}
use Rattle.oe_mosaic.specs.Mosaics.{parts_of}
use Rattle.oe_mosaic.specs.MosaicStates.{MosaicState, source_of}
use Rattle.oe_mosaic.proofs.MosaicLemmas.{contents_sound}
use Rattle.oe_sources.specs.Source.{collection_with}
use Rattle.oe_mosaic.proofs.mosaic.MosaicCubeSource.shape.Goals as goal

pub returns-clause-sound : goal.returns-clause-sound
returns-clause-sound g c =
    let seen = g.S.CubeSource.seen in
    let parts = parts_of seen c.self.inside.items.items in
    subst (λ (m : MosaicState _). IfSome (source_of seen m).contents (λ k. IsCollection (collection_with (source_of seen m).shape (source_of seen m).kind k))) c.self.view_is
    (contents_sound parts c.self.invariant.0 (subst IsShape c.self.invariant.1 c.epsg-epsg.ensures.valid))
