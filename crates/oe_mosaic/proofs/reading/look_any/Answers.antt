use Rattle.oe_mosaic.specs.Mosaics.{parts_of}
use Rattle.oe_mosaic.proofs.MosaicLemmas.{empty_read}
use Rattle.oe_mosaic.proofs.reading.look_any.Goals as goal

pub returns-then-is_empty : goal.returns-then-is_empty
returns-then-is_empty g c =
    empty_read (parts_of g.S.CubeSource.seen c.args.items.now) c.args.shape.now c.args.window.now c.args.into.now (c.is_empty.ensures.0 c.if-is_empty.true) c.requires.room
