use Rattle.oe_mosaic.specs.Mosaics.{parts_of}
use Rattle.oe_mosaic.specs.Readings.{AreApart}
use Rattle.oe_mosaic.proofs.reading.find.Given as goal

abbrev pub invariant-loop-index : goal.invariant-loop-index
invariant-loop-index g l = AreApart (parts_of g.S.CubeSource.seen l.items) l.shape l.window l.index
