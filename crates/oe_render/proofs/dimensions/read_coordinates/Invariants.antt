use Rattle.oe_render.specs.CubeText.{SpellsCoordinate}
use Rattle.oe_render.proofs.Ahead.{Ahead}
use Rattle.oe_render.proofs.dimensions.read_coordinates.Given as goal

abbrev pub invariant-loop-value : goal.invariant-loop-value
invariant-loop-value l = Ahead SpellsCoordinate l.values l.value-index l.read.items
