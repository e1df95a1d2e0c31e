use Rattle.oe_render.specs.CubeText.{SpellsTime}
use Rattle.oe_render.proofs.Ahead.{Ahead}
use Rattle.oe_render.proofs.dimensions.read_instants.Given as goal

abbrev pub invariant-loop-value : goal.invariant-loop-value
invariant-loop-value l = Ahead SpellsTime l.values l.value-index l.read.items
