use Rattle.oe_render.specs.CubeText.{SpellsName}
use Rattle.oe_render.proofs.Ahead.{Ahead}
use Rattle.oe_render.proofs.dimensions.read_names.Given as goal

abbrev pub invariant-loop-value : goal.invariant-loop-value
invariant-loop-value l = Ahead SpellsName l.values l.value-index l.read.items
