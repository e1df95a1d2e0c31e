use Rattle.oe_render.specs.CubeText.{SpellsCell}
use Rattle.oe_render.proofs.Ahead.{Ahead}
use Rattle.oe_render.proofs.cells.read_cells.Given as goal

abbrev pub invariant-loop-value : goal.invariant-loop-value
invariant-loop-value l = Ahead SpellsCell l.values l.value-index l.cells.items
