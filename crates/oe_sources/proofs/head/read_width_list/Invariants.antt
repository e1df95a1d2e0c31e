use Rattle.oe_render.proofs.Ahead.{Ahead}
use Rattle.oe_sources.specs.HeadRead.{SpellsWidth}
use Rattle.oe_sources.proofs.head.read_width_list.Given as goal

abbrev pub invariant-loop-value : goal.invariant-loop-value
invariant-loop-value l = Ahead SpellsWidth l.values l.value-index l.widths.items
