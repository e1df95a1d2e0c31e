use Rattle.std.proofs.Common.{◌≢◌, take}
use Rattle.std.specs.List.{All}
use Rattle.oe_cell.specs.declared.cell.Cell.TheVariants.{Over}
use Rattle.oe_render.proofs.batch.numbered_count.Given as goal

abbrev pub invariant-loop-index : goal.invariant-loop-index
invariant-loop-index l = All (λ c. c ≢ Over) (take l.index l.cells)
