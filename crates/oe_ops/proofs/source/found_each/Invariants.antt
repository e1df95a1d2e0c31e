use Rattle.std.proofs.Common.{◌≡◌, ℕ, ◌+◌, ◌<◌, slice_index_or, unwrap_or}
use Rattle.std.specs.Option.{option_map}
use Rattle.oe_cell.specs.declared.cell.Cell.TheVariants.{Empty}
use Rattle.oe_dims.specs.declared.kind.Kind.TheVariants.{X}
use Rattle.oe_ops.specs.Indices.{index_in_argument, position_on}
use Rattle.oe_ops.specs.Slices.{cell_of}
use Rattle.oe_ops.proofs.source.found_each.Given as goal

abbrev pub invariant-loop-k : goal.invariant-loop-k
invariant-loop-k l = (k : ℕ) → k < l.k → slice_index_or l.out k Empty ≡ unwrap_or (option_map (λ i. cell_of l.source.slice (position_on l.row i)) (index_in_argument X l.source.shape.now l.source.argument.now (l.x + k))) Empty
