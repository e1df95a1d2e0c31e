use Rattle.std.proofs.Common.{◌≡◌, ℕ, ◌+◌, ◌<◌, ◌≤◌, slice_index_or}
use Rattle.oe_cell.specs.declared.cell.Cell.TheVariants.{Empty}
use Rattle.oe_dims.specs.declared.kind.Kind.TheVariants.{X}
use Rattle.oe_ops.specs.Indices.{index_in_argument}
use Rattle.oe_ops.specs.Joins.{where_found}
use Rattle.oe_ops.proofs.merge.mend_row.Given as goal

-- done up to an index, and from there on as it was
abbrev pub invariant-loop-k : goal.invariant-loop-k
invariant-loop-k l =
    ((k : ℕ) → k < l.k → slice_index_or l.out k Empty ≡ where_found (index_in_argument X l.one.shape.now l.one.argument.now (l.x + k)) (index_in_argument X l.one.shape.now l.two.argument.now (l.x + k)) (slice_index_or l.ones k Empty) (slice_index_or l.twos k Empty) (slice_index_or l.initial.out k Empty))
    × ((k : ℕ) → l.k ≤ k → slice_index_or l.out k Empty ≡ slice_index_or l.initial.out k Empty)
