use Rattle.std.proofs.Common.{◌≡◌, ℕ, ◌<◌, ◌≤◌, slice_index_or}
use Rattle.oe_cell.specs.declared.cell.Cell.TheVariants.{Empty}
use Rattle.oe_meanings.specs.Meaning.{covered_by}
use Rattle.oe_ops.proofs.cover.cover_row.Given as goal

-- done up to an index, and from there on as it was
abbrev pub invariant-loop-k : goal.invariant-loop-k
invariant-loop-k l =
    ((k : ℕ) → k < l.k → slice_index_or l.out k Empty ≡ covered_by l.replacement (slice_index_or l.initial.out k Empty) (slice_index_or l.cells k Empty))
    × ((k : ℕ) → l.k ≤ k → slice_index_or l.out k Empty ≡ slice_index_or l.initial.out k Empty)
