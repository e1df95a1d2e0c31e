-- The cells of two rows as one, where each has a label or has not.
use Rattle.std.specs.Prelude.{◌≡◌, ◌<◌, ℕ, ◌+◌, true, List, length, Option, Some, None, is_some, slice_index_or}
use Rattle.oe_cell.specs.declared.cell.Cell.{Cell}
use Rattle.oe_cell.specs.declared.cell.Cell.TheVariants.{Empty}
use Rattle.oe_dims.specs.Dimensions.{Dimensions}
use Rattle.oe_dims.specs.declared.kind.Kind.TheVariants.{X}
use Rattle.oe_ops.specs.Indices.{index_in_argument}

-- of the cells of both rows at a label, and a third where both have it: the one of the row that has the label; the
-- first, where none has it
abbrev pub where_found : Option ℕ → Option ℕ → Cell → Cell → Cell → Cell
where_found one None a b both = a
where_found None (Some j) a b both = b
where_found (Some i) (Some j) a b both = both

-- the same of the label at an index along x of a result of two arguments
abbrev pub where_found_at : Dimensions → Dimensions → Dimensions → ℕ → Cell → Cell → Cell → Cell
where_found_at shape one two x =
    where_found (index_in_argument X shape one x) (index_in_argument X shape two x)

-- the same of each label from an index along x on: these are the cells of one row
abbrev pub AreWhereFound : Dimensions → Dimensions → Dimensions → ℕ → List Cell → List Cell → List Cell → List Cell → Type 0
AreWhereFound shape one two x ones twos both out =
    (k : ℕ) → k < length both → slice_index_or out k Empty ≡ where_found_at shape one two (x + k)
    (slice_index_or ones k Empty) (slice_index_or twos k Empty) (slice_index_or both k Empty)

-- both rows have the label
pub record AreBothFound (one two : Option ℕ) : Type 0 where
  pub one_found : is_some one ≡ true
  pub two_found : is_some two ≡ true
