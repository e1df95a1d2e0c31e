-- How far the one pass over a list has come. `HasSeen`, `reducer_of` and `count_of` are for the callers of a pass. For
-- private functions: all that stands before them, which says how a pass gets there.
use Rattle.std.specs.Prelude.{◌≡◌, ℕ, ◌+◌, ◌==◌, ◌≤◌, Bool, true, false, cond, ◌||◌, List, length, All, unwrap_or}
use Rattle.std.specs.List.{list_any, reduce}
use Rattle.oe_cell.specs.Cells.{IsCell}
use Rattle.oe_cell.specs.Operations.{add_of, multiply_of, or_of, and_of}
use Rattle.oe_cell.specs.declared.cell.Cell.{Cell}
use Rattle.oe_cell.specs.declared.cell.Cell.TheVariants.{Empty}
use Rattle.oe_cell.specs.Kinds.{is_over}
use Rattle.oe_fold.specs.Counted.{is_counted, counted_cells}
use Rattle.oe_fold.specs.Order.{is_before}
use Rattle.oe_fold.specs.Reduction.{makes_null}
use Rattle.oe_fold.specs.declared.reducer.Reducer.{Reducer}
use Rattle.oe_fold.specs.declared.reducer.Reducer.TheVariants.{Sum, Product, Mean, Min, Max, Median, First, Last, Any, All as EveryOne, Count, CountAll}
use Rattle.oe_fold.specs.declared.tally.Tally.{Tally}
use Rattle.oe_fold.specs.declared.pass.Pass.{Pass}

-- whether nulls are left out: by `Count` always, by `CountAll` never, and else where they are ignored
abbrev pub skips_nulls : Reducer → Bool → Bool
skips_nulls Count ignore = true
skips_nulls CountAll ignore = false
skips_nulls Sum ignore = ignore
skips_nulls Product ignore = ignore
skips_nulls Mean ignore = ignore
skips_nulls Min ignore = ignore
skips_nulls Max ignore = ignore
skips_nulls Median ignore = ignore
skips_nulls First ignore = ignore
skips_nulls Last ignore = ignore
skips_nulls Any ignore = ignore
skips_nulls EveryOne ignore = ignore

-- what stands for two cells, the first of which stands for all before
abbrev pub join_of : Reducer → Cell → Cell → Cell
join_of Sum x y = add_of x y
join_of Mean x y = add_of x y
join_of Product x y = multiply_of x y
join_of Min x y = cond (is_before y x) y x
join_of Max x y = cond (is_before x y) y x
join_of Any x y = or_of x y
join_of EveryOne x y = and_of x y
join_of Last x y = y
join_of First x y = x
join_of Median x y = x
join_of Count x y = x
join_of CountAll x y = x

-- the same, where there may be none before
abbrev pub join_to_of : Reducer → ℕ → Cell → Cell → Cell
join_to_of r before x y = cond (before == 0) y (join_of r x y)

-- the tally before the first cell
abbrev pub no_cells : Tally
no_cells = record { over = false; null = false; count = 0; value = Empty }

-- what one more cell makes of a tally
abbrev pub step_of : Reducer → Bool → Tally → Cell → Tally
step_of r skips p x = record {
  over = p.over || is_over x;
  null = cond (is_counted skips x) (p.null || makes_null r x) p.null;
  count = cond (is_counted skips x) (p.count + 1) p.count;
  value = cond (is_counted skips x) (join_to_of r p.count p.value x) p.value;
}

-- what a tally knows of the cells that it is of
pub record IsTallyOf (r : Reducer) (skips : Bool) (cells : List Cell) (p : Tally) : Type 0 where
  pub over : p.over ≡ list_any is_over cells
  pub null : p.null ≡ list_any (makes_null r) (counted_cells skips cells)
  pub count : p.count ≡ length (counted_cells skips cells)
  pub value : p.value ≡ unwrap_or (reduce (join_of r) (counted_cells skips cells)) Empty

-- the reducer of a pass
abbrev pub reducer_of : Pass → Reducer
reducer_of p = p.reducer

-- how many of the cells that a pass saw count
abbrev pub count_of : Pass → ℕ
count_of p = p.tally.count

-- a pass by a reducer saw these cells, in their order
pub record HasSeen (p : Pass) (r : Reducer) (ignore : Bool) (cells : List Cell) : Type 0 where
  pub reducer : reducer_of p ≡ r
  pub skips : p.skips ≡ skips_nulls r ignore
  pub tally : IsTallyOf r (skips_nulls r ignore) cells p.tally
  pub known : All IsCell cells
  pub within : count_of p ≤ length cells
