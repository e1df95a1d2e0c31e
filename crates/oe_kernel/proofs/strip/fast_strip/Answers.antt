use Rattle.std.proofs.Common.{◌+◌, rules, get_or}
use Rattle.oe_cell.specs.Exact.{cell_of_lowest}
use Rattle.oe_cell.specs.declared.cell.Cell.TheVariants.{Empty}
use Rattle.oe_kernel.specs.Strips.{at}
use Rattle.oe_kernel.proofs.StripLemmas.{strip_convolved}
use Rattle.oe_kernel.proofs.strip.fast_strip.Goals as goal

pub returns-clause-value : goal.returns-clause-value
returns-clause-value c = λ yes whole part k h.
    strip_convolved c.args.kernel.now c.args.factor c.args.border.now c.args.replace c.args.plane.now whole c.args.y (c.args.x + k) (get_or c.write_cells.new.out (c.args.start + k) Empty) (cell_of_lowest (at c.sum_strip.new.sums k) 1) part c.requires.strip.windows.rows (c.requires.strip.windows.columns k h) (c.sum_strip.ensures.value c.if-not-sum_strip.false k (search rules)) (c.write_cells.ensures.value k (search rules))
