use Rattle.std.proofs.Common.{arith}
use Rattle.oe_wide.proofs.WidthLemmas.{least-more, least-all}
use Rattle.oe_wide.proofs.width.common_width.Goals as goal

pub loop-cell-preserved : goal.loop-cell-preserved
loop-cell-preserved c =
    least-more c.args.cells.now c.loop-cell.cell-index c.cell-item.result c.loop-cell.width c.least_width.result c.wider-width.result (omega (arith, c.loop-cell-test.true, c.loop-cell.auto.cell-index-end)) c.cell-item.is c.wider-width.ensures c.loop-cell.invariant c.least_width.ensures

pub returns : goal.returns
returns c =
    least-all c.args.cells.now c.loop-cell.cell-index c.loop-cell.width (omega (arith, c.loop-cell-test.false, c.loop-cell.auto.cell-index-end)) c.loop-cell.invariant
