use Rattle.oe_fold.proofs.TallyLemmas.{HasSeen-more}
use Rattle.oe_fold.proofs.reduce.scan.Goals as goal

pub loop-cell-preserved : goal.loop-cell-preserved
loop-cell-preserved c =
    HasSeen-more c.loop-cell.pass c.push.new.self c.args.reducer c.args.ignore c.args.cells.now c.loop-cell.cell-index c.cell-item.result c.loop-cell-test.true c.cell-item.is c.loop-cell.invariant c.push.ensures.seen
