use Rattle.std.proofs.Common.{take}
use Rattle.oe_fold.specs.Progress.{HasSeen}
use Rattle.oe_fold.proofs.reduce.scan.Given as goal

abbrev pub invariant-loop-cell : goal.invariant-loop-cell
invariant-loop-cell l = HasSeen l.pass l.fn.reducer l.fn.ignore (take l.cell-index l.cells)
