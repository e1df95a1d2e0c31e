use Rattle.std.proofs.Common.{sym, arith}
use Rattle.oe_spool.proofs.LeastOnWindow.{over_within, none_on_window, first_on_window}
use Rattle.oe_spool.proofs.least.least_over.Goals as goal

pub number_at-requires-clause-index : goal.number_at-requires-clause-index
number_at-requires-clause-index c =
    let below = over_within c.args.cells.now c.in-Some.index (sym c.in-Some.ensures) in
    omega (arith, c.requires.counted)

pub returns-in-None : goal.returns-in-None
returns-in-None c = none_on_window c.args.shape.now c.args.window.now c.args.cells.now (sym c.in-None.ensures)

pub returns-in-Some : goal.returns-in-Some
returns-in-Some c =
    first_on_window c.args.shape.now c.args.window.now c.args.cells.now c.in-Some.index c.number_at.result c.number_at.ensures.rising (sym c.in-Some.ensures) c.number_at.ensures.number
