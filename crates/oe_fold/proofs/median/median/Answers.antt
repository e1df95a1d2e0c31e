use Rattle.std.proofs.Common.{◌<◌, arith}
use Rattle.oe_fold.specs.declared.reducer.Reducer.TheVariants.{Median}
use Rattle.oe_fold.proofs.SettleLemmas.{settled_over, median_null, median_none, median_middle}
use Rattle.oe_fold.proofs.median.median.Goals as goal

pub returns-then-tally : goal.returns-then-tally
returns-then-tally c =
    settled_over Median c.args.ignore c.args.cells.now c.args.tally c.requires.tally c.requires.known c.args.ignore c.if-tally.true

pub returns-then-tally-2 : goal.returns-then-tally-2
returns-then-tally-2 c =
    median_null c.args.ignore c.args.cells.now c.args.tally c.requires.known c.requires.tally c.if-tally.false c.if-tally-2.true

pub returns-then-tally-eq0 : goal.returns-then-tally-eq0
returns-then-tally-eq0 c =
    median_none c.args.ignore c.args.cells.now c.args.tally c.requires.known c.requires.tally c.if-tally.false c.if-tally-eq0.true

pub returns : goal.returns
returns c =
    let some : 0 < c.args.tally.count = omega arith in
    median_middle c.args.ignore c.args.cells.now c.args.tally c.requires.known c.requires.tally c.if-tally.false c.middle_of_counted.result c.if-tally-2.false some c.middle_of_counted.ensures
