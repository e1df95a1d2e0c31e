use Rattle.std.proofs.Common.{◌∙◌, sym, subst, ap}
use Rattle.oe_cell.specs.Operations.{divide_of}
use Rattle.oe_cell.specs.declared.cell.Cell.{Cell}
use Rattle.oe_fold.specs.Counted.{counted_cells}
use Rattle.oe_fold.specs.Progress.{IsTallyOf}
use Rattle.oe_fold.specs.Reduction.{IsResultOfCounted}
use Rattle.oe_fold.specs.declared.reducer.Reducer.{Reducer}
use Rattle.oe_fold.proofs.SettleLemmas.{settled_null, settled_mean, settled_value}
use Rattle.oe_fold.proofs.tally.settle_counted.Goals as goal

pub returns-then-tally : goal.returns-then-tally
returns-then-tally c = λ skips cells seen known fits.
    settled_null c.args.reducer skips cells c.args.tally seen known c.if-tally.true

pub returns-in-Mean : goal.returns-in-Mean
returns-in-Mean c = λ skips cells seen known fits.
    subst (λ (r : Reducer). IsResultOfCounted r (counted_cells skips cells) c.divide.result) (sym c.in-Mean.is) (settled_mean skips cells c.args.tally known c.divide.result (subst (λ (r : Reducer). IsTallyOf r skips cells c.args.tally) c.in-Mean.is seen) c.if-tally.false (c.divide.ensures.value ∙ ap (λ (n : Cell). divide_of c.args.tally.value n) c.whole.ensures))

pub returns-in_default : goal.returns-in_default
returns-in_default c = λ skips cells seen known fits.
    settled_value skips cells c.args.tally known c.args.reducer seen fits c.if-tally.false c.in_default.not-Mean c.requires.median (c.requires.count, c.requires.count_all)
