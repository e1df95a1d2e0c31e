use Rattle.std.proofs.Common.{◌≡◌, sym, subst}
use Rattle.oe_fold.specs.Value.{reduction_of}
use Rattle.oe_fold.specs.Progress.{skips_nulls, IsTallyOf}
use Rattle.oe_fold.specs.declared.reducer.Reducer.{Reducer}
use Rattle.oe_fold.proofs.SettleLemmas.{settled_over, without_over, settled_count, settled_count_all, settled_counted}
use Rattle.oe_fold.proofs.tally.settle.Goals as goal

pub returns-then-tally : goal.returns-then-tally
returns-then-tally c = λ ignore cells seen known.
    settled_over c.args.reducer (skips_nulls c.args.reducer ignore) cells c.args.tally seen known ignore c.if-tally.true

pub returns-in-Count : goal.returns-in-Count
returns-in-Count c = λ ignore cells seen known.
    subst (λ (r : Reducer). c.whole.result ≡ reduction_of r ignore cells) (sym c.in-Count.is) (settled_count ignore cells c.args.tally known c.whole.result (subst (λ (r : Reducer). IsTallyOf r (skips_nulls r ignore) cells c.args.tally) c.in-Count.is seen) c.if-tally.false c.whole.ensures)

pub returns-in-CountAll : goal.returns-in-CountAll
returns-in-CountAll c = λ ignore cells seen known.
    subst (λ (r : Reducer). c.whole-in-CountAll.result ≡ reduction_of r ignore cells) (sym c.in-CountAll.is) (settled_count_all ignore cells c.args.tally known c.whole-in-CountAll.result (subst (λ (r : Reducer). IsTallyOf r (skips_nulls r ignore) cells c.args.tally) c.in-CountAll.is seen) c.if-tally.false c.whole-in-CountAll.ensures)

pub returns-in_default : goal.returns-in_default
returns-in_default c = λ ignore cells seen known.
    let fits = without_over c.args.reducer (skips_nulls c.args.reducer ignore) cells c.args.tally seen known c.if-tally.false in
    settled_counted ignore cells c.args.tally known c.settle_counted.result c.args.reducer (c.in_default.not-Count, c.in_default.not-CountAll) fits (c.settle_counted.ensures (skips_nulls c.args.reducer ignore) cells seen known fits)
