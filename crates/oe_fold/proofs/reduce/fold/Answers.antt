use Rattle.std.proofs.Common.{◌∙◌, sym, subst}
use Rattle.oe_cell.specs.Kinds.{IsNumeric, IsLogical}
use Rattle.oe_cell.specs.declared.cell.Cell.{Cell}
use Rattle.oe_fold.specs.Reduction.{IsReduction}
use Rattle.oe_fold.proofs.ValueLemmas.{reduction_of-is}
use Rattle.oe_fold.proofs.KindLemmas.{IsNumeric-reduction_of, IsLogical-reduction_of, IsNumeric-count}
use Rattle.oe_fold.proofs.UniqueLemmas.{IsReduction-unique}
use Rattle.oe_fold.proofs.reduce.fold.Goals as goal

pub returns-clause-value : goal.returns-clause-value
returns-clause-value c =
    subst (λ (v : Cell). IsReduction c.args.reducer c.args.ignore c.args.cells.now v) (sym c.reduce.ensures.reduced) (reduction_of-is c.args.reducer c.args.ignore c.args.cells.now c.reduce.ensures.known)

pub returns-clause-only : goal.returns-clause-only
returns-clause-only c = λ d h.
    IsReduction-unique c.args.reducer c.args.ignore c.args.cells.now d _ c.reduce.ensures.known h (reduction_of-is c.args.reducer c.args.ignore c.args.cells.now c.reduce.ensures.known) ∙ sym c.reduce.ensures.reduced

pub returns-clause-numeric : goal.returns-clause-numeric
returns-clause-numeric c = λ all.
    subst (λ (v : Cell). IsNumeric v) (sym c.reduce.ensures.reduced) (IsNumeric-reduction_of c.args.reducer c.args.ignore c.args.cells.now all)

pub returns-clause-logical : goal.returns-clause-logical
returns-clause-logical c = λ other all.
    subst (λ (v : Cell). IsLogical v) (sym c.reduce.ensures.reduced) (IsLogical-reduction_of c.args.reducer c.args.ignore c.args.cells.now other all)

pub returns-clause-counts : goal.returns-clause-counts
returns-clause-counts c = λ count.
    subst (λ (v : Cell). IsNumeric v) (sym c.reduce.ensures.reduced) (IsNumeric-count c.args.reducer c.args.ignore c.args.cells.now count)
