use Rattle.std.proofs.Common.{sym, subst}
use Rattle.oe_cell.specs.Kinds.{IsNumeric, IsLogical}
use Rattle.oe_cell.specs.declared.cell.Cell.{Cell}
use Rattle.oe_fold.specs.Columns.{column}
use Rattle.oe_fold.proofs.KindLemmas.{IsNumeric-reduction_of, IsLogical-reduction_of, IsNumeric-count}
use Rattle.oe_fold.proofs.columns.fold_columns.Goals as goal

pub returns-clause-numeric : goal.returns-clause-numeric
returns-clause-numeric c = λ k h all.
    subst (λ (v : Cell). IsNumeric v) (sym (c.reduce_columns.ensures.reduced k h)) (IsNumeric-reduction_of c.args.reducer c.args.ignore (column c.args.cells.now c.args.stride c.args.count k) all)

pub returns-clause-logical : goal.returns-clause-logical
returns-clause-logical c = λ other k h all.
    subst (λ (v : Cell). IsLogical v) (sym (c.reduce_columns.ensures.reduced k h)) (IsLogical-reduction_of c.args.reducer c.args.ignore (column c.args.cells.now c.args.stride c.args.count k) other all)

pub returns-clause-counts : goal.returns-clause-counts
returns-clause-counts c = λ count k h.
    subst (λ (v : Cell). IsNumeric v) (sym (c.reduce_columns.ensures.reduced k h)) (IsNumeric-count c.args.reducer c.args.ignore (column c.args.cells.now c.args.stride c.args.count k) count)
