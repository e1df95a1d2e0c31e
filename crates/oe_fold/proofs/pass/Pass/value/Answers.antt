use Rattle.std.proofs.Common.{sym, subst}
use Rattle.oe_cell.specs.Kinds.{IsNumeric, IsLogical}
use Rattle.oe_cell.specs.declared.cell.Cell.{Cell}
use Rattle.oe_fold.proofs.KindLemmas.{IsNumeric-reduction_of, IsLogical-reduction_of, IsNumeric-count}
use Rattle.oe_fold.proofs.pass.Pass.value.Goals as goal

pub returns-clause-numeric : goal.returns-clause-numeric
returns-clause-numeric c = λ reducer ignore cells seen all.
    subst (λ (v : Cell). IsNumeric v) (sym (c.reduction.ensures reducer ignore cells seen)) (IsNumeric-reduction_of reducer ignore cells all)

pub returns-clause-logical : goal.returns-clause-logical
returns-clause-logical c = λ reducer ignore cells seen other all.
    subst (λ (v : Cell). IsLogical v) (sym (c.reduction.ensures reducer ignore cells seen)) (IsLogical-reduction_of reducer ignore cells other all)

pub returns-clause-counts : goal.returns-clause-counts
returns-clause-counts c = λ reducer ignore cells seen count.
    subst (λ (v : Cell). IsNumeric v) (sym (c.reduction.ensures reducer ignore cells seen)) (IsNumeric-count reducer ignore cells count)
