use Rattle.std.proofs.Common.{◌∙◌, ap}
use Rattle.oe_fold.specs.Value.{reduction_of}
use Rattle.oe_expr.proofs.StripLemmas.{column-rest}
use Rattle.oe_expr.proofs.row.reduction_row.Goals as goal

pub returns : goal.returns
returns c = λ j h.
    let row = c.args.row.now in
    c.fold_columns.ensures.reduced j h
    ∙ ap (reduction_of c.args.reducer c.args.ignore) (column-rest row.cells.now row.stride row.count c.args.from c.min.result j c.min.ensures)
