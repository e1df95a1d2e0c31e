use Rattle.std.proofs.Common.{◌+◌, ◌*◌, ◌<◌, ◌++◌, List, [], ◌∷◌, length, sym, ap, ◌∙◌, arith}
use Rattle.std.proofs.lemmas.List.{take_more_set, get_or_read}
use Rattle.oe_cell.specs.declared.cell.Cell.{Cell}
use Rattle.oe_cell.specs.declared.cell.Cell.TheVariants.{Empty}
use Rattle.oe_fold.specs.Columns.{column}
use Rattle.oe_fold.proofs.ColumnLemmas.{column-more, row_within}
use Rattle.oe_fold.proofs.columns.copy_column.Goals as goal

pub loop-t-preserved : goal.loop-t-preserved
loop-t-preserved c =
    let within : c.loop-t.t < length c.loop-t.list = omega arith in
    let start = column c.args.cells.now c.args.stride c.loop-t.t c.args.k in
    take_more_set c.loop-t.list c.loop-t.t c.index-cells-t.result within
    ∙ ap (λ (ys : List Cell). ys ++ c.index-cells-t.result ∷ []) c.loop-t.invariant
    ∙ ap (λ (y : Cell). start ++ y ∷ []) (get_or_read c.args.cells.now (c.loop-t.t * c.args.stride + c.args.k) c.index-cells-t.result (row_within c.loop-t.t (length c.args.list.now) c.args.stride c.args.k (length c.args.cells.now) c.loop-t-test.true (c.requires (omega (arith, c.loop-t-test.true)))) c.index-cells-t.is Empty)
    ∙ sym (column-more c.args.cells.now c.args.stride c.loop-t.t c.args.k)
