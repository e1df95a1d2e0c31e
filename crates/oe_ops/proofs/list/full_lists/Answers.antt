use Rattle.std.proofs.Common.{[], ◌<◌, length, refl, ap, ◌∙◌, arith}
use Rattle.oe_fold.specs.Columns.{column}
use Rattle.oe_window.specs.Windows.{position_count}
use Rattle.oe_ops.specs.Slices.{at_indices}
use Rattle.oe_ops.proofs.ColumnLemmas.{are_lists, column_here, first_in, list_value, lists_within, rest_is, stride_some}
use Rattle.oe_ops.proofs.NumberLemmas.{are_some}
use Rattle.oe_ops.proofs.list.full_lists.Goals as goal

pub number_with-first-requires-clause-inside : goal.number_with-first-requires-clause-inside
number_with-first-requires-clause-inside c =
    first_in c.args.rows.now.slice.window c.args.rows.now.along (at_indices c.args.t c.args.band c.args.y c.args.x) c.args.rows.now.from (c.requires.inside 0 0 c.requires.some c.requires.list.full)

pub eval_row-requires-clause-environments : goal.eval_row-requires-clause-environments
eval_row-requires-clause-environments c =
    let rows = c.args.rows.now in
    let p = at_indices c.args.t c.args.band c.args.y c.args.x in
    let some : 0 < position_count rows.slice.window = omega (arith, c.number_with-first.ensures.within, c.requires.list.counted) in
    let apart : 0 < c.stride_along-stride.result = rw c.stride_along-stride.ensures (stride_some rows.slice.window (are_some rows.slice.window some) rows.along) in
    are_lists rows.expr.now _ (length c.args.out.now) rows.slice.cells.now c.number_with-first.result (rest_is rows.slice.cells.now c.number_with-first.result) c.requires.list.takes
    apart
    (lists_within rows.slice rows.along p rows.from rows.count (length c.args.out.now) c.number_with-first.result c.stride_along-stride.result c.number_with-first.ensures.value c.stride_along-stride.ensures c.requires.some c.requires.list.full c.requires.list.counted c.requires.single c.requires.inside)

pub returns : goal.returns
returns c = λ k lt.
    let rows = c.args.rows.now in
    let p = at_indices c.args.t c.args.band c.args.y c.args.x in
    c.eval_row.ensures.value k lt
    ∙ list_value rows.expr.now [] [] rows.list k _ _ refl refl
    (ap (λ l. column l c.stride_along-stride.result rows.count k) (rest_is rows.slice.cells.now c.number_with-first.result)
    ∙ column_here rows.slice rows.along p rows.from rows.count k c.number_with-first.result c.stride_along-stride.result c.number_with-first.ensures.value c.stride_along-stride.ensures
    (first_in rows.slice.window rows.along p rows.from (c.requires.inside 0 0 c.requires.some c.requires.list.full))
    (λ e. let one = c.requires.single e in omega (arith, one, lt)))
