use Rattle.std.proofs.Common.{◌≢◌, ℕ, ◌<◌, length, sym, ap, ◌∙◌, arith, get_or-set_other, get_or-set_same, below_more}
use Rattle.std.proofs.lemmas.List.{get_or_read}
use Rattle.oe_cell.specs.declared.cell.Cell.TheVariants.{Empty}
use Rattle.oe_periods.specs.Sums.{running_sum}
use Rattle.oe_periods.proofs.SumLemmas.{same_summed}
use Rattle.oe_periods.proofs.sums.write_sums.Goals as goal

pub loop-index-preserved : goal.loop-index-preserved
loop-index-preserved c =
    let k : ℕ = c.loop-index.index in
    let in_cells : k < length c.args.cells.now = c.loop-index-test.true in
    let in_sums : k < length c.args.sums.now = omega arith in
    let in_marks : k < length c.args.marks.now = omega arith in
    let in_out : k < length c.loop-index.out = omega arith in
    let cell = get_or_read c.args.cells.now k c.index-cells-index.result in_cells c.index-cells-index.is Empty in
    let sum = get_or_read c.args.sums.now k c.index-sums-index.result in_sums c.index-sums-index.is Empty in
    let mark = get_or_read c.args.marks.now k c.index-marks-index.result in_marks c.index-marks-index.is Empty in
    below_more _ _
    (λ j h ignore before has. let other : j ≢ k = omega arith in get_or-set_other c.loop-index.out k j c.value_at.result Empty other ∙ c.loop-index.invariant j h ignore before has)
    (λ ignore before has. get_or-set_same c.loop-index.out k c.value_at.result Empty in_out ∙ c.value_at.ensures ignore before (same_summed ignore before _ _ _ _ _ _ (sym cell) (sym sum) (sym mark) has) ∙ ap (running_sum ignore before) cell)
