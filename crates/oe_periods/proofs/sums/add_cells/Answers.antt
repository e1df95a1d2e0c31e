use Rattle.std.proofs.Common.{◌≢◌, ℕ, ◌<◌, length, sym, ◌∙◌, arith, get_or-set_other, get_or-set_same, below_more}
use Rattle.std.proofs.lemmas.List.{get_or_read}
use Rattle.oe_cell.specs.declared.cell.Cell.TheVariants.{Empty}
use Rattle.oe_periods.proofs.SumLemmas.{same_cells, same_summed}
use Rattle.oe_periods.proofs.sums.add_cells.Goals as goal

pub loop-index-preserved : goal.loop-index-preserved
loop-index-preserved c =
    let k : ℕ = c.loop-index.index in
    let in_cells : k < length c.args.cells.now = c.loop-index-test.true in
    let in_sums : k < length c.loop-index.sums = omega arith in
    let in_marks : k < length c.loop-index.marks = omega arith in
    let cell = get_or_read c.args.cells.now k c.index-cells-index.result in_cells c.index-cells-index.is Empty in
    let sum = get_or_read c.loop-index.sums k c.index-sums-index.result in_sums c.index-sums-index.is Empty in
    let mark = get_or_read c.loop-index.marks k c.index-marks-index.result in_marks c.index-marks-index.is Empty in
    record {
      taken = below_more _ _
          (λ j h before has. let other : j ≢ k = omega arith in
          same_cells c.args.ignore _ _ _ _ _ (sym (get_or-set_other c.loop-index.sums k j c.next-sum.result.0 Empty other)) (sym (get_or-set_other c.loop-index.marks k j c.next-sum.result.1 Empty other)) (c.loop-index.invariant.taken j h before has))
          (λ before has.
          let known = same_cells c.args.ignore before _ _ _ _ (sym (sum ∙ c.loop-index.invariant.sums k (omega arith))) (sym (mark ∙ c.loop-index.invariant.marks k (omega arith))) has in
          same_summed c.args.ignore before _ _ _ _ _ _ cell (sym (get_or-set_same c.loop-index.sums k c.next-sum.result.0 Empty in_sums)) (sym (get_or-set_same c.loop-index.marks k c.next-sum.result.1 Empty in_marks)) (c.next-sum.ensures before known));
      sums = λ j h. let other : j ≢ k = omega arith in get_or-set_other c.loop-index.sums k j c.next-sum.result.0 Empty other ∙ c.loop-index.invariant.sums j (omega arith);
      marks = λ j h. let other : j ≢ k = omega arith in get_or-set_other c.loop-index.marks k j c.next-sum.result.1 Empty other ∙ c.loop-index.invariant.marks j (omega arith);
    }

pub returns : goal.returns
returns c k h before has =
    let end : k < c.loop-index.index = omega arith in
    c.loop-index.invariant.taken k end before has
