use Rattle.std.proofs.Common.{◌∙◌, sym, subst, arith}
use Rattle.oe_cell.specs.Cells.{IsCell}
use Rattle.oe_cell.specs.declared.cell.Cell.{Cell}
use Rattle.oe_fold.proofs.ColumnLemmas.{below_both}
use Rattle.oe_fold.proofs.columns.fold_blocks.Goals as goal

pub loop-from-preserved : goal.loop-from-preserved
loop-from-preserved c = record {
  within = omega arith;
  reduced = below_both _ c.loop-from.from c.min-n.result
      (λ k h. c.fold_block.ensures.before k h ∙ c.loop-from.invariant.reduced k h)
      c.fold_block.ensures.reduced;
  cell = below_both _ c.loop-from.from c.min-n.result
      (λ k h. subst (λ (x : Cell). IsCell x) (sym (c.fold_block.ensures.before k h)) (c.loop-from.invariant.cell k h))
      c.fold_block.ensures.cell;
}
