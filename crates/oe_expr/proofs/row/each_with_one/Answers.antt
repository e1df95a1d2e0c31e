use Rattle.std.proofs.Common.{ℕ, ap, ◌∙◌, arith, get_or}
use Rattle.std.proofs.lemmas.List.{get_or_read}
use Rattle.oe_cell.specs.declared.cell.Cell.{Cell}
use Rattle.oe_cell.specs.declared.cell.Cell.TheVariants.{Empty}
use Rattle.oe_expr.specs.Operations.{binary_of}
use Rattle.oe_expr.proofs.StripLemmas.{written}
use Rattle.oe_expr.proofs.row.each_with_one.Goals as goal

pub loop-k-preserved : goal.loop-k-preserved
loop-k-preserved g c =
    written (λ (j : ℕ). binary_of g.O.OnTwo.operation (get_or c.args.xs.now j Empty) c.args.y.now) c.loop-k.out c.loop-k.k c.store.new.to (omega arith) c.loop-k.invariant
    (c.store.ensures ∙ c.on-cell.ensures ∙ ap (λ (x : Cell). binary_of g.O.OnTwo.operation x c.args.y.now) (get_or_read c.args.xs.now c.loop-k.k c.index-xs-k.result (omega arith) c.index-xs-k.is Empty))
