use Rattle.std.proofs.Common.{ℕ, ap, ◌∙◌, arith, get_or}
use Rattle.std.proofs.lemmas.List.{get_or_read}
use Rattle.oe_cell.specs.declared.cell.Cell.TheVariants.{Empty}
use Rattle.oe_expr.specs.Operations.{unary_of}
use Rattle.oe_expr.proofs.StripLemmas.{written}
use Rattle.oe_expr.proofs.row.unary_each.Goals as goal

pub loop-k-preserved : goal.loop-k-preserved
loop-k-preserved g c =
    written (λ (j : ℕ). unary_of g.O.OnOne.operation (get_or c.args.xs.now j Empty)) c.loop-k.out c.loop-k.k c.store.new.to (omega arith) c.loop-k.invariant
    (c.store.ensures ∙ c.on-cell.ensures ∙ ap (unary_of g.O.OnOne.operation) (get_or_read c.args.xs.now c.loop-k.k c.index-xs-k.result (omega arith) c.index-xs-k.is Empty))
