use Rattle.std.proofs.Common.{ℕ, ap, ◌∙◌, arith, get_or}
use Rattle.std.proofs.lemmas.List.{get_or_read}
use Rattle.oe_cell.specs.declared.cell.Cell.TheVariants.{Empty}
use Rattle.oe_expr.specs.Operations.{binary_of}
use Rattle.oe_expr.proofs.StripLemmas.{written}
use Rattle.oe_expr.proofs.row.one_with_each.Goals as goal

pub loop-k-preserved : goal.loop-k-preserved
loop-k-preserved g c =
    written (λ (j : ℕ). binary_of g.O.OnTwo.operation c.args.x.now (get_or c.args.ys.now j Empty)) c.loop-k.out c.loop-k.k c.store.new.to (omega arith) c.loop-k.invariant
    (c.store.ensures ∙ c.on-cell.ensures ∙ ap (binary_of g.O.OnTwo.operation c.args.x.now) (get_or_read c.args.ys.now c.loop-k.k c.index-ys-k.result (omega arith) c.index-ys-k.is Empty))
