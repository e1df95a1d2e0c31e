use Rattle.std.proofs.Common.{ℕ, ◌+◌, ◌∙◌, ap, map, length, arith}
use Rattle.oe_fold.specs.Value.{reduction_of}
use Rattle.oe_expr.specs.Programs.{operand_value}
use Rattle.oe_expr.specs.Strips.{register_at, row_inputs}
use Rattle.oe_expr.proofs.StripLemmas.{written}
use Rattle.oe_expr.proofs.row.written_row.Goals as goal

pub loop-k-preserved : goal.loop-k-preserved
loop-k-preserved c =
    written (λ (j : ℕ). reduction_of c.args.reducer c.args.ignore (map (operand_value (row_inputs c.args.row.now c.args.start (c.args.from + j)) (register_at c.args.registers.now (length c.args.out.now) j)) c.args.elements.now))
    c.loop-k.out c.loop-k.k c.fold.result (omega arith) c.loop-k.invariant
    (c.fold.ensures.reduced ∙ ap (reduction_of c.args.reducer c.args.ignore) c.gather_at.ensures)
