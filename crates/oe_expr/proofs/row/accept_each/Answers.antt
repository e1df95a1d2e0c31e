use Rattle.std.proofs.Common.{ℕ, ap, ◌∙◌, arith, get_or}
use Rattle.std.proofs.lemmas.List.{get_or_read}
use Rattle.oe_cell.specs.Operations.{choose_of}
use Rattle.oe_cell.specs.declared.cell.Cell.{Cell}
use Rattle.oe_cell.specs.declared.cell.Cell.TheVariants.{Empty}
use Rattle.oe_expr.proofs.StripLemmas.{written, not_written}
use Rattle.oe_expr.proofs.row.accept_each.Goals as goal

pub loop-k-preserved : goal.loop-k-preserved
loop-k-preserved c =
    let k : ℕ = c.loop-k.k in
    let values = c.args.values.now in
    let accepts = c.args.accepts.now in
    let old = c.args.out.now in
    record {
      chosen = written (λ (j : ℕ). choose_of (get_or values j Empty) (get_or accepts j Empty) (get_or old j Empty)) c.loop-k.out k c.choose.result (omega arith) c.loop-k.invariant.chosen
          (c.choose.ensures.value
          ∙ ap (λ (x : Cell). choose_of x c.index-accepts-k.result c.index-out-k.result) (get_or_read values k c.index-values-k.result (omega arith) c.index-values-k.is Empty)
          ∙ ap (λ (x : Cell). choose_of (get_or values k Empty) x c.index-out-k.result) (get_or_read accepts k c.index-accepts-k.result (omega arith) c.index-accepts-k.is Empty)
          ∙ ap (choose_of (get_or values k Empty) (get_or accepts k Empty)) (get_or_read c.loop-k.out k c.index-out-k.result (omega arith) c.index-out-k.is Empty ∙ c.loop-k.invariant.rest k (omega arith)));
      rest = not_written old c.loop-k.out k c.choose.result c.loop-k.invariant.rest;
    }
