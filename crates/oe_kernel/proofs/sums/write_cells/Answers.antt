use Rattle.std.proofs.Common.{◌<◌, ◌≢◌, ◌∙◌, ◌+◌, ℕ, ap, arith, rules, length, below_more, get_or-set_other, get_or-set_same, w64, FitsSigned, ℤ}
use Rattle.std.proofs.lemmas.Int.{to_z-of_z}
use Rattle.oe_cell.specs.Exact.{cell_of_lowest}
use Rattle.oe_cell.specs.Operations.{multiply_of}
use Rattle.oe_cell.specs.declared.cell.Cell.TheVariants.{Number}
use Rattle.oe_kernel.specs.Strips.{at}
use Rattle.oe_kernel.proofs.sums.write_cells.Goals as goal

pub loop-k-preserved : goal.loop-k-preserved
loop-k-preserved c =
    let k : ℕ = c.loop-k.k in
    let here : c.args.start + k < length c.loop-k.out = omega arith in
    let fits : FitsSigned w64 (at c.args.sums.now k) = search rules in
    record {
      done = below_more _ _
          (λ j h. let ne : c.args.start + j ≢ c.args.start + k = omega arith in rw get_or-set_other (c.loop-k.invariant.done j h))
          (rw get_or-set_same (c.scale.ensures ∙ ap (λ (z : ℤ). multiply_of (cell_of_lowest z 1) (Number c.args.factor)) (to_z-of_z w64 (at c.args.sums.now k) fits)));
      before = λ j h. let ne : j ≢ c.args.start + k = omega arith in rw get_or-set_other (c.loop-k.invariant.before j h);
    }
