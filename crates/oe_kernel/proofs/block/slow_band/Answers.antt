use Rattle.std.proofs.Common.{◌≡◌, ◌<◌, ◌∙◌, ◌+◌, ◌*◌, ℕ, ap, sym, arith, get_or}
use Rattle.oe_cell.specs.declared.cell.Cell.TheVariants.{Empty}
use Rattle.oe_kernel.specs.Convolution.{convolved}
use Rattle.oe_kernel.proofs.ProgressLemmas.{rows_more, row_before}
use Rattle.oe_kernel.proofs.block.slow_band.Goals as goal

pub loop-row-preserved : goal.loop-row-preserved
loop-row-preserved c =
    let n : ℕ = c.loop-row.row in
    let columns : ℕ = c.args.columns in
    let out = c.convolve_strips.new.out in
    let start : ℕ = c.args.start in
    record {
      done = λ whole part. rows_more (λ (row i : ℕ). get_or out (start + (row * columns + i)) Empty ≡ convolved c.args.kernel.now c.args.factor c.args.border.now c.args.replace whole (c.args.y + row) (c.args.x + i)) n 1 columns
          (λ row i below within.
          let earlier : row * columns + i < n * columns = row_before row i n columns below within in
          c.convolve_strips.ensures.before (start + (row * columns + i)) (omega arith) ∙ c.loop-row.invariant.done whole part row i below within)
          (λ row i below within.
          let row_is : n + row ≡ n = omega arith in
          let index : start + n * columns + i ≡ start + (n * columns + i) = omega arith in
          ap (λ (r : ℕ). get_or out (start + (r * columns + i)) Empty) row_is ∙ sym (ap (λ (m : ℕ). get_or out m Empty) index) ∙ c.convolve_strips.ensures.value whole part i within ∙ ap (λ (r : ℕ). convolved c.args.kernel.now c.args.factor c.args.border.now c.args.replace whole (c.args.y + r) (c.args.x + i)) (sym row_is));
      before = λ j h. c.convolve_strips.ensures.before j (omega arith) ∙ c.loop-row.invariant.before j h;
    }
