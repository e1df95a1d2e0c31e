use Rattle.std.proofs.Common.{◌≡◌, ◌<◌, ◌≤◌, ◌∙◌, ◌+◌, ◌*◌, ℕ, ap, sym, subst, arith, get_or}
use Rattle.oe_cell.specs.declared.cell.Cell.TheVariants.{Empty}
use Rattle.oe_kernel.specs.Convolution.{CoversWindow, convolved}
use Rattle.oe_kernel.proofs.KindLemmas.{IsAmount-by_value}
use Rattle.oe_kernel.proofs.ProgressLemmas.{rows_more, row_before, rows_end}
use Rattle.oe_kernel.proofs.block.convolve_block.Goals as goal
use Rattle.oe_kernel.proofs.block.convolve_block.Goals.{then-left-most, else-left-most}

pub convolve_band-requires-clause-piece : goal.convolve_band-requires-clause-piece
convolve_band-requires-clause-piece c =
    let n : ℕ = c.loop-row.row in
    let some : ℕ = c.if-left-most.band in
    let any : 0 < some = elim c.if-left-most.branch [ then-left-most w ↦ omega arith | else-left-most w ↦ omega arith ] in
    let within : n + some ≤ c.args.rows = elim c.if-left-most.branch [ then-left-most w ↦ omega arith | else-left-most w ↦ omega arith ] in
    let ends : n * c.args.columns + some * c.args.columns ≤ c.args.rows * c.args.columns = rows_end n some c.args.rows c.args.columns within in
    record {
      windows = record {
        plane = c.requires.windows.plane;
        x_in = c.requires.windows.x_in;
        y_in = omega arith;
        rows_covered = λ row h.
            let same : c.args.y + (n + row) ≡ c.args.y + n + row = omega arith in
            subst (λ (y : ℕ). CoversWindow c.args.border y c.args.kernel.now.height c.args.plane.now.side_y c.args.plane.now.from_y c.args.plane.now.to_y) same (c.requires.windows.rows_covered (n + row) (omega arith));
        columns_covered = c.requires.windows.columns_covered;
      };
      some_rows = any;
      some_columns = omega arith;
      end = omega arith;
    }

pub loop-row-preserved : goal.loop-row-preserved
loop-row-preserved c =
    let n : ℕ = c.loop-row.row in
    let some : ℕ = c.if-left-most.band in
    let columns : ℕ = c.args.columns in
    let out = c.convolve_band.new.out in
    record {
      within = elim c.if-left-most.branch [ then-left-most w ↦ omega arith | else-left-most w ↦ omega arith ];
      done = λ whole part. rows_more (λ (row k : ℕ). get_or out (row * columns + k) Empty ≡ convolved c.args.kernel.now c.args.factor c.args.border c.args.replace whole (c.args.y + row) (c.args.x + k)) n some columns
          (λ row k below within. c.convolve_band.ensures.before (row * columns + k) (row_before row k n columns below within) ∙ c.loop-row.invariant.done whole part row k below within)
          (λ row k below within.
          let index : n * columns + (row * columns + k) ≡ (n + row) * columns + k = omega arith in
          let at : c.args.y + n + row ≡ c.args.y + (n + row) = omega arith in
          sym (ap (λ (m : ℕ). get_or out m Empty) index) ∙ c.convolve_band.ensures.value whole part row k below within ∙ ap (λ (y : ℕ). convolved c.args.kernel.now c.args.factor c.args.border c.args.replace whole y (c.args.x + k)) at);
    }

pub returns-clause-amounts : goal.returns-clause-amounts
returns-clause-amounts c = λ row k row_in k_in.
    IsAmount-by_value c.args.kernel.now c.args.factor c.args.border c.args.replace c.args.plane.now (c.args.y + row) (c.args.x + k) (get_or c.loop-row.out (row * c.args.columns + k) Empty) (λ whole part. c.loop-row.invariant.done whole part row k (omega arith) k_in)
