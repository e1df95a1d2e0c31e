use Rattle.std.proofs.Common.{◌≡◌, ◌<◌, ◌≤◌, ◌∙◌, ◌+◌, ◌-◌, ◌*◌, ℕ, ap, sym, arith, length, get_or}
use Rattle.std.proofs.lemmas.Grind.{common_steps}
use Rattle.oe_cell.specs.Operations.{multiply_of}
use Rattle.oe_cell.specs.declared.cell.Cell.TheVariants.{Empty, Number}
use Rattle.oe_kernel.specs.Convolution.{rows_added}
use Rattle.oe_kernel.specs.Strips.{unpacked}
use Rattle.oe_kernel.proofs.ProgressLemmas.{rows_more, row_before, window_room}
use Rattle.oe_kernel.proofs.block.write_rows.Goals as goal

pub write_row-requires-clause-room : goal.write_row-requires-clause-room
write_row-requires-clause-room c =
    let k = c.args.kernel.now in
    let stride : ℕ = c.args.columns + c.width.result - 1 in
    let same : c.args.columns + k.width - 1 ≡ stride = ap (λ (n : ℕ). c.args.columns + n - 1) (sym c.width.ensures.value) in
    let counted : (c.args.rows + k.height - 1) * stride ≡ length c.args.pixels.now = sym (ap (λ (n : ℕ). (c.args.rows + k.height - 1) * n) same) ∙ c.requires.room in
    let room : c.loop-row.row * stride + (k.height - 1) * stride + stride ≤ length c.args.pixels.now = window_room c.loop-row.row c.args.rows k.height stride (length c.args.pixels.now) (omega arith) (omega arith) counted in
    omega arith

pub loop-row-preserved : goal.loop-row-preserved
loop-row-preserved c =
    let n : ℕ = c.loop-row.row in
    let columns : ℕ = c.args.columns in
    let out = c.write_row.new.out in
    let start : ℕ = c.args.start in
    let k = c.args.kernel.now in
    let stride : ℕ = columns + c.width.result - 1 in
    record {
      done = rows_more (λ (row i : ℕ). get_or out (start + (row * columns + i)) Empty ≡ multiply_of (rows_added (unpacked k c.args.pixels.now stride (row * stride + i)) k.width k.height) (Number c.args.factor)) n 1 columns
          (λ row i below within.
          let earlier : row * columns + i < n * columns = row_before row i n columns below within in
          c.write_row.ensures.before (start + (row * columns + i)) (omega arith) ∙ c.loop-row.invariant.done row i below within)
          (λ row i below within.
          let row_is : n + row ≡ n = omega arith in
          let index : start + n * columns + i ≡ start + (n * columns + i) = omega arith in
          ap (λ (r : ℕ). get_or out (start + (r * columns + i)) Empty) row_is ∙ sym (ap (λ (m : ℕ). get_or out m Empty) index) ∙ c.write_row.ensures.value i within ∙ ap (λ (r : ℕ). multiply_of (rows_added (unpacked k c.args.pixels.now stride (r * stride + i)) k.width k.height) (Number c.args.factor)) (sym row_is));
      before = λ j h. c.write_row.ensures.before j (omega arith) ∙ c.loop-row.invariant.before j h;
    }

pub returns-clause-value : goal.returns-clause-value
returns-clause-value c = grind (arith, common_steps) steps 2000000
