use Rattle.std.proofs.Common.{◌≡◌, ◌<◌, ◌≤◌, ◌∙◌, ◌+◌, ◌-◌, ◌*◌, ℕ, ap, sym, arith, length, ℤ}
use Rattle.std.specs.Prelude.{unsigned_abs}
use Rattle.std.specs.List.{slice_range}
use Rattle.oe_cell.specs.Exact.{cell_of_lowest}
use Rattle.oe_cell.specs.declared.cell.Cell.{Cell}
use Rattle.oe_kernel.specs.Convolution.{row_added}
use Rattle.oe_kernel.specs.Strips.{at, weight_of, times_pixel, unpacked}
use Rattle.oe_kernel.proofs.SumLemmas.{row_added-same, rows_added-none, rows_added-more}
use Rattle.oe_kernel.proofs.TotalLemmas.{total_of-zero}
use Rattle.oe_kernel.proofs.StripLemmas.{weight_of-grows, with_next, row_end, row_more, window_cell}
use Rattle.oe_kernel.proofs.block.sum_windows.Goals as goal

pub loop-i-init : goal.loop-i-init
loop-i-init c = record {
  same = λ k h. ap (λ (z : ℤ). cell_of_lowest z 1) (c.clear.ensures k (omega arith)) ∙ total_of-zero ∙ sym (rows_added-none _ _);
  size = λ k h. let none : unsigned_abs (at c.clear.new.sums k) ≡ 0 = ap unsigned_abs (c.clear.ensures k (omega arith)) in omega arith;
}

pub add_values-requires-clause-fits : goal.add_values-requires-clause-fits
add_values-requires-clause-fits c = λ t h.
    let k = c.args.kernel.now in
    let i : ℕ = c.loop-i.i in
    let w : ℕ = k.width in
    let row = c.row.result.now in
    let below : i < k.height = omega arith in
    let end : i * w + w ≤ w * k.height = row_end k.height w i below in
    let counted : length k.values ≡ w * k.height = c.row.ensures.valid.counted in
    let in_values : i * w + w ≤ length k.values = omega arith in
    let len : length row ≡ w = c.row.ensures.len in
    let more : weight_of k.values 0 (i * w + w) ≡ weight_of k.values 0 (i * w) + weight_of row 0 w = row_more k.values row (i * w) w c.row.ensures.value in
    let weight : weight_of row 0 (length row) ≡ weight_of row 0 w = ap (λ (n : ℕ). weight_of row 0 n) len in
    let grows : weight_of k.values 0 (i * w + w) ≤ weight_of k.values 0 (length k.values) = weight_of-grows k.values 0 (i * w + w) (length k.values) in_values in
    let had : unsigned_abs (at c.loop-i.sums t) ≤ weight_of k.values 0 (i * w) * c.args.bound = c.loop-i.invariant.size t h in
    let most : unsigned_abs (at c.loop-i.sums t) + weight_of row 0 (length row) * c.args.bound ≤ 0 + weight_of k.values 0 (length k.values) * c.args.bound = with_next (unsigned_abs (at c.loop-i.sums t)) 0 (weight_of k.values 0 (i * w)) (weight_of row 0 (length row)) (weight_of k.values 0 (length k.values)) c.args.bound (omega arith) (omega arith) in
    omega (arith, c.requires.pixels.bounded.fits)

pub loop-i-preserved : goal.loop-i-preserved
loop-i-preserved c =
    let k = c.args.kernel.now in
    let i : ℕ = c.loop-i.i in
    let w : ℕ = k.width in
    let row = c.row.result.now in
    let len : length row ≡ w = c.row.ensures.len in
    let more : weight_of k.values 0 (i * w + w) ≡ weight_of k.values 0 (i * w) + weight_of row 0 w = row_more k.values row (i * w) w c.row.ensures.value in
    let weight : weight_of row 0 (length row) ≡ weight_of row 0 w = ap (λ (n : ℕ). weight_of row 0 n) len in
    let next : (i + 1) * w ≡ i * w + w = omega arith in
    let weights : weight_of k.values 0 ((i + 1) * w) ≡ weight_of k.values 0 (i * w + w) = ap (λ (n : ℕ). weight_of k.values 0 n) next in
    let start : ℕ = c.args.first + i * c.args.stride in
    let under : ℕ = length c.clear.new.sums + c.width.result - 1 in
    let part = slice_range c.args.pixels.now start (start + under) in
    record {
      same = λ t h.
          let cells = unpacked k c.args.pixels.now c.args.stride (c.args.first + t) in
          let before : Cell = cell_of_lowest (at c.loop-i.sums t) 1 in
          c.add_values.ensures.value t (omega arith)
          ∙ ap (λ (n : ℕ). row_added (times_pixel row part t) n before) len
          ∙ row_added-same (times_pixel row part t) (cells i) w before (λ j place. window_cell k c.args.pixels.now c.args.stride c.args.first i t j start under row c.row.ensures.value place (omega arith) (omega arith))
          ∙ ap (λ (s : Cell). row_added (cells i) w s) (c.loop-i.invariant.same t (omega arith))
          ∙ sym (rows_added-more cells w i);
      size = λ t h.
          let grown : unsigned_abs (at c.add_values.new.sums t) ≤ unsigned_abs (at c.loop-i.sums t) + weight_of row 0 (length row) * c.args.bound = c.add_values.ensures.size t (omega arith) in
          let had : unsigned_abs (at c.loop-i.sums t) ≤ weight_of k.values 0 (i * w) * c.args.bound = c.loop-i.invariant.size t (omega arith) in
          let most : unsigned_abs (at c.loop-i.sums t) + weight_of row 0 (length row) * c.args.bound ≤ 0 + weight_of k.values 0 ((i + 1) * w) * c.args.bound = with_next (unsigned_abs (at c.loop-i.sums t)) 0 (weight_of k.values 0 (i * w)) (weight_of row 0 (length row)) (weight_of k.values 0 ((i + 1) * w)) c.args.bound (omega arith) (omega arith) in
          omega arith;
    }
