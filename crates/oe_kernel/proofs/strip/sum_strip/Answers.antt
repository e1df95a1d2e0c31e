use Rattle.std.proofs.Common.{◌≡◌, ◌<◌, ◌≤◌, ◌∙◌, ◌+◌, ◌*◌, ℕ, ap, sym, subst, arith, length, ℤ}
use Rattle.std.specs.Prelude.{unsigned_abs}
use Rattle.oe_cell.specs.Exact.{cell_of_lowest}
use Rattle.oe_cell.specs.Rational.{whole_of}
use Rattle.oe_cell.specs.declared.cell.Cell.{Cell}
use Rattle.oe_cell.specs.declared.cell.Cell.TheVariants.{Number}
use Rattle.oe_kernel.specs.Convolution.{row_added, weighted}
use Rattle.oe_kernel.specs.Rows.{whole_plane_of}
use Rattle.oe_kernel.specs.Strips.{at, weight_of, times_pixel}
use Rattle.oe_kernel.proofs.SumLemmas.{row_added-same, rows_added-none, rows_added-more}
use Rattle.oe_kernel.proofs.TotalLemmas.{total_of-zero}
use Rattle.oe_kernel.proofs.StripLemmas.{weight_of-grows, with_next, row_end, row_whole, row_more, strip_cell}
use Rattle.oe_kernel.proofs.WindowLemmas.{CoversPixels-windows}
use Rattle.oe_kernel.proofs.strip.sum_strip.Goals as goal

zero_more : (n : ℕ) → 0 + n ≡ n
zero_more n = omega arith

pub loop-i-init : goal.loop-i-init
loop-i-init c = record {
  same = λ k h. ap (λ (z : ℤ). cell_of_lowest z 1) (c.clear.ensures k (omega arith)) ∙ total_of-zero ∙ sym (rows_added-none _ _);
  size = λ k h. let none : unsigned_abs (at c.clear.new.sums k) ≡ 0 = ap unsigned_abs (c.clear.ensures k (omega arith)) in omega arith;
}

pub unpack_row-requires-clause-pixels : goal.unpack_row-requires-clause-pixels
unpack_row-requires-clause-pixels c =
    let windows = c.requires.windows in
    record {
      plane = windows.plane;
      x_in = omega arith;
      y_in = windows.y_in;
      row_most = omega arith;
      row_covered = windows.rows.each c.loop-i.i (omega arith);
      some = omega arith;
      most = omega arith;
      columns_covered = CoversPixels-windows c.args.border.now c.args.x (length c.args.sums.now) c.args.kernel.now.width _ c.args.plane.now.side_x c.args.plane.now.from_x c.args.plane.now.to_x windows.columns (omega arith) (omega arith) (omega arith);
    }

pub add_values-requires : goal.add_values-requires
add_values-requires c =
    let k = c.args.kernel.now in
    let i : ℕ = c.loop-i.i in
    let w : ℕ = k.width in
    let row = c.row.result.now in
    let below : i < k.height = omega arith in
    let end : i * w + w ≤ w * k.height = row_end k.height w i below in
    let counted : length k.values ≡ w * k.height = c.row.ensures.valid.counted in
    let in_values : i * w + w ≤ length k.values = omega arith in
    let len : length row ≡ w = c.row.ensures.len in
    let more : weight_of k.values 0 (i * w + w) ≡ weight_of k.values 0 (i * w) + weight_of row 0 w = row_more k.values row (i * w) w c.row.ensures.value in
    let weight : weight_of row 0 (length row) ≡ weight_of row 0 w = ap (λ (n : ℕ). weight_of row 0 n) len in
    let grows : weight_of k.values 0 (i * w + w) ≤ weight_of k.values 0 (length k.values) = weight_of-grows k.values 0 (i * w + w) (length k.values) in_values in
    record {
      same = omega arith;
      whole = λ j h. row_whole k.values row (i * w) w c.requires.bound.whole c.row.ensures.value in_values j (omega arith);
      within = λ t h. subst (λ (n : ℕ). unsigned_abs (at c.unpack_row.new.pixels n) ≤ c.args.bound) (zero_more t) (c.unpack_row.ensures.within c.if-not-unpack_row.false t (omega arith));
      fits = λ t h.
          let had : unsigned_abs (at c.loop-i.sums t) ≤ weight_of k.values 0 (i * w) * c.args.bound = c.loop-i.invariant.size t (omega arith) in
          let most : unsigned_abs (at c.loop-i.sums t) + weight_of row 0 (length row) * c.args.bound ≤ 0 + weight_of k.values 0 (length k.values) * c.args.bound = with_next (unsigned_abs (at c.loop-i.sums t)) 0 (weight_of k.values 0 (i * w)) (weight_of row 0 (length row)) (weight_of k.values 0 (length k.values)) c.args.bound (omega arith) (omega arith) in
          omega (arith, c.requires.bound.fits);
    }

pub loop-i-preserved : goal.loop-i-preserved
loop-i-preserved c =
    let k = c.args.kernel.now in
    let i : ℕ = c.loop-i.i in
    let w : ℕ = k.width in
    let row = c.row.result.now in
    let below : i < k.height = omega arith in
    let end : i * w + w ≤ w * k.height = row_end k.height w i below in
    let counted : length k.values ≡ w * k.height = c.row.ensures.valid.counted in
    let in_values : i * w + w ≤ length k.values = omega arith in
    let len : length row ≡ w = c.row.ensures.len in
    let more : weight_of k.values 0 (i * w + w) ≡ weight_of k.values 0 (i * w) + weight_of row 0 w = row_more k.values row (i * w) w c.row.ensures.value in
    let weight : weight_of row 0 (length row) ≡ weight_of row 0 w = ap (λ (n : ℕ). weight_of row 0 n) len in
    let next : (i + 1) * w ≡ i * w + w = omega arith in
    let weights : weight_of k.values 0 ((i + 1) * w) ≡ weight_of k.values 0 (i * w + w) = ap (λ (n : ℕ). weight_of k.values 0 n) next in
    let pixels = c.unpack_row.new.pixels in
    record {
      same = λ t h.
          let cells = weighted k c.args.border.now c.args.replace (whole_plane_of c.args.plane.now) c.args.y (c.args.x + t) in
          let start : Cell = cell_of_lowest (at c.loop-i.sums t) 1 in
          c.add_values.ensures.value t (omega arith)
          ∙ ap (λ (n : ℕ). row_added (times_pixel row pixels t) n start) len
          ∙ row_added-same (times_pixel row pixels t) (cells i) w start (λ j place. strip_cell k c.args.border.now c.args.replace c.args.plane.now c.args.y c.args.x i t j row pixels c.row.ensures.value place (c.unpack_row.ensures.value c.if-not-unpack_row.false (t + j) (omega arith) ∙ ap (λ (n : ℕ). Number (whole_of (at pixels n))) (zero_more (t + j))))
          ∙ ap (λ (s : Cell). row_added (cells i) w s) (c.loop-i.invariant.same t (omega arith))
          ∙ sym (rows_added-more cells w i);
      size = λ t h.
          let grown : unsigned_abs (at c.add_values.new.sums t) ≤ unsigned_abs (at c.loop-i.sums t) + weight_of row 0 (length row) * c.args.bound = c.add_values.ensures.size t (omega arith) in
          let had : unsigned_abs (at c.loop-i.sums t) ≤ weight_of k.values 0 (i * w) * c.args.bound = c.loop-i.invariant.size t (omega arith) in
          let most : unsigned_abs (at c.loop-i.sums t) + weight_of row 0 (length row) * c.args.bound ≤ 0 + weight_of k.values 0 ((i + 1) * w) * c.args.bound = with_next (unsigned_abs (at c.loop-i.sums t)) 0 (weight_of k.values 0 (i * w)) (weight_of row 0 (length row)) (weight_of k.values 0 ((i + 1) * w)) c.args.bound (omega arith) (omega arith) in
          omega arith;
    }
