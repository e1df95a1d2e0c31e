use Rattle.std.proofs.Common.{◌≡◌, ◌<◌, ◌≤◌, ◌∙◌, ◌+◌, ◌*◌, ℕ, ap, sym, subst, arith}
use Rattle.std.specs.Prelude.{unsigned_abs}
use Rattle.oe_cell.specs.Rational.{whole_of}
use Rattle.oe_cell.specs.declared.cell.Cell.TheVariants.{Number}
use Rattle.oe_kernel.specs.Strips.{at, pixel_from}
use Rattle.oe_kernel.proofs.ProgressLemmas.{items_more, rows_more, row_before}
use Rattle.oe_kernel.proofs.pixels.unpack_rows.Goals as goal

pub loop-row-preserved : goal.loop-row-preserved
loop-row-preserved c =
    let n : ℕ = c.loop-row.row in
    let stride : ℕ = c.args.stride in
    let pixels = c.unpack_row.new.pixels in
    let kept : (m : ℕ) → m < n * stride → at pixels m ≡ at c.loop-row.pixels m = c.unpack_row.ensures.before in
    let ends : (n + 1) * stride ≡ n * stride + stride = omega arith in
    record {
      same = rows_more (λ (row t : ℕ). pixel_from c.args.kernel.now c.args.border.now c.args.replace c.args.plane.now c.args.y c.args.x row t ≡ Number (whole_of (at pixels (row * stride + t)))) n 1 stride
          (λ row t below within. c.loop-row.invariant.same row t below within ∙ ap (λ z. Number (whole_of z)) (sym (kept (row * stride + t) (row_before row t n stride below within))))
          (λ row t below within.
          let none : n ≡ n + row = omega arith in
          let row_is : ℕ = n + row in
          subst (λ (r : ℕ). pixel_from c.args.kernel.now c.args.border.now c.args.replace c.args.plane.now c.args.y c.args.x r t ≡ Number (whole_of (at pixels (r * stride + t)))) none (c.unpack_row.ensures.value c.if-not-unpack_row.false t within));
      size = λ m h. items_more (λ (k : ℕ). unsigned_abs (at pixels k) ≤ c.args.bound) (n * stride) stride
          (λ k below. subst (λ z. unsigned_abs z ≤ c.args.bound) (sym (kept k below)) (c.loop-row.invariant.size k below))
          (λ k below. c.unpack_row.ensures.within c.if-not-unpack_row.false k below)
          m (omega arith);
    }
