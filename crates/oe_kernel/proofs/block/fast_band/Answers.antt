use Rattle.std.proofs.Common.{◌≡◌, ◌<◌, ◌≤◌, ◌∙◌, ◌+◌, ◌-◌, ◌*◌, ℕ, ap, sym, refl, arith, get_or, take}
use Rattle.std.specs.Prelude.{pos}
use Rattle.std.proofs.Math.Nat.{mul-le-mul_left}
use Rattle.std.proofs.lemmas.List.{get_or-take}
use Rattle.std.proofs.lemmas.Grind.{common_steps}
use Rattle.oe_cell.specs.Operations.{multiply_of}
use Rattle.oe_cell.specs.Rational.{whole_of}
use Rattle.oe_cell.specs.declared.cell.Cell.TheVariants.{Empty, Number}
use Rattle.oe_kernel.specs.Convolution.{rows_added, weighted}
use Rattle.oe_kernel.specs.Rows.{whole_plane_of}
use Rattle.oe_kernel.specs.Strips.{unpacked}
use Rattle.oe_kernel.specs.declared.block.TheConstants.{BLOCK_PIXELS}
use Rattle.oe_kernel.proofs.ProgressLemmas.{row_before}
use Rattle.oe_kernel.proofs.StripLemmas.{strip_convolved, block_cell}
use Rattle.oe_kernel.proofs.SumLemmas.{rows_added-same}
use Rattle.oe_kernel.proofs.WindowLemmas.{CoversPixels-windows}
use Rattle.oe_kernel.proofs.block.fast_band.Goals as goal

-- a factor of a product is no more than the product where the other is above 0
first_most : (a b n : ℕ) → a * b ≤ n → 0 < b → a ≤ n
first_most a b n h some =
    let grow : a * 1 ≤ a * b = mul-le-mul_left a some in
    omega arith

second_most : (a b n : ℕ) → a * b ≤ n → 0 < a → b ≤ n
second_most a b n h some =
    let turn : b * a ≡ a * b = omega arith in
    let grow : b * 1 ≤ b * a = mul-le-mul_left b some in
    omega arith

pub unpack_rows-requires-clause-pixels : goal.unpack_rows-requires-clause-pixels
unpack_rows-requires-clause-pixels c =
    let kernel = c.args.kernel.now in
    let plane = c.args.plane.now in
    let windows = c.requires.piece.windows in
    let high : ℕ = c.args.rows + kernel.height - 1 in
    let wide : ℕ = c.args.columns + kernel.width - 1 in
    let rows_most : high ≤ BLOCK_PIXELS = first_most high wide BLOCK_PIXELS c.requires.room (omega arith) in
    let columns_most : wide ≤ BLOCK_PIXELS = second_most high wide BLOCK_PIXELS c.requires.room (omega arith) in
    let rows = CoversPixels-windows c.args.border.now c.args.y c.args.rows kernel.height (c.args.rows + c.height.result - 1) plane.side_y plane.from_y plane.to_y windows.rows_covered (omega arith) c.requires.piece.some_rows (omega arith) in
    let columns = CoversPixels-windows c.args.border.now c.args.x c.args.columns kernel.width (c.args.columns + c.width.result - 1) plane.side_x plane.from_x plane.to_x windows.columns_covered (omega arith) c.requires.piece.some_columns (omega arith) in
    λ row h. record {
      plane = windows.plane;
      x_in = omega arith;
      y_in = omega arith;
      row_most = omega arith;
      row_covered = rows.each row h;
      some = omega arith;
      most = omega arith;
      columns_covered = columns;
    }

pub returns-clause-value : goal.returns-clause-value
returns-clause-value c = λ yes whole part row k row_in k_in.
    let kernel = c.args.kernel.now in
    let plane = c.args.plane.now in
    let columns : ℕ = c.args.columns in
    let stride : ℕ = columns + c.width.result - 1 in
    let under : ℕ = c.args.rows + c.height.result - 1 in
    let pixels = take (under * stride) c.unpack_rows.new.pixels in
    let wide : columns + kernel.width - 1 ≡ stride = ap (λ (n : ℕ). columns + n - 1) (sym c.width.ensures.value) in
    let written = c.write_rows.ensures.value row k row_in k_in ∙ ap (λ (s : ℕ). multiply_of (rows_added (unpacked kernel pixels s (row * s + k)) kernel.width kernel.height) (Number c.args.factor)) wide in
    strip_convolved kernel c.args.factor c.args.border.now c.args.replace plane whole (c.args.y + row) (c.args.x + k) (get_or c.write_rows.new.out (c.args.start + (row * columns + k)) Empty) (rows_added (unpacked kernel pixels stride (row * stride + k)) kernel.width kernel.height) part (c.requires.piece.windows.rows_covered row row_in) (c.requires.piece.windows.columns_covered k k_in)
    (rows_added-same _ (weighted kernel c.args.border.now c.args.replace (whole_plane_of plane) (c.args.y + row) (c.args.x + k)) kernel.width kernel.height (λ i j i_in j_in.
    let place : (row + i) * stride + (k + j) < under * stride = row_before (row + i) (k + j) under stride (omega arith) (omega arith) in
    block_cell kernel c.args.border.now c.args.replace plane c.args.y c.args.x row k i j stride (row * stride + k) pixels refl
    (c.unpack_rows.ensures.value c.if-not-unpack_rows.false (row + i) (k + j) (omega arith) (omega arith) ∙ ap (λ z. Number (whole_of z)) (sym (get_or-take (under * stride) c.unpack_rows.new.pixels ((row + i) * stride + (k + j)) (pos 0) place)))))
    written

pub write_rows-requires-clause-pixels : goal.write_rows-requires-clause-pixels
write_rows-requires-clause-pixels c = grind (arith, common_steps) steps 2000000
