-- Worked values of `apply` and `apply_kernel`, by hand.
use Rattle.std.specs.Prelude.{◌≡◌, ℕ, pos, true, List, [], ◌∷◌, map, codes, refl}
use Rattle.oe_cell.specs.Exact.{gcd_within, gcd_of, cell_of_lowest, exact}
use Rattle.oe_cell.specs.Rational.{whole_of}
use Rattle.oe_cell.specs.declared.cell.Cell.{Cell}
use Rattle.oe_cell.specs.declared.cell.Cell.TheVariants.{Empty, Flag, Over}
use Rattle.oe_dims.specs.Cube.{Cube}
use Rattle.oe_dims.specs.declared.kind.CellKind.TheVariants.{Numbers}
use Rattle.oe_graph.specs.Tree as tree
use Rattle.oe_graph.specs.Tree.{PlainGraph}
use Rattle.oe_kernel.specs.Borders.{border_position}
use Rattle.oe_kernel.specs.Convolution.{convolved, row_added, rows_added}
use Rattle.oe_kernel.specs.Kernels.{KernelValues}
use Rattle.oe_kernel.specs.declared.border.Border.{Border}
use Rattle.oe_kernel.specs.declared.border.Border.TheVariants.{Value, Replicate, Reflect, ReflectPixel, Wrap}
use Rattle.oe_expr.specs.Callback.{Callback, callback_of}
use Rattle.oe_expr.specs.Nodes.{down_from}
use Rattle.oe_expr.specs.Scope as scope
use Rattle.oe_meanings.specs.Meaning.{applied, convolution}
use Rattle.oe_check.proofs.WorkedWords.{fraction, whole, cells_of, largest, january_1, january_2, cube_with, pixel, square, line, dated, parameter, node_with, x_and_y, on_two, under}

-- ---- `apply`

-- x + 9223372036854775807
abbrev plus_largest : Callback
plus_largest = under (scope.apply Numbers) (on_two (codes "add") (parameter (codes "x")) (tree.whole (pos 9223372036854775807)))

-- the sum does not fit
too_large : (applied plus_largest (cube_with pixel (cells_of (1 ∷ [])))).cells ≡ Over ∷ []
unfolding down_from exact gcd_of gcd_within cell_of_lowest
too_large = refl

-- where it fits, it is there
second_fits : applied plus_largest (dated (january_1 ∷ january_2 ∷ []) (cells_of (1 ∷ 0 ∷ []))) ≡ dated (january_1 ∷ january_2 ∷ []) (Over ∷ largest ∷ [])
unfolding down_from exact gcd_of gcd_within cell_of_lowest
second_fits = refl

-- x where x > 1, and else null
above_one : PlainGraph
above_one = record {
  nodes =
      node_with (codes "a") (codes "gt") (x_and_y (parameter (codes "x")) (tree.whole (pos 1))) (
      node_with (codes "b") (codes "if") (tree.named (codes "accept") (parameter (codes "x")) (
      tree.named (codes "reject") tree.null (tree.named (codes "value") (tree.from_node (codes "a")) tree.no_named))) tree.no_nodes);
  result = 1;
}

chosen : (applied (under (scope.apply Numbers) above_one) line).cells ≡ Empty ∷ whole 2 ∷ whole 4 ∷ []
unfolding above_one down_from
chosen = refl

-- x / context
halves : (applied (callback_of (on_two (codes "divide") (parameter (codes "x")) (parameter (codes "context"))) (scope.apply Numbers) (whole 2)) line).cells
    ≡ fraction (pos 1) 2 ∷ whole 1 ∷ whole 2 ∷ []
unfolding down_from exact gcd_of gcd_within cell_of_lowest
halves = refl

-- ---- `apply_kernel`

abbrev ones : ℕ → ℕ → List ℕ → KernelValues
ones width height values = record { width = width; height = height; values = map (λ k. whole_of (pos k)) values }

abbrev plainly : KernelValues → Border → Cube Cell → List Cell
plainly kernel border cube = (convolution kernel (whole_of (pos 1)) border (whole_of (pos 0)) cube).cells

-- each of four pixels sees all of them
all_of_square :
    plainly (ones 3 3 (1 ∷ 1 ∷ 1 ∷ 1 ∷ 1 ∷ 1 ∷ 1 ∷ 1 ∷ 1 ∷ [])) (Value (whole_of (pos 0))) square ≡ cells_of (10 ∷ 10 ∷ 10 ∷ 10 ∷ [])
unfolding convolved rows_added row_added border_position exact gcd_of gcd_within cell_of_lowest
all_of_square = refl

-- 1, 2, 4 with neighbours along x
abbrev neighbours : Border → List Cell
neighbours border = plainly (ones 3 1 (1 ∷ 1 ∷ 1 ∷ [])) border line

zeros_outside : neighbours (Value (whole_of (pos 0))) ≡ cells_of (3 ∷ 7 ∷ 6 ∷ [])
unfolding convolved rows_added row_added border_position exact gcd_of gcd_within cell_of_lowest
zeros_outside = refl

replicated : neighbours Replicate ≡ cells_of (4 ∷ 7 ∷ 10 ∷ [])
unfolding convolved rows_added row_added border_position exact gcd_of gcd_within cell_of_lowest
replicated = refl

reflected : neighbours Reflect ≡ cells_of (4 ∷ 7 ∷ 10 ∷ [])
unfolding convolved rows_added row_added border_position exact gcd_of gcd_within cell_of_lowest
reflected = refl

reflected_at_pixel : neighbours ReflectPixel ≡ cells_of (5 ∷ 7 ∷ 8 ∷ [])
unfolding convolved rows_added row_added border_position exact gcd_of gcd_within cell_of_lowest
reflected_at_pixel = refl

wrapped : neighbours Wrap ≡ cells_of (7 ∷ 7 ∷ 7 ∷ [])
unfolding convolved rows_added row_added border_position exact gcd_of gcd_within cell_of_lowest
wrapped = refl

-- 25 pixels that are all the one pixel
five_by_five :
    plainly (ones 5 5 (1 ∷ 1 ∷ 1 ∷ 1 ∷ 1 ∷ 1 ∷ 1 ∷ 1 ∷ 1 ∷ 1 ∷ 1 ∷ 1 ∷ 1 ∷ 1 ∷ 1 ∷ 1 ∷ 1 ∷ 1 ∷ 1 ∷ 1 ∷ 1 ∷ 1 ∷ 1 ∷ 1 ∷ 1 ∷ []))
    ReflectPixel (cube_with pixel (cells_of (2 ∷ [])))
    ≡ cells_of (50 ∷ [])
unfolding convolved rows_added row_added border_position exact gcd_of gcd_within cell_of_lowest
five_by_five = refl

-- not flipped: the kernel's first value meets the pixel on the left; null counts as 5, true as 1, and the factor is 10
not_flipped :
    (convolution (ones 3 1 (1 ∷ 0 ∷ 2 ∷ [])) (whole_of (pos 10)) (Value (whole_of (pos 7))) (whole_of (pos 5))
    (record line { cells = whole 3 ∷ Empty ∷ Flag true ∷ [] })).cells
    ≡ cells_of (170 ∷ 50 ∷ 190 ∷ [])
unfolding convolved rows_added row_added border_position exact gcd_of gcd_within cell_of_lowest
not_flipped = refl

-- 0 times an Over pixel is Over
over_under_zero : (convolution (ones 1 1 (0 ∷ [])) (whole_of (pos 1)) Wrap (whole_of (pos 0)) (cube_with pixel (Over ∷ []))).cells ≡ Over ∷ []
unfolding convolved rows_added row_added border_position
over_under_zero = refl
