use Rattle.std.proofs.Common.{◌≡◌, ◌<◌, ◌^◌, arith, sym, ap, ◌∙◌, w64, to_z, of_z, ℤ, ◌+ℤ◌, ◌*ℤ◌, FitsSigned, rules, subst}
use Rattle.std.specs.Prelude.{unsigned_abs}
use Rattle.std.proofs.lemmas.Int.{ints, to_z-of_z}
use Rattle.oe_cell.specs.Exact.{cell_of_lowest}
use Rattle.oe_cell.specs.Operations.{add_of, multiply_of}
use Rattle.oe_cell.specs.declared.cell.Cell.{Cell}
use Rattle.oe_cell.specs.declared.cell.Cell.TheVariants.{Number}
use Rattle.oe_kernel.proofs.TotalLemmas.{whole_sum, sum_kept}
use Rattle.oe_kernel.proofs.total.whole_sum.Goals as goal

pub returns : goal.returns
returns c =
    let left_fits : FitsSigned w64 c.num-2.result = search rules in
    let right_fits : FitsSigned w64 c.num-3.result = search rules in
    let product_fits : FitsSigned w64 c.in_ok-product.product = search rules in
    let next_fits : FitsSigned w64 c.in_ok-next.next = search rules in
    let left : to_z w64 (of_z w64 c.num-2.result) ≡ c.args.value.num = to_z-of_z w64 c.num-2.result left_fits ∙ c.num-2.ensures.value in
    let right : to_z w64 (of_z w64 c.num-3.result) ≡ c.in-Number.number.num = to_z-of_z w64 c.num-3.result right_fits ∙ c.num-3.ensures.value in
    let product : c.in_ok-product.product ≡ c.args.value.num *ℤ c.in-Number.number.num = c.in_ok-product.ensures.1 ∙ ap (λ (z : ℤ). z *ℤ to_z w64 (of_z w64 c.num-3.result)) left ∙ ap (λ (z : ℤ). c.args.value.num *ℤ z) right in
    let next : c.in_ok-next.next ≡ c.args.sum +ℤ c.in_ok-product.product = c.in_ok-next.ensures.1 ∙ ap (λ (z : ℤ). z +ℤ to_z w64 (of_z w64 c.in_ok-product.product)) (to_z-of_z w64 c.args.sum c.ranges.sum) ∙ ap (λ (z : ℤ). c.args.sum +ℤ z) (to_z-of_z w64 c.in_ok-product.product product_fits) in
    let sum_size : unsigned_abs c.args.sum < 2 ^ 63 = omega (arith, ints) in
    let product_size : unsigned_abs c.in_ok-product.product < 2 ^ 63 = omega (arith, ints) in
    let left_whole : c.args.value.den ≡ 1 = omega arith in
    let right_whole : c.in-Number.number.den ≡ 1 = omega arith in
    let sum_is : cell_of_lowest c.in_ok-next.next 1 ≡ add_of (cell_of_lowest c.args.sum 1) (multiply_of (Number c.args.value) (Number c.in-Number.number)) = whole_sum c.args.sum c.in_ok-next.next c.args.value c.in-Number.number left_whole right_whole sum_size (subst (λ (z : ℤ). unsigned_abs z < 2 ^ 63) product product_size) (next ∙ ap (λ (z : ℤ). c.args.sum +ℤ z) product) in
    ap (λ (z : ℤ). cell_of_lowest z 1) (to_z-of_z w64 c.in_ok-next.next next_fits) ∙ sum_is ∙ ap (λ (p : Cell). add_of (cell_of_lowest c.args.sum 1) (multiply_of (Number c.args.value) p)) (sym c.in-Number.is)

pub returns-then-num-eq0 : goal.returns-then-num-eq0
returns-then-num-eq0 c =
    let fits : FitsSigned w64 c.num.result = search rules in
    let zero = sym c.num.ensures.value ∙ sym (to_z-of_z w64 c.num.result fits) ∙ ap (to_z w64) c.if-num-eq0.true in
    let kept = sum_kept c.args.sum c.args.value c.in-Number.number c.num.ensures.number c.den-den.ensures.number zero in
    ap (λ (z : ℤ). cell_of_lowest z 1) (to_z-of_z w64 c.args.sum c.ranges.sum) ∙ kept ∙ ap (λ (p : Cell). add_of (cell_of_lowest c.args.sum 1) (multiply_of (Number c.args.value) p)) (sym c.in-Number.is)
