use Rattle.std.proofs.Common.{◌≡◌, ◌∙◌, ap, sym, arith, ℕ}
use Rattle.oe_cell.specs.Operations.{multiply_of}
use Rattle.oe_cell.specs.declared.cell.Cell.{Cell}
use Rattle.oe_cell.specs.declared.cell.Cell.TheVariants.{Number}
use Rattle.oe_kernel.specs.Convolution.{weighted, rows_added, row_added, convolved}
use Rattle.oe_kernel.specs.Rows.{whole_plane_of}
use Rattle.oe_kernel.proofs.KindLemmas.{IsAmount-by_value}
use Rattle.oe_kernel.proofs.SumLemmas.{rows_added-none, rows_added-more, rows_added-same}
use Rattle.oe_kernel.proofs.TotalLemmas.{total_of-zero}
use Rattle.oe_kernel.proofs.WindowLemmas.{weighted-same}
use Rattle.oe_kernel.proofs.convolve.convolve_at.Goals as goal

pub loop-i-init : goal.loop-i-init
loop-i-init c = total_of-zero ∙ sym (rows_added-none _ _)

pub loop-i-preserved : goal.loop-i-preserved
loop-i-preserved c =
    let k = c.args.kernel.now in
    let cells = weighted k c.args.border c.args.replace (whole_plane_of c.args.plane.now) c.args.y c.args.x in
    c.with_kernel_row-total.ensures ∙ ap (λ (t : Cell). row_added (cells c.loop-i.i) k.width t) c.loop-i.invariant ∙ sym (rows_added-more cells k.width c.loop-i.i)

pub returns-clause-value : goal.returns-clause-value
unfolding convolved
returns-clause-value c = λ whole part.
    let k = c.args.kernel.now in
    let all : c.loop-i.i ≡ k.height = omega arith in
    let cells = weighted k c.args.border c.args.replace (whole_plane_of c.args.plane.now) c.args.y c.args.x in
    let total : c.cell_of.result ≡ rows_added (weighted k c.args.border c.args.replace whole c.args.y c.args.x) k.width k.height = c.cell_of.ensures ∙ c.loop-i.invariant ∙ ap (λ (n : ℕ). rows_added cells k.width n) all ∙ rows_added-same cells (weighted k c.args.border c.args.replace whole c.args.y c.args.x) k.width k.height (λ i j i_in j_in. weighted-same k c.args.border c.args.replace c.args.plane.now whole c.args.y c.args.x i j part c.requires.window.rows c.requires.window.columns i_in j_in) in
    c.multiply.ensures.value ∙ ap (λ (t : Cell). multiply_of t (Number c.args.factor)) total

pub returns-clause-amount : goal.returns-clause-amount
returns-clause-amount c =
    IsAmount-by_value c.args.kernel.now c.args.factor c.args.border c.args.replace c.args.plane.now c.args.y c.args.x c.multiply.result (returns-clause-value c)
