use Rattle.std.proofs.Common.{◌≡◌, ◌∙◌, ap, sym, ℕ, w64, to_z, of_z, FitsSigned, rules}
use Rattle.std.specs.Prelude.{ℤ, Some, None}
use Rattle.std.proofs.lemmas.Int.{to_z-of_z}
use Rattle.oe_kernel.specs.Borders.{border_position}
use Rattle.oe_kernel.specs.Convolution.{reach, weighted, row_added}
use Rattle.oe_kernel.specs.Rows.{whole_plane_of, bordered, in_row}
use Rattle.oe_kernel.specs.Totals.{total_of}
use Rattle.oe_kernel.proofs.SumLemmas.{row_added-same}
use Rattle.oe_kernel.proofs.WindowLemmas.{bordered_is_weighted, in_row_is_weighted}
use Rattle.oe_kernel.proofs.convolve.with_kernel_row.Goals as goal

pub returns-in-None : goal.returns-in-None
returns-in-None c =
    let k = c.args.kernel.now in
    let fits : FitsSigned w64 c.reach-at.result = search rules in
    let at : to_z w64 (of_z w64 c.reach-at.result) ≡ reach c.args.y c.args.i k.height = to_z-of_z w64 c.reach-at.result fits ∙ c.reach-at.ensures ∙ ap (λ (n : ℕ). reach c.args.y c.args.i n) c.height.ensures.value in
    let outside : border_position c.args.border.now (reach c.args.y c.args.i k.height) c.args.plane.now.side_y ≡ None = sym (ap (λ (z : ℤ). border_position c.args.border.now z c.args.plane.now.side_y) at) ∙ sym c.index_of.ensures.value ∙ c.in-None.is in
    c.with_border.ensures ∙ ap (λ (n : ℕ). row_added (bordered c.row-values.result.now c.args.border.now) n (total_of c.args.total)) c.row-values.ensures.len ∙ row_added-same _ (weighted k c.args.border.now c.args.replace (whole_plane_of c.args.plane.now) c.args.y c.args.x c.args.i) k.width (total_of c.args.total) (λ j place. bordered_is_weighted k c.args.border.now c.args.replace (whole_plane_of c.args.plane.now) c.args.y c.args.x c.args.i j c.row-values.result.now c.row-values.ensures.value outside place)

pub returns-in-Some : goal.returns-in-Some
returns-in-Some c =
    let k = c.args.kernel.now in
    let fits : FitsSigned w64 c.reach-at.result = search rules in
    let at : to_z w64 (of_z w64 c.reach-at.result) ≡ reach c.args.y c.args.i k.height = to_z-of_z w64 c.reach-at.result fits ∙ c.reach-at.ensures ∙ ap (λ (n : ℕ). reach c.args.y c.args.i n) c.height.ensures.value in
    let inside : border_position c.args.border.now (reach c.args.y c.args.i k.height) c.args.plane.now.side_y ≡ Some c.in-Some.row = sym (ap (λ (z : ℤ). border_position c.args.border.now z c.args.plane.now.side_y) at) ∙ sym c.index_of.ensures.value ∙ c.in-Some.is in
    c.with_row.ensures ∙ ap (λ (n : ℕ). row_added (in_row c.row-values.result.now c.args.border.now c.args.replace c.box_row.result.now c.args.plane.now.from_x c.args.plane.now.side_x c.args.x) n (total_of c.args.total)) c.row-values.ensures.len ∙ row_added-same _ (weighted k c.args.border.now c.args.replace (whole_plane_of c.args.plane.now) c.args.y c.args.x c.args.i) k.width (total_of c.args.total) (λ j place. in_row_is_weighted k c.args.border.now c.args.replace c.args.plane.now c.args.y c.args.x c.args.i j c.in-Some.row c.row-values.result.now c.box_row.result.now c.row-values.ensures.value c.row-values.ensures.len inside c.box_row.ensures.value c.requires.window.columns place)
