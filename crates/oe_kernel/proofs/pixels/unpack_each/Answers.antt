use Rattle.std.proofs.Common.{◌≡◌, ◌<◌, ◌≤◌, ◌≢◌, ◌∙◌, ◌+◌, ℕ, ap, sym, subst, arith, rules, length, get_or-set_other, get_or-set_same, below_more, w64, to_z, of_z, FitsSigned}
use Rattle.std.specs.Prelude.{ℤ, Option, unsigned_abs}
use Rattle.std.proofs.lemmas.Int.{to_z-of_z}
use Rattle.oe_cell.specs.Rational.{whole_of}
use Rattle.oe_cell.specs.declared.cell.Cell.TheVariants.{Number}
use Rattle.oe_kernel.specs.Borders.{border_position}
use Rattle.oe_kernel.specs.Convolution.{reach}
use Rattle.oe_kernel.specs.Rows.{pixel_in}
use Rattle.oe_kernel.proofs.pixels.unpack_each.Goals as goal

pub loop-t-preserved : goal.loop-t-preserved
loop-t-preserved c =
    let t : ℕ = c.loop-t.t in
    let here : c.args.start + t < length c.loop-t.pixels = omega arith in
    let at_fits : FitsSigned w64 c.reach-at.result = search rules in
    let number_fits : FitsSigned w64 c.in-Some.number = search rules in
    let at : to_z w64 (of_z w64 c.reach-at.result) ≡ reach c.args.x t c.args.size = to_z-of_z w64 c.reach-at.result at_fits ∙ c.reach-at.ensures in
    let position : c.index_of.result ≡ border_position c.args.border.now (reach c.args.x t c.args.size) c.args.side = c.index_of.ensures.value ∙ ap (λ (z : ℤ). border_position c.args.border.now z c.args.side) at in
    let pixel : c.pixel_at-pixel.result ≡ pixel_in c.args.border.now c.args.replace c.args.cells.now c.args.from (border_position c.args.border.now (reach c.args.x t c.args.size) c.args.side) = c.pixel_at-pixel.ensures ∙ ap (λ (o : Option ℕ). pixel_in c.args.border.now c.args.replace c.args.cells.now c.args.from o) position in
    let kept : to_z w64 (of_z w64 c.in-Some.number) ≡ c.in-Some.number = to_z-of_z w64 c.in-Some.number number_fits in
    record {
      same = below_more _ _
          (λ j h. let ne : c.args.start + j ≢ c.args.start + t = omega arith in rw get_or-set_other (c.loop-t.invariant.same j h))
          (rw get_or-set_same (sym pixel ∙ c.in-Some.ensures.value ∙ ap (λ (z : ℤ). Number (whole_of z)) (sym kept)));
      size = below_more _ _
          (λ j h. let ne : c.args.start + j ≢ c.args.start + t = omega arith in rw get_or-set_other (c.loop-t.invariant.size j h))
          (rw get_or-set_same (subst (λ (z : ℤ). unsigned_abs z ≤ c.args.bound) (sym kept) c.in-Some.ensures.within));
      before = λ n h. let ne : n ≢ c.args.start + t = omega arith in rw get_or-set_other (c.loop-t.invariant.before n h);
    }
