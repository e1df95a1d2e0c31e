use Rattle.std.proofs.Common.{◌≡◌, ℕ, ℤ, pos, ◌*ℤ◌, w64, to_z, of_z, ap, sym, ◌∙◌, rules}
use Rattle.std.specs.Ordering.{int_cmp}
use Rattle.std.specs.declared.cmp.Ordering.{Ordering}
use Rattle.std.specs.declared.cmp.Ordering.TheVariants.{Equal}
use Rattle.oe_cell.specs.Fraction.{Fraction, IsNumber}
use Rattle.oe_cell.specs.Order.{compare_of}
use Rattle.oe_cell.proofs.NumberLemmas.{Parts, parts_from, num_read}
use Rattle.oe_cell.proofs.Scale.{*ℤ-pos_one}
use Rattle.oe_cell.proofs.OrderLemmas.{compare_of_refl, same_from_compare_of}
use Rattle.oe_cell.proofs.order.compare.Goals as goal

-- the same parts are exactly one number
both : (x y : Fraction) (r : Ordering) → IsNumber x → IsNumber y → r ≡ compare_of x y → ((r ≡ Equal) → x ≡ y) × ((x ≡ y) → r ≡ Equal)
both x y r left right value = (
  λ e. same_from_compare_of x y left right (sym value ∙ e),
  λ e. value ∙ ap (λ (q : Fraction). compare_of x q) (sym e) ∙ compare_of_refl x,
)

whole : (x y : Fraction) (a c : ℤ) (b d : ℕ) (r : Ordering) → Parts x y a c b d → b ≡ 1 → d ≡ 1 → r ≡ int_cmp (to_z w64 (of_z w64 a)) (to_z w64 (of_z w64 c)) → r ≡ compare_of x y
whole x y a c b d r h first second e =
    let left : to_z w64 (of_z w64 a) ≡ x.num *ℤ pos y.den = num_read a x.num h.a_is h.p_number.num_fits ∙ sym (*ℤ-pos_one x.num) ∙ ap (λ (n : ℕ). x.num *ℤ pos n) (sym second ∙ h.d_is) in
    let right : to_z w64 (of_z w64 c) ≡ y.num *ℤ pos x.den = num_read c y.num h.c_is h.q_number.num_fits ∙ sym (*ℤ-pos_one y.num) ∙ ap (λ (n : ℕ). y.num *ℤ pos n) (sym first ∙ h.b_is) in
    e ∙ ap (λ (z : ℤ). int_cmp z (to_z w64 (of_z w64 c))) left ∙ ap (λ (z : ℤ). int_cmp (x.num *ℤ pos y.den) z) right

pub returns-then-d-eq1-clause-value : goal.returns-then-d-eq1-clause-value
returns-then-d-eq1-clause-value c =
    whole c.args.x c.args.y c.parts-a.result.0 c.parts-c.result.0 c.parts-a.result.1 c.parts-c.result.1 c.cmp.result (parts_from c.parts-a.ensures.number c.parts-a.ensures.num c.parts-a.ensures.den c.parts-c.ensures.number c.parts-c.ensures.num c.parts-c.ensures.den) c.if-b-eq1.true c.if-d-eq1.true c.cmp.ensures

pub returns-then-d-eq1-clause-same : goal.returns-then-d-eq1-clause-same
returns-then-d-eq1-clause-same c =
    both c.args.x c.args.y c.cmp.result c.parts-a.ensures.number c.parts-c.ensures.number (returns-then-d-eq1-clause-value c)

pub returns-clause-same : goal.returns-clause-same
returns-clause-same c =
    let value : c.cmp-2.result ≡ compare_of c.args.x c.args.y = search rules in
    both c.args.x c.args.y c.cmp-2.result c.parts-a.ensures.number c.parts-c.ensures.number value
